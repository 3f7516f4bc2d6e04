use Rattle.std.proofs.Common.{◌≡◌, [], ◌∷◌, Some, None, Option, refl, ap}
use Rattle.event.specs.declared.refusal.Refusal.{Refusal}
use Rattle.bundle.specs.Bundles.{events_of, file_fault}
use Rattle.matching.specs.Checks.{first_wrong}
use Rattle.matching.specs.Learning.{learn_refusal}
use Rattle.reply.specs.Listed.{then_session}
use Rattle.listing.proofs.list.only_learning.Goals as goal

first_decides : (o : Option Refusal) → first_wrong (o ∷ None ∷ []) ≡ o
first_decides None = refl
first_decides (Some r) = refl

pub returns : goal.returns
returns g c =
    let k = g.K.Kind in
    λ query file. ap (then_session (file_fault k.NUMBER k.WIDTH k.stands file)) (first_decides (learn_refusal k.order (events_of k.WIDTH k.stands file) 1024))
