use Rattle.std.proofs.Common.{◌≡◌, ℕ, ◌<◌, is_err, IfSome, Option, refl, sym, subst, arith, rules, tests}
use Rattle.std.proofs.lemmas.Iterator.{YieldsList-from_range}
use Rattle.std.proofs.lemmas.Iterator.Search.{find_from_yields_List}
use Rattle.event.specs.declared.refusal.Refusal.TheVariants as refusal
use Rattle.event.specs.Rows.{or_else}
use Rattle.bundle.specs.Bundles.{event_in, wrong_event}
use Rattle.bundle.proofs.Events.{wrong_found, wrong_within}
use Rattle.bundle.proofs.reader.BundleFile.wrong_event.Goals as goal

pub returns : goal.returns
returns g c =
    let f = c.args.self.now in
    let stands = g.K.Kind.stands in
    let found = find_from_yields_List (λ i. is_err (or_else refusal.Event (event_in f.width stands f.bytes.now i))) _ _ c.find.result c.find.ensures.ran (YieldsList-from_range 0 f.events f.events refl (omega arith)) (λ x b q k. search (rules, tests)) in
    let lowest : c.find.result ≡ wrong_event f.width stands f.bytes.now = wrong_found f.width stands f.bytes.now refusal.Event f.events c.find.result f.event_count found in
    record { lowest = lowest; within = subst (λ (o : Option ℕ). IfSome o (λ i. i < f.events)) (sym lowest) (wrong_within f.width stands f.bytes.now f.events f.event_count) }
