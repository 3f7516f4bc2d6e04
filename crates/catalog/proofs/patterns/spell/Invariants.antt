use Rattle.std.proofs.Common.{◌≡◌, take, vec_items}
use Rattle.matching.specs.Picks.{picked}
use Rattle.catalog.proofs.patterns.spell.Given as goal

abbrev pub invariant-loop-place : goal.invariant-loop-place
invariant-loop-place g l = vec_items l.pattern ≡ picked l.lexicon (take l.place-index l.places)
