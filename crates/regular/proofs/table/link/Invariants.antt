use Rattle.std.proofs.Common.{◌≡◌, ℕ, ◌<◌, ◌&&◌, ◌||◌, ltb, length}
use Rattle.regular.specs.Members.{member, behind}
use Rattle.regular.proofs.table.link.Given as goal

abbrev pub invariant-loop-place : goal.invariant-loop-place
invariant-loop-place l =
    (p q : ℕ) → p < length l.initial.follow → behind l.follow p q ≡ (behind l.initial.follow p q || (ltb p l.place && (member l.from p && member l.to q)))
