use Rattle.std.proofs.Common.{ℕ, sym, subst}
use Rattle.std.proofs.lemmas.Bool.{eqb-true, eq-eqb}
use Rattle.regular.specs.Members.{Empty}
use Rattle.regular.proofs.Sets.{of_bits, member_none, none_only}
use Rattle.regular.proofs.set.Places.is_empty.Goals as goal

pub returns : goal.returns
returns c = (
  λ h. subst (λ (n : ℕ). Empty (of_bits n)) (sym (eqb-true c.args.self.bits 0 h)) member_none,
  λ h. eq-eqb c.args.self.bits 0 (none_only c.args.self h),
)
