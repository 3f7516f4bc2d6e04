use Rattle.std.proofs.Common.{ℕ, length, ◌∙◌, subst, arith}
use Rattle.regular.specs.Machine.{Made}
use Rattle.regular.specs.Rooted.{rooted_tree}
use Rattle.regular.proofs.Numbers.{numbered_test}
use Rattle.regular.proofs.expression.Expression.new.Goals as goal

pub invariant_of-result : goal.invariant_of-result
invariant_of-result g c =
    let t = rooted_tree c.args.rooted in
    let a = numbered_test t 0 (length c.args.labels.items) c.requires.numbered in
    record {
      ordered = a.0;
      counted = a.1 ∙ omega arith;
      made = subst (λ (k : ℕ). Made t k c.in_ok-automaton.automaton) (c.len.ensures ∙ c.args.labels.ok.0) c.in_ok-automaton.ensures;
    }
