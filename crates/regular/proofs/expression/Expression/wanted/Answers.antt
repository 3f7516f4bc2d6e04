use Rattle.std.proofs.Common.{◌≡◌, Bool, true, ◌↔◌, sym, subst}
use Rattle.regular.specs.Expressions.{tree_of, meets}
use Rattle.regular.specs.Regex.{In}
use Rattle.regular.proofs.Standing.{wants_exactly, ended_wants}
use Rattle.regular.proofs.expression.Expression.wanted.Goals as goal

pub returns : goal.returns
returns g c =
    let order = g.K.Kind.order in
    let x = c.args.self.now in
    let list = c.args.list.now in
    let value = ended_wants order x list c.read.result c.read.ensures in
    record {
      value = value;
      exact = subst (λ (b : Bool). (b ≡ true) ↔ In (meets order x) (tree_of x) list) (sym value) (wants_exactly order x list);
    }
