use Rattle.std.proofs.Common.{◌≡◌, Bool, true, ◌↔◌, sym, subst}
use Rattle.regular.specs.Expressions.{tree_of, meets}
use Rattle.regular.specs.Regex.{Barren}
use Rattle.regular.proofs.Standing.{barren_exactly, none_ahead_barren}
use Rattle.regular.proofs.expression.Expression.barren.Goals as goal

pub returns : goal.returns
returns g c =
    let order = g.K.Kind.order in
    let x = c.args.self.now in
    let list = c.args.list.now in
    let value = none_ahead_barren order x list c.read.result c.read.ensures c.is_empty.result c.is_empty.ensures in
    record {
      value = value;
      exact = λ e. subst (λ (b : Bool). (b ≡ true) ↔ Barren (meets order x) (tree_of x) list) (sym value) (barren_exactly order x g.met.K.Kind.alike_itself e list);
    }
