use Rattle.std.proofs.Common.{◌≡◌, ℕ, ◌≤◌, length, vec_items, sym, ap, ◌∙◌, subst, arith}
use Rattle.std.proofs.lemmas.Result.{err_from_is_err_and}
use Rattle.grammar.proofs.Numbers.{reads_numbered, reads_leaves}
use Rattle.regular.specs.Automata.{Numbered}
use Rattle.regular.specs.Trees.{tree}
use Rattle.expression.specs.Cuts.{spans_in}
use Rattle.expression.proofs.Texts.{not_read, read_as}
use Rattle.expression.proofs.Leaves.{leaves_counted}
use Rattle.expression.proofs.read.read_expression.Goals as goal

pub new-requires-2 : goal.new-requires-2
new-requires-2 g c =
    let labelled = g.K.Kind.labelled in
    let cut = c.in_ok-cut.cut.text.now in
    let whole = c.in_ok-rooted.ensures in
    let all : length (vec_items c.in_ok-leaves.leaves) ≡ whole.leaves =
    ap length c.in_ok-leaves.ensures ∙ leaves_counted labelled cut (spans_in cut) ∙ sym (reads_leaves whole.reads) in
    let read = c.in_ok-rooted.rooted in
    record {
      numbered = subst (λ (n : ℕ). Numbered (tree (vec_items read.table.nodes) read.root) 0 n) (sym all) (reads_numbered whole.reads);
      few = subst (λ (n : ℕ). n ≤ 60) (sym all) whole.few;
    }

pub returns-in_err-rooted : goal.returns-in_err-rooted
returns-in_err-rooted g c =
    let h = c.in_err-rooted.ensures in
    let p = err_from_is_err_and c.from_residual-in_err-rooted.result c.from_residual-in_err-rooted.ensures.1 in
    rw (p.1, p.2, h.2) (not_read g.K.Kind.labelled c.args.text.now (omega arith) _ _ c.in_ok-cut.ensures h.1)

pub returns : goal.returns
returns g c =
    let made = c.in_ok-expression.ensures in
    read_as g.K.Kind.labelled c.args.text.now (omega arith) _ _ _ _ c.in_ok-cut.ensures c.in_ok-rooted.ensures made.tree (made.labels ∙ c.in_ok-leaves.ensures)
