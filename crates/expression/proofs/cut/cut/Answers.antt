use Rattle.std.proofs.Common.{◌≡◌, ℕ, List, ◌++◌, length, vec_items, Option, sym, ap, ◌∙◌, arith}
use Rattle.std.specs.Option.{option_to_list}
use Rattle.std.proofs.lemmas.List.{drop_all}
use Rattle.event.specs.declared.span.Span.{Span}
use Rattle.expression.specs.Cuts.{lone, spans_from}
use Rattle.expression.proofs.Cutting.{extended, cut_more}
use Rattle.expression.proofs.cut.cut.Goals as goal

pub loop-at-preserved : goal.loop-at-preserved
loop-at-preserved c =
    let xs = vec_items c.loop-at.spans in
    let ys = vec_items c.extend.new.self in
    let zs = vec_items c.extend-in-loop-at.new.self in
    let e = extended c.ended_before.result xs ys c.extend.result _ (λ it b. b.0) (λ l p. p.0) c.extend.ensures.ran c.in_ok-extend.was in
    let f = extended c.alone_at.result ys zs c.extend-in-loop-at.result _ (λ it b. b.0) (λ l p. p.0) c.extend-in-loop-at.ensures.ran c.in_ok-extend-2.was in
    cut_more c.args.text.now c.loop-at.at c.loop-at.open.begun xs _ c.loop-at.invariant
    ys zs c.ended_before.result c.alone_at.result c.behind-open.result.begun c.loop-at-test.true
    e f c.ended_before.ensures c.alone_at.ensures c.behind-open.ensures

pub returns : goal.returns
returns c =
    let text = c.args.text.now in
    let end : c.loop-at.at ≡ length text = omega arith in
    let xs = vec_items c.loop-at.spans in
    let begun = c.loop-at.open.begun in
    extended c.ended_at.result xs (vec_items c.extend-2.new.self) c.extend-2.result _ (λ it b. b.0) (λ l p. p.0) c.extend-2.ensures.ran c.in_ok-extend-3.was
    ∙ ap (λ (o : Option Span). xs ++ option_to_list o) c.ended_at.ensures
    ∙ ap (λ (n : ℕ). xs ++ option_to_list (lone begun n)) (sym end)
    ∙ ap (λ (l : List ℕ). xs ++ spans_from c.loop-at.at begun l) (sym (drop_all c.loop-at.at text (omega arith)))
    ∙ c.loop-at.invariant
