use Rattle.std.proofs.Common.{◌≡◌, ℕ, ◌-◌, List, ◌++◌, length, take, Some, None, Ok, Option, Result, sym, ap, ◌∙◌, subst, arith}
use Rattle.event.specs.declared.order.Order.{Order}
use Rattle.event.specs.declared.refusal.Refusal.{Refusal}
use Rattle.matching.specs.Picks.{picked, Within}
use Rattle.filter.specs.Filters.{all_wants}
use Rattle.law.specs.Transcripts.{Next, pattern}
use Rattle.session.specs.declared.session.Session.{Session}
use Rattle.session.specs.Calls.{says_next}
use Rattle.session.specs.Sessions.{opening_of, Extends}
use Rattle.report.specs.Texts.{pattern_text}
use Rattle.catalog.proofs.Reading.{within, eligible, hands_out, nearer, never_refused, read_more, read_to_end}
use Rattle.catalog.proofs.patterns.append_patterns.Given.{Over}
use Rattle.catalog.proofs.patterns.append_patterns.Goals.{In-Ok-Some, in_default, in_default-2}
use Rattle.catalog.proofs.patterns.append_patterns.Goals as goal

-- what a next that handed out a pattern says
handed : {K : Type 0} (order : K → K → Order) (s t : Session K) (m : ℕ) (row : List ℕ) (x : Option (ℕ × ℕ)) (n support : ℕ) → x ≡ Some (n, support) → Extends order (Next all_wants m) (says_next (Ok x) row) s t → Extends order (Next all_wants m) (pattern (take n row) support) s t
handed order s t m row x n support is e = subst (λ (y : Option (ℕ × ℕ)). Extends order (Next all_wants m) (says_next (Ok y) row) s t) is e

module _ (g : Over) (c : In-Ok-Some g) where
  handed_out : Extends g.K.Kind.order (Next all_wants (length c.loop-length.places)) (pattern (take c.in-Ok-Some.length c.next.new.row) c.in-Ok-Some.support) c.loop-length.session c.next.new.self
  handed_out = handed g.K.Kind.order c.loop-length.session c.next.new.self (length c.loop-length.places) c.next.new.row c.in-Ok-Some.field-0 c.in-Ok-Some.length c.in-Ok-Some.support c.in-Ok-Some.field-0-is c.in-Ok-Some.ensures.extends

pub append_pattern-requires : goal.append_pattern-requires
append_pattern-requires g c =
    let o = opening_of c.args.opening.now in
    let x = c.loop-length.invariant.0 in
    let row = c.next.new.row in
    let n = c.in-Ok-Some.length in
    let e : n - 0 ≡ n = omega arith in
    subst (λ (k : ℕ). Within (take k row) (length o.lexicon)) (sym e)
    (within (length o.lexicon) (take n row) (eligible g.K.Kind.order o c.loop-length.session x.transcript x.stands x.reads c.next.new.self (length c.loop-length.places) (take n row) c.in-Ok-Some.support (handed_out g (goal.at.append_pattern-requires g c).In-Ok-Some x.transcript x.stands)).pattern.2)

pub loop-length-smaller : goal.loop-length-smaller
loop-length-smaller g c =
    let x = c.loop-length.invariant.0 in
    nearer g.K.Kind.order (opening_of c.args.opening.now) c.loop-length.session x.transcript x.stands x.reads c.next.new.self (length c.loop-length.places) (take c.in-Ok-Some.length c.next.new.row) c.in-Ok-Some.support
    (handed_out g (goal.at.loop-length-smaller g c).In-Ok-Some x.transcript x.stands)

pub loop-length-preserved : goal.loop-length-preserved
loop-length-preserved g c =
    let order = g.K.Kind.order in
    let label = g.K.Kind.label in
    let o = opening_of c.args.opening.now in
    let x = c.loop-length.invariant.0 in
    let s = c.loop-length.session in
    let t = c.next.new.self in
    let m = length c.loop-length.places in
    let n = c.in-Ok-Some.length in
    let row = c.next.new.row in
    let support = c.in-Ok-Some.support in
    let is = c.loop-length.page in
    let e : n - 0 ≡ n = omega arith in
    let st = hands_out order o s x.transcript x.stands x.reads t m (take n row) support (handed_out g (goal.at.loop-length-preserved g c).In-Ok-Some x.transcript x.stands) in
    let more = c.in_ok-append_pattern.ensures ∙ ap (λ (k : ℕ). is ++ pattern_text label support (picked o.lexicon (take k row))) e in
    (read_more order o label s t c.args.page.now is c.append_pattern.new.page x m (take n row) support st more, omega (arith, c.loop-length.invariant.1, c.next.auto.row))

pub returns : goal.returns
returns g c =
    let order = g.K.Kind.order in
    let o = opening_of c.args.opening.now in
    let s = c.loop-length.session in
    let t = c.next.new.self in
    let m = length c.loop-length.places in
    let x = c.loop-length.invariant in
    let extends = λ (r : Result (Option (ℕ × ℕ)) Refusal). Extends order (Next all_wants m) (says_next r c.next.new.row) s t in
    elim c.match-next.branch [
      | in_default w ↦ (
          let none : w.in_default.field-0 ≡ None = cc in
          read_to_end order o g.K.Kind.label s t c.args.page.now c.loop-length.page x.0 m (subst extends (w.in_default.is ∙ ap Ok none) c.next.ensures.extends)
          )
      | in_default-2 w ↦ absurd (never_refused order o s x.0.transcript x.0.stands x.0.reads t m (omega (arith, x.1)) w.in_default.field-0 (subst extends w.in_default.is c.next.ensures.extends x.0.transcript x.0.stands))
    ]
