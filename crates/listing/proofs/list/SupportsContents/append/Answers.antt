use Rattle.std.proofs.Common.{◌≡◌, ℕ, List, ◌++◌, length, None, Ok, Option, sym, ap, ◌∙◌, arith}
use Rattle.std.specs.List.{flat_map}
use Rattle.std.specs.Slice.Iter.{chunks_rest}
use Rattle.event.specs.declared.refusal.Refusal.{Refusal}
use Rattle.bundle.specs.Tapes.{tapes}
use Rattle.matching.specs.Checks.{or_refused}
use Rattle.matching.specs.Rows.{bundle_refusal}
use Rattle.matching.specs.Support.{support}
use Rattle.report.specs.Texts.{pattern_text}
use Rattle.listing.specs.Replies.{event_text}
use Rattle.listing.proofs.Appending.{more_text}
use Rattle.listing.proofs.list.SupportsContents.append.Goals as goal

-- where nothing is refused the answer is the value
answered : (o : Option Refusal) (m n : ℕ) → o ≡ None → Ok m ≡ or_refused o n → m ≡ n
answered o m n none is = let e = ap (λ (p : Option Refusal). or_refused p n) none in cc

pub loop-pattern-preserved : goal.loop-pattern-preserved
loop-pattern-preserved g c =
    let order = g.K.Kind.order in
    let label = g.K.Kind.label in
    let rows = c.args.rows.now in
    let ts = tapes rows.tapes.events.now rows.tapes.offsets.now in
    let p = c.in-Some.pattern.now in
    let was = c.loop-pattern.page in
    let s = c.in-Some.ensures.steps in
    let n : c.in_ok-support.support ≡ support order ts p = answered (bundle_refusal (length rows.tapes.events.now) rows.tapes.offsets.now) c.in_ok-support.support (support order ts p) rows.accepted (sym c.in_ok-support.was ∙ c.support_of.ensures) in
    let more = c.in_ok-append.ensures ∙ ap (λ (k : ℕ). was ++ pattern_text label k p) n in (
      more_text order label ts p (chunks_rest c.next.new.self) was c.append.new.self (omega (arith, s.1.1)) more
          ∙ ap (λ (l : List _). was ++ flat_map (event_text order label ts) l) (sym s.1.0)
          ∙ c.loop-pattern.invariant.0,
      s.0 ∙ c.loop-pattern.invariant.1,
    )
