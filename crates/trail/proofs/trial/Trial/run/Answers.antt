use Rattle.std.proofs.Common.{ℕ, ◌-◌, List, [], ◌∷◌, ◌++◌, Some, None, sym, ap, ◌∙◌, append-nil, arith}
use Rattle.bundle.specs.Tapes.{all_tapes}
use Rattle.trail.specs.Levels.{end}
use Rattle.trail.specs.Trials.{reaching}
use Rattle.trail.proofs.Growing.{kept_more, entries_more, grown_at, too_few, counted}
use Rattle.trail.proofs.trial.Trial.run.Goals as goal

pub returns-then-self-end-clause-answer : goal.returns-then-self-end-clause-answer
returns-then-self-end-clause-answer g c =
    let inv = c.loop-at.invariant in
    too_few g.K.Kind.order (all_tapes c.args.tapes) c.args.event.now c.args.rows.now c.args.self.now.saved c.loop-at.rows c.loop-at.self.head.now (c.loop-at.at - c.args.self.now.saved.start) inv.grows c.args.need (omega arith) (omega arith)

pub loop-at-preserved : goal.loop-at-preserved
loop-at-preserved g c =
    let inv = c.loop-at.invariant in
    let first = c.args.rows.now in
    let level = c.args.self.now.saved in
    let head = c.loop-at.self.head.now in
    let entry = c.entry-tape.result in
    let next = c.in-Some.next in
    let laid = rw c.end.ensures at c.lay.ensures in
    record {
      same_head = inv.same_head;
      saved = inv.saved;
      behind = inv.behind;
      few = omega arith;
      kept = kept_more c.end-end.result (end head) first c.loop-at.rows c.lay.new.self (omega arith) inv.kept laid.kept;
      grows = entries_more c.loop-at.rows c.lay.new.self head.start head.count (entry.0, next) laid.kept laid.laid
          ∙ ap (λ (entries : List (ℕ × ℕ)). entries ++ (entry.0, next) ∷ []) inv.grows
          ∙ sym (grown_at g.K.Kind.order (all_tapes c.args.tapes) c.args.event.now first level c.loop-at.rows c.loop-at.at entry (Some next) (omega arith) (omega arith) (rw c.end-end.ensures at inv.kept) c.entry-tape.ensures c.in-Some.ensures);
    }

pub loop-at-preserved-in_default : goal.loop-at-preserved-in_default
loop-at-preserved-in_default g c =
    let inv = c.loop-at.invariant in
    record {
      same_head = inv.same_head;
      saved = inv.saved;
      behind = inv.behind;
      few = omega arith;
      kept = inv.kept;
      grows = inv.grows
          ∙ sym (append-nil _)
          ∙ sym (grown_at g.K.Kind.order (all_tapes c.args.tapes) c.args.event.now c.args.rows.now c.args.self.now.saved c.loop-at.rows c.loop-at.at c.entry-tape.result None (omega arith) (omega arith) (rw c.end-end.ensures at inv.kept) c.entry-tape.ensures c.in_default.ensures);
    }

pub returns-clause-answer : goal.returns-clause-answer
returns-clause-answer g c =
    let level = c.args.self.now.saved in
    let inv = c.loop-at.invariant in
    c.then_some.ensures
    ∙ ap (reaching c.args.need) (counted g.K.Kind.order (all_tapes c.args.tapes) c.args.event.now c.args.rows.now level c.loop-at.rows c.loop-at.self.head.now (c.loop-at.at - level.start) inv.grows (omega arith))
