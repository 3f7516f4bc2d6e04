use Rattle.std.proofs.Common.{◌≡◌, ◌+◌, ◌-◌, ◌≤◌}
use Rattle.bundle.specs.Tapes.{all_tapes}
use Rattle.trail.specs.Projection.{grown}
use Rattle.trail.specs.Levels.{entries, level, Kept}
use Rattle.trail.proofs.trial.Trial.run.Given as goal

abbrev pub invariant-loop-at : goal.invariant-loop-at
invariant-loop-at g l =
    record {
      same_head : l.self.head.ghost_name ≡ l.fn.self.head.ghost_name;
      saved : l.self.saved ≡ l.fn.self.saved;
      behind : l.self.head.now.start ≡ l.end;
      few : l.fn.self.saved.start + l.self.head.now.count ≤ l.at;
      kept : Kept l.end l.initial.rows l.rows;
      grows : level l.rows l.self.head.now ≡ grown g.K.Kind.order (all_tapes l.tapes) l.event (entries l.initial.rows.tapes l.initial.rows.places l.fn.self.saved.start (l.at - l.fn.self.saved.start));
    }
