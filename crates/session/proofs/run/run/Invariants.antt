use Rattle.std.proofs.Common.{List, take, vec_items}
use Rattle.law.specs.Law.{AllAsk}
use Rattle.law.specs.Openings.{Opening}
use Rattle.law.specs.Transcripts.{Exchange}
use Rattle.session.specs.Runs.{Transcript}
use Rattle.session.specs.Sessions.{Stands}
use Rattle.session.proofs.run.run.Given as goal

-- the calls so far have a transcript, for which the session stands
abbrev pub invariant-loop-call : goal.invariant-loop-call
invariant-loop-call g l =
    (h : List (Exchange (Opening _) _))
    × Transcript (g.F.Filter.wants l.filter) (take l.call-index l.calls) (vec_items l.answers) h
    × Stands g.K.Kind.order l.session h
    × AllAsk (g.F.Filter.wants l.filter) h
