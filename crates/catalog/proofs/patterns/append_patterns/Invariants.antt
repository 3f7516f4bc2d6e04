use Rattle.std.proofs.Common.{◌≡◌, length}
use Rattle.law.specs.Lists.{remaining}
use Rattle.search.specs.Walks.{at}
use Rattle.session.specs.Sessions.{opening_of}
use Rattle.catalog.specs.Readings.{ReadSoFar}
use Rattle.catalog.proofs.patterns.append_patterns.Given as goal

-- what was returned so far was appended; the row of places is as long as it was
abbrev pub invariant-loop-length : goal.invariant-loop-length
invariant-loop-length g l =
    ReadSoFar g.K.Kind.order g.K.Kind.label (opening_of l.opening) l.session l.initial.page l.page
    × (length l.places ≡ 16)

-- how many patterns come after the one at which the session stands
abbrev pub decreases-loop-length : goal.decreases-loop-length
decreases-loop-length g l = remaining (length (opening_of l.opening).lexicon) (opening_of l.opening).longest (at l.session.walk)
