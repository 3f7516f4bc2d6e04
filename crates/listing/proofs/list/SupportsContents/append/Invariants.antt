use Rattle.std.proofs.Common.{◌≡◌, ◌++◌}
use Rattle.std.specs.List.{flat_map}
use Rattle.std.specs.Slice.Iter.{chunks_rest, chunks_size}
use Rattle.bundle.specs.Tapes.{tapes}
use Rattle.listing.specs.Replies.{event_text}
use Rattle.listing.proofs.list.SupportsContents.append.Given as goal

-- with the lines of the events that are left, the text has those of all
abbrev pub invariant-loop-pattern : goal.invariant-loop-pattern
invariant-loop-pattern g l =
    let line = event_text g.K.Kind.order g.K.Kind.label (tapes l.rows.tapes.events.now l.rows.tapes.offsets.now) in
    (l.page ++ flat_map line (chunks_rest l.pattern-iterator) ≡ l.initial.page ++ flat_map line l.rows.lexicon.now)
    × (chunks_size l.pattern-iterator ≡ 1)
