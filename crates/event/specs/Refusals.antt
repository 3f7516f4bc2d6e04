use Rattle.std.specs.Prelude.{ℕ}
use Rattle.event.specs.declared.refusal.Refusal.{Refusal}
use Rattle.event.specs.declared.refusal.Refusal.TheVariants.{Closed, Nothing, Threshold, Length, Size, Offsets, Lexicon, Room, Short, Over, Kind, Event, Mark, Query, Input}

-- a refusal's number
abbrev pub number_of : Refusal → ℕ
number_of Closed = 1
number_of Nothing = 2
number_of Threshold = 3
number_of Length = 4
number_of Size = 5
number_of Offsets = 6
number_of Lexicon = 7
number_of Room = 8
number_of Short = 9
number_of Over = 10
number_of Kind = 11
number_of Event = 12
number_of Mark = 13
number_of Query = 14
number_of Input = 15
