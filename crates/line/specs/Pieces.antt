-- What the pieces of a line write.
use Rattle.std.specs.Prelude.{ℕ, ◌+◌, ◌-◌, ◌/◌, ◌%◌, cond, List, [], ◌∷◌, ◌++◌, Some, None, codes, decimal, Option, nat_le, nat_lt}
use Rattle.std.specs.List.{flat_map}
use Rattle.line.specs.declared.piece.Word.{Word}
use Rattle.line.specs.declared.piece.Word.TheVariants.{Tapes, Events, Threshold, Length, Refused, Query, Bundle, End, Space, Dash, LineFeed}
use Rattle.line.specs.declared.piece.Piece.{Piece}
use Rattle.line.specs.declared.piece.Piece.TheVariants as piece

-- the upper-case hexadecimal digit of a number below 16
abbrev pub hex_digit : ℕ → ℕ
hex_digit n = cond (nat_lt n 10) (48 + n) (55 + n)

-- a byte as a pair of hexadecimal digits
abbrev pub hex_pair : ℕ → List ℕ
hex_pair b = hex_digit (b / 16) ∷ hex_digit (b % 16) ∷ []

-- a label with a space before it
abbrev pub spaced : {K : Type 0} → (K → List ℕ) → K → List ℕ
spaced label e = 32 ∷ label e

-- labels parted by spaces
abbrev pub parted : {K : Type 0} → (K → List ℕ) → List K → List ℕ
parted label [] = []
parted label (e ∷ es) = label e ++ flat_map (spaced label) es

-- the text of a word
abbrev pub word_text : Word → List ℕ
word_text Tapes = codes "tapes "
word_text Events = codes " events "
word_text Threshold = codes " threshold "
word_text Length = codes " length "
word_text Refused = codes "refused "
word_text Query = codes " query "
word_text Bundle = codes " bundle "
word_text End = codes "end "
word_text Space = codes " "
word_text Dash = codes "-"
word_text LineFeed = codes "\n"

-- the text of a piece
abbrev pub piece_text : {K : Type 0} → (K → List ℕ) → Piece K → List ℕ
piece_text label (piece.Word w) = word_text w
piece_text label (piece.Number n) = decimal n
piece_text label (piece.Bytes bytes) = flat_map hex_pair bytes.now
piece_text label (piece.Labels events) = parted label events.now

-- the text of a line
abbrev pub line_text : {K : Type 0} → (K → List ℕ) → List (Piece K) → List ℕ
line_text label pieces = flat_map (piece_text label) pieces

-- what so many bytes leave of a room, if they fit
abbrev pub left : ℕ → ℕ → Option ℕ
left room n = cond (nat_le n room) (Some (room - n)) None
