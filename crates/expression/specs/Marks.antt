-- What a mark is, for a kind of event by its labels.
use Rattle.std.specs.Prelude.{ℕ, cond, List, [], ◌∷◌, map, Some, None, Option, option_map, ◌==◌}
use Rattle.std.specs.List.{filter_map}
use Rattle.std.specs.Option.{option_map_or}
use Rattle.event.specs.Numerals.{is_digit}
use Rattle.event.specs.Spans.{spanned}
use Rattle.grammar.specs.declared.mark.Mark.{Mark}
use Rattle.grammar.specs.declared.mark.Mark.TheVariants.{Leaf, Open, Close, Bar, Star, Plus, Maybe, Other}
use Rattle.regular.specs.declared.label.Label.{Label}
use Rattle.regular.specs.declared.label.Label.TheVariants.{Any, Event}
use Rattle.expression.specs.Cuts.{spans_in}

-- the mark that a byte is alone
abbrev pub sign_of : ℕ → Mark
sign_of b =
    cond (b == 46) Leaf
    (cond (b == 40) Open
    (cond (b == 41) Close
    (cond (b == 124) Bar (cond (b == 42) Star (cond (b == 43) Plus (cond (b == 63) Maybe Other))))))

module _ {K : Type 0} (labelled : List ℕ → Option K) where
  -- the mark of some bytes: a label of the kind is a leaf, and other labels fit nowhere
  abbrev pub mark_of : List ℕ → Mark
  mark_of [] = Other
  mark_of (b ∷ bs) = cond (is_digit b) (option_map_or (λ _. Leaf) (labelled (b ∷ bs)) Other) (sign_of b)

  -- what stands at the leaf that some bytes are, if they are one
  abbrev pub leaf_of : List ℕ → Option (Label K)
  leaf_of [] = None
  leaf_of (b ∷ bs) = cond (is_digit b) (option_map Event (labelled (b ∷ bs))) (cond (b == 46) (Some Any) None)

  -- the marks of a text
  abbrev pub marks_in : List ℕ → List Mark
  marks_in text = map (λ s. mark_of (spanned text s)) (spans_in text)

  -- what stands at the leaves of a text, in reading order
  abbrev pub leaves_in : List ℕ → List (Label K)
  leaves_in text = filter_map (λ s. leaf_of (spanned text s)) (spans_in text)
