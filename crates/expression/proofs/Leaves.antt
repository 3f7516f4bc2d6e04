-- A mark is a leaf exactly where something stands at it.
use Rattle.std.proofs.Common.{◌≡◌, ℕ, ◌+◌, Bool, true, false, cond, eqb, List, [], ◌∷◌, map, length, Some, None, Option, refl, arith}
use Rattle.std.specs.List.{cons_option, filter_map}
use Rattle.std.specs.Option.{option_map, option_map_or}
use Rattle.event.specs.Numerals.{is_digit}
use Rattle.event.specs.Spans.{spanned}
use Rattle.event.specs.declared.span.Span.{Span}
use Rattle.grammar.specs.declared.mark.Mark.{Mark}
use Rattle.grammar.specs.declared.mark.Mark.TheVariants.{Leaf, Open, Close, Bar, Star, Plus, Maybe, Other}
use Rattle.grammar.specs.Stands.{count}
use Rattle.regular.specs.declared.label.Label.{Label}
use Rattle.regular.specs.declared.label.Label.TheVariants.{Any, Event}
use Rattle.expression.specs.Marks.{mark_of, leaf_of}

-- of the bytes that are marks alone only the dot is a leaf
other_sign : (o c b s p m : Bool) → count Leaf (cond o Open (cond c Close (cond b Bar (cond s Star (cond p Plus (cond m Maybe Other))))) ∷ []) ≡ 0
other_sign true c b s p m = refl
other_sign false true b s p m = refl
other_sign false false true s p m = refl
other_sign false false false true p m = refl
other_sign false false false false true m = refl
other_sign false false false false false true = refl
other_sign false false false false false false = refl

module _ {K : Type 0} (labelled : List ℕ → Option K) where
  -- how many leaves one is, or none
  abbrev leaves_of : Option (Label K) → ℕ
  leaves_of (Some l) = 1
  leaves_of None = 0

  leaves_more : (o : Option (Label K)) (ls : List (Label K)) → length (cons_option o ls) ≡ leaves_of o + length ls
  leaves_more (Some l) ls = omega arith
  leaves_more None ls = omega arith

  label_leaf : (o : Option K) → leaves_of (option_map Event o) ≡ count Leaf (option_map_or (λ _. Leaf) o Other ∷ [])
  label_leaf (Some e) = refl
  label_leaf None = refl

  dot_leaf : (d : Bool) (rest : Mark) → count Leaf (rest ∷ []) ≡ 0 → leaves_of (cond d (Some Any) None) ≡ count Leaf (cond d Leaf rest ∷ [])
  dot_leaf true rest e = refl
  dot_leaf false rest e = omega (arith, e)

  by_digit : (d : Bool) (x y : Option (Label K)) (m n : Mark) → leaves_of x ≡ count Leaf (m ∷ []) → leaves_of y ≡ count Leaf (n ∷ []) → leaves_of (cond d x y) ≡ count Leaf (cond d m n ∷ [])
  by_digit true x y m n e f = e
  by_digit false x y m n e f = f

  leaf_each : (bytes : List ℕ) → leaves_of (leaf_of labelled bytes) ≡ count Leaf (mark_of labelled bytes ∷ [])
  leaf_each [] = refl
  leaf_each (b ∷ bs) =
      by_digit (is_digit b) _ _ _ _ (label_leaf (labelled (b ∷ bs)))
      (dot_leaf (eqb b 46) _ (other_sign (eqb b 40) (eqb b 41) (eqb b 124) (eqb b 42) (eqb b 43) (eqb b 63)))

  pub leaves_counted : (text : List ℕ) (spans : List Span) → length (filter_map (λ s. leaf_of labelled (spanned text s)) spans) ≡ count Leaf (map (λ s. mark_of labelled (spanned text s)) spans)
  leaves_counted text [] = refl
  leaves_counted text (s ∷ ss) =
      omega (
        arith,
        leaves_more (leaf_of labelled (spanned text s)) (filter_map (λ r. leaf_of labelled (spanned text r)) ss),
        leaf_each (spanned text s),
        leaves_counted text ss,
      )
