-- The projection grows event by event, and counts the tapes that include the pattern.
use Rattle.std.proofs.Common.{◌≡◌, ℕ, zero, suc, ◌+◌, ◌*◌, ◌≤◌, cond, List, [], ◌∷◌, ◌++◌, length, get_or, take, is_some, Some, None, Option, sym, refl, append_assoc, append-nil, add-zero, arith, length-append}
use Rattle.event.specs.declared.order.Order.{Order}
use Rattle.matching.specs.Inclusion.{reach_from, reach}
use Rattle.matching.specs.Support.{support}
use Rattle.matching.proofs.Reaching.{reach_append}
use Rattle.matching.proofs.Counting.{bounded}
use Rattle.trail.specs.Projection.{entry_of, projected_from, projection, grown, room, ProjectionStands}

module _ {K : Type 0} (order : K → K → Order) (tapes : List (List K)) where
  pub grown_append : (event : K) (xs ys : List (ℕ × ℕ)) → grown order tapes event (xs ++ ys) ≡ grown order tapes event xs ++ grown order tapes event ys
  grown_append event [] ys = refl
  grown_append event ((number, place) ∷ xs) ys = rw (grown_append event xs ys, append_assoc)

  -- an entry grows to the place behind one more event
  grown_entry : (event : K) (number : ℕ) (tape : List K) (place : Option ℕ) → get_or tapes number [] ≡ tape → entry_of number (reach_from order tape place (event ∷ [])) ≡ grown order tapes event (entry_of number place)
  grown_entry event number tape (Some place) is = rw is (sym (append-nil _))
  grown_entry event number tape None is = refl

  grows_from : (pattern : List K) (event : K) (number : ℕ) (rest : List (List K)) → ((k : ℕ) → get_or tapes (number + k) [] ≡ get_or rest k []) → projected_from order number rest (pattern ++ event ∷ []) ≡ grown order tapes event (projected_from order number rest pattern)
  grows_from pattern event number [] are = refl
  grows_from pattern event number (tape ∷ rest) are =
      let here : get_or tapes number [] ≡ tape = rw add-zero at (are 0) in
      let later : (k : ℕ) → get_or tapes (number + 1 + k) [] ≡ get_or rest k [] = λ k. let m : number + 1 + k ≡ number + suc k = omega arith in rw m (are (suc k)) in
      rw (grown_append event (entry_of number (reach order tape pattern)) (projected_from order (number + 1) rest pattern), ← grows_from pattern event (number + 1) rest later, ← grown_entry event number tape (reach order tape pattern) here, reach_append order tape (Some 0) pattern (event ∷ []))

  pub grows : (pattern : List K) (event : K) → projection order tapes (pattern ++ event ∷ []) ≡ grown order tapes event (projection order tapes pattern)
  grows pattern event = grows_from pattern event 0 tapes (λ k. let m : 0 + k ≡ k = omega arith in rw m)

length_entry : (number : ℕ) (place : Option ℕ) → length (entry_of number place) ≡ cond (is_some place) 1 0
length_entry number (Some place) = refl
length_entry number None = refl

module _ {K : Type 0} (order : K → K → Order) where
  counts_from : (number : ℕ) (tapes : List (List K)) (pattern : List K) → length (projected_from order number tapes pattern) ≡ support order tapes pattern
  counts_from number [] pattern = refl
  counts_from number (tape ∷ tapes) pattern =
      rw (length-append (entry_of number (reach order tape pattern)) (projected_from order (number + 1) tapes pattern), length_entry number (reach order tape pattern), counts_from (number + 1) tapes pattern)

  pub counts : (tapes : List (List K)) (pattern : List K) → length (projection order tapes pattern) ≡ support order tapes pattern
  counts tapes pattern = counts_from 0 tapes pattern

  roomy : (tapes : List (List K)) (pattern : List K) (k : ℕ) → length tapes ≤ 512 → room order tapes pattern k ≤ 512 * (k + 1)
  roomy tapes pattern zero few =
      let c = counts tapes (take 0 pattern) in
      let b = bounded order tapes (take 0 pattern) in
      omega arith
  roomy tapes pattern (suc k) few =
      let r = roomy tapes pattern k few in
      let c = counts tapes (take (suc k) pattern) in
      let b = bounded order tapes (take (suc k) pattern) in
      omega arith

  pub projection_stands : ProjectionStands order
  projection_stands = record { grows = grows order; counts = counts; roomy = roomy }
