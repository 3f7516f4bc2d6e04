-- The line of one event more.
use Rattle.std.proofs.Common.{◌≡◌, ℕ, List, [], ◌∷◌, ◌++◌, length, sym, ap, ◌∙◌, append_assoc, arith}
use Rattle.std.specs.List.{flat_map}
use Rattle.std.proofs.lemmas.List.{append-nil}
use Rattle.std.proofs.lemmas.Grind.{flat_map-append}
use Rattle.event.specs.declared.order.Order.{Order}
use Rattle.matching.specs.Support.{support}
use Rattle.report.specs.Texts.{pattern_text}
use Rattle.listing.specs.Replies.{event_text}

module _ {K : Type 0} (order : K → K → Order) (label : K → List ℕ) (ts : List (List K)) where
  -- the line of an event is that of its pattern of one
  one_text : (p : List K) → length p ≡ 1 → flat_map (event_text order label ts) p ≡ pattern_text label (support order ts p) p
  one_text [] h = absurd (omega arith)
  one_text (x ∷ []) h = append-nil (event_text order label ts x)
  one_text (x ∷ y ∷ ys) h = absurd (omega arith)

  pub more_text : (p rest : List K) (was is : List ℕ) → length p ≡ 1 → is ≡ was ++ pattern_text label (support order ts p) p → is ++ flat_map (event_text order label ts) rest ≡ was ++ flat_map (event_text order label ts) (p ++ rest)
  more_text p rest was is one e =
      let f = event_text order label ts in
      ap (λ (l : List ℕ). l ++ flat_map f rest) (e ∙ ap (λ (l : List ℕ). was ++ l) (sym (one_text p one)))
      ∙ append_assoc was (flat_map f p) (flat_map f rest)
      ∙ ap (λ (l : List ℕ). was ++ l) (sym (flat_map-append f p rest))
