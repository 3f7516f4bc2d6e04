-- The search for the next alike event: turn by turn, and what its answer tells.
use Rattle.std.proofs.Common.{◌≡◌, ℕ, zero, suc, ◌+◌, ◌-◌, ◌<◌, ◌≤◌, Bool, true, false, cond, List, [], ◌∷◌, length, get_or, drop, Some, None, Option, sym, refl, ap, ◌∙◌, arith}
use Rattle.std.proofs.lemmas.List.{at_drop_more, at_drop_all, length-drop, get_or-drop}
use Rattle.std.proofs.lemmas.Bool.{cond-true, cond-false}
use Rattle.event.specs.declared.order.Order.{Order}
use Rattle.event.specs.declared.order.Order.TheVariants.{Before, Alike, After}
use Rattle.event.specs.Orders.{is_alike}
use Rattle.matching.specs.Inclusion.{first_alike, place_after}

pub not_alike : (o : Order) → (o ≡ Alike → ⊥) → is_alike o ≡ false
not_alike Before other = refl
not_alike Alike other = absurd (other refl)
not_alike After other = refl

alike_from : (o : Order) → is_alike o ≡ true → o ≡ Alike
alike_from Before e = absurd (let z : ◌≡◌ {A = ℕ} 0 1 = cc in omega arith)
alike_from Alike e = refl
alike_from After e = absurd (let z : ◌≡◌ {A = ℕ} 0 1 = cc in omega arith)

-- a choice that is none, and one that is there
chosen_none : (b : Bool) (n : ℕ) (o : Option ℕ) → cond b (Some n) o ≡ None → (b ≡ false) × (o ≡ None)
chosen_none true n o e = absurd (let z : ◌≡◌ {A = ℕ} 0 1 = cc in omega arith)
chosen_none false n o e = (refl, e)

module _ {K : Type 0} (order : K → K → Order) where
  -- a turn that goes on, one that stops, and the end
  module _ (tape : List K) (i : ℕ) (event x : K) (within : i < length tape) (is : x ≡ get_or tape i x) where
    turn : place_after order tape i event ≡ cond (is_alike (order x event)) (Some (i + 1)) (place_after order tape (i + 1) event)
    turn =
        at_drop_more (λ (xs : List K). first_alike order xs i event) tape i x within
        ∙ ap (λ (y : K). cond (is_alike (order y event)) (Some (i + 1)) (place_after order tape (i + 1) event)) (sym is)

    pub search_on : (order x event ≡ Alike → ⊥) → place_after order tape (i + 1) event ≡ place_after order tape i event
    search_on other =
        sym (turn ∙ cond-false (is_alike (order x event)) (Some (i + 1)) (place_after order tape (i + 1) event) (not_alike (order x event) other))

    pub search_here : order x event ≡ Alike → Some (i + 1) ≡ place_after order tape i event
    search_here same =
        sym (turn ∙ cond-true (is_alike (order x event)) (Some (i + 1)) (place_after order tape (i + 1) event) (ap is_alike same))

  pub search_all : (tape : List K) (i : ℕ) (event : K) → length tape ≤ i → None ≡ place_after order tape i event
  search_all tape i event h = sym (at_drop_all (λ (xs : List K). first_alike order xs i event) tape i h)

  -- where there is none, no event is alike
  none_in : (xs : List K) (place : ℕ) (event : K) → first_alike order xs place event ≡ None → (k : ℕ) (d : K) → k < length xs → order (get_or xs k d) event ≡ Alike → ⊥
  none_in [] place event e k d h s = omega arith
  none_in (x ∷ xs) place event e zero d h s =
      let b = (chosen_none (is_alike (order x event)) (place + 1) (first_alike order xs (place + 1) event) e).0 in
      let t = ap is_alike s in
      let z : ◌≡◌ {A = ℕ} 0 1 = cc in
      omega arith
  none_in (x ∷ xs) place event e (suc k) d h s =
      none_in xs (place + 1) event (chosen_none (is_alike (order x event)) (place + 1) (first_alike order xs (place + 1) event) e).1 k d (omega arith) s

  pub none_after : (tape : List K) (from : ℕ) (event : K) → place_after order tape from event ≡ None → (q : ℕ) (d : K) → from ≤ q → q < length tape → order (get_or tape q d) event ≡ Alike → ⊥
  none_after tape from event e q d a b s =
      let l = length-drop from tape in
      let k : from + (q - from) ≡ q = omega arith in
      none_in (drop from tape) from event e (q - from) d (omega arith) (ap (λ (y : K). order y event) (get_or-drop from tape (q - from) d ∙ ap (λ (n : ℕ). get_or tape n d) k) ∙ s)

  -- where there is one, it is the first
  found_in : (xs : List K) (place : ℕ) (event : K) (p : ℕ) → first_alike order xs place event ≡ Some p → (k : ℕ) × (p ≡ place + k + 1) × (k < length xs) × ((d : K) → order (get_or xs k d) event ≡ Alike) × ((j : ℕ) (d : K) → j < k → order (get_or xs j d) event ≡ Alike → ⊥)
  found_in [] place event p e = absurd (let z : ◌≡◌ {A = ℕ} 0 1 = cc in omega arith)
  found_in (x ∷ xs) place event p e = by_test (is_alike (order x event)) refl e (found_in xs (place + 1) event p)
    where
      by_test : (b : Bool) → is_alike (order x event) ≡ b → cond b (Some (place + 1)) (first_alike order xs (place + 1) event) ≡ Some p → (first_alike order xs (place + 1) event ≡ Some p → (k : ℕ) × (p ≡ place + 1 + k + 1) × (k < length xs) × ((d : K) → order (get_or xs k d) event ≡ Alike) × ((j : ℕ) (d : K) → j < k → order (get_or xs j d) event ≡ Alike → ⊥)) → (k : ℕ) × (p ≡ place + k + 1) × (k < length (x ∷ xs)) × ((d : K) → order (get_or (x ∷ xs) k d) event ≡ Alike) × ((j : ℕ) (d : K) → j < k → order (get_or (x ∷ xs) j d) event ≡ Alike → ⊥)
      by_test true b e later =
          let q : place + 1 ≡ p = cc in
          (0, omega arith, omega arith, (λ d. alike_from (order x event) b), (λ j d h s. omega arith))
      by_test false b e later =
          let f = later e in
          (suc f.0, omega (arith, f.1), omega (arith, f.2), f.3, earlier f.0 f.4)
        where
          earlier : (k : ℕ) → ((j : ℕ) (d : K) → j < k → order (get_or xs j d) event ≡ Alike → ⊥) → (j : ℕ) (d : K) → j < suc k → order (get_or (x ∷ xs) j d) event ≡ Alike → ⊥
          earlier k before zero d h s = let t = ap is_alike s in let z : ◌≡◌ {A = ℕ} 0 1 = cc in omega arith
          earlier k before (suc j) d h s = before j d (omega arith) s

  -- the first alike event from a place on stands just before this place
  pub record Next (tape : List K) (from : ℕ) (event : K) (place : ℕ) : Type 0 where
    pub past : from < place
    pub inside : place ≤ length tape
    pub same : (d : K) → order (get_or tape (place - 1) d) event ≡ Alike
    pub first : (q : ℕ) (d : K) → from ≤ q → q + 1 < place → order (get_or tape q d) event ≡ Alike → ⊥

  pub next_after : (tape : List K) (from : ℕ) (event : K) (place : ℕ) → place_after order tape from event ≡ Some place → Next tape from event place
  next_after tape from event place e =
      let f = found_in (drop from tape) from event place e in
      let l = length-drop from tape in
      let within : f.0 < length tape - from = omega (arith, f.2) in
      let at : from + f.0 ≡ place - 1 = omega (arith, f.1) in
      record {
        past = omega (arith, f.1);
        inside = omega (arith, f.1);
        same = λ d. ap (λ (y : K). order y event) (sym (get_or-drop from tape f.0 d ∙ ap (λ (n : ℕ). get_or tape n d) at)) ∙ f.3 d;
        first = λ q d a b s.
            let k : from + (q - from) ≡ q = omega arith in
            f.4 (q - from) d (omega (arith, f.1)) (ap (λ (y : K). order y event) (get_or-drop from tape (q - from) d ∙ ap (λ (n : ℕ). get_or tape n d) k) ∙ s);
      }
