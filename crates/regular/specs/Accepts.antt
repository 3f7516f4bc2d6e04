-- The language of an expression as a test.
use Rattle.std.specs.Prelude.{ℕ, zero, suc, Bool, true, false, ◌&&◌, ◌||◌, List, [], ◌∷◌, length}
use Rattle.regular.specs.Regex.{Regex, one, seq, alt, star, plus, opt}

module _ {K : Type 0} where
  -- the list is empty
  abbrev pub none : List K → Bool
  none [] = true
  none (e ∷ w) = false

  -- some cut of the list in two passes
  abbrev pub cuts : (List K → List K → Bool) → List K → Bool
  cuts f [] = f [] []
  cuts f (e ∷ w) = f [] (e ∷ w) || cuts (λ u v. f (e ∷ u) v) w

  -- the list is cut into at most n parts, none of them empty, that pass each
  abbrev pub parts : (List K → Bool) → ℕ → List K → Bool
  parts f n [] = true
  parts f zero (e ∷ w) = false
  parts f (suc n) (e ∷ w) = cuts (λ u v. f (e ∷ u) && parts f n v) w

module _ {A K : Type 0} (m : A → K → Bool) where
  -- the list is one event that meets the leaf
  abbrev pub single : A → List K → Bool
  single a [] = false
  single a (e ∷ w) = m a e && none w

  -- the list is in the language
  abbrev pub accepts : Regex A → List K → Bool
  accepts (one a) w = single a w
  accepts (seq s t) w = cuts (λ u v. accepts s u && accepts t v) w
  accepts (alt s t) w = accepts s w || accepts t w
  accepts (star s) w = parts (accepts s) (length w) w
  accepts (plus s) w = cuts (λ u v. accepts s u && parts (accepts s) (length v) v) w
  accepts (opt s) w = none w || accepts s w
