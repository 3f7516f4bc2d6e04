-- Regular expressions over events, and the lists of events that they stand for.
use Rattle.std.specs.Prelude.{◌≡◌, Bool, true, ◌⊎◌, List, [], ◌∷◌, ◌++◌}

-- an expression; what stands at its leaves is of the type A
pub data Regex (A : Type 0) : Type 0 where
  one : A → Regex A
  seq : Regex A → Regex A → Regex A
  alt : Regex A → Regex A → Regex A
  star : Regex A → Regex A
  plus : Regex A → Regex A
  opt : Regex A → Regex A

-- some lists, one behind the other
abbrev pub joined : {K : Type 0} → List (List K) → List K
joined [] = []
joined (u ∷ us) = u ++ joined us

-- P of each
abbrev pub Each : {A : Type 0} → (A → Type 0) → List A → Type 0
Each P [] = Unit {0}
Each P (x ∷ xs) = P x × Each P xs

-- The language of an expression, where m a e is whether the event e meets the leaf a.
module _ {A K : Type 0} (m : A → K → Bool) where
  abbrev pub In : Regex A → List K → Type 0
  In (one a) w = (e : K) × (w ≡ e ∷ []) × (m a e ≡ true)
  In (seq s t) w = (u : List K) × (v : List K) × (w ≡ u ++ v) × In s u × In t v
  In (alt s t) w = In s w ⊎ In t w
  In (star s) w = (us : List (List K)) × (w ≡ joined us) × Each (In s) us
  In (plus s) w = (u : List K) × (us : List (List K)) × (w ≡ u ++ joined us) × In s u × Each (In s) us
  In (opt s) w = (w ≡ []) ⊎ In s w

  -- no extension of w, which goes on with an event and a rest, is in the language
  abbrev pub Barren : Regex A → List K → Type 0
  Barren t w = (e : K) (v : List K) → In t (w ++ (e ∷ v)) → ⊥
