-- One of the tapes that offsets cut events into.
use Rattle.std.proofs.Common.{◌≡◌, ℕ, zero, suc, ◌+◌, ◌-◌, ◌<◌, ◌≤◌, min, List, [], ◌∷◌, length, get_or, take, drop, sym, refl, ap, ◌∙◌, ⊎_elim, arith}
use Rattle.std.proofs.lemmas.List.{take_all, drop_all, length-drop}
use Rattle.std.proofs.lemmas.Bool.{cases_lt}
use Rattle.bundle.specs.Tapes.{between, cut, tapes}

module _ {K : Type 0} (events : List K) where
  cut_at : (from : ℕ) (offsets : List ℕ) (t : ℕ) → t < length offsets → get_or (cut events from offsets) t [] ≡ between events (get_or (from ∷ offsets) t 0) (get_or offsets t 0)
  cut_at from [] t h = absurd (omega arith)
  cut_at from (to ∷ more) zero h = refl
  cut_at from (to ∷ more) (suc t) h = cut_at to more t (omega arith)

  cut_past : (from : ℕ) (offsets : List ℕ) (t : ℕ) → length offsets ≤ t → get_or (cut events from offsets) t [] ≡ []
  cut_past from [] t h = refl
  cut_past from (to ∷ more) zero h = absurd (omega arith)
  cut_past from (to ∷ more) (suc t) h = cut_past to more t (omega arith)

  length_cut : (from : ℕ) (offsets : List ℕ) → length (cut events from offsets) ≡ length offsets
  length_cut from [] = refl
  length_cut from (to ∷ more) = ap suc (length_cut to more)

  -- there is one tape less than there are offsets
  pub length_tapes : (offsets : List ℕ) → length (tapes events offsets) ≡ length offsets - 1
  length_tapes [] = refl
  length_tapes (from ∷ more) = let l = length_cut from more in omega arith

  -- a tape lies between its offset and the next
  pub tape_between : (offsets : List ℕ) (t : ℕ) → t + 1 < length offsets → get_or (tapes events offsets) t [] ≡ between events (get_or offsets t 0) (get_or offsets (t + 1) 0)
  tape_between [] t h = absurd (omega arith)
  tape_between (from ∷ more) t h = cut_at from more t (omega arith) ∙ ap (λ (n : ℕ). between events (get_or (from ∷ more) t 0) (get_or (from ∷ more) n 0)) (let e : suc t ≡ t + 1 = omega arith in e)

  -- there is none past the last
  pub tape_past : (offsets : List ℕ) (t : ℕ) → length offsets ≤ t + 1 → get_or (tapes events offsets) t [] ≡ []
  tape_past [] t h = refl
  tape_past (from ∷ more) t h = cut_past from more t (omega arith)

  none : (from to : ℕ) → to ≤ from → between events from to ≡ []
  none from to h = ap (λ (n : ℕ). take n (drop from events)) (let e : to - from ≡ 0 = omega arith in e)

  -- cuts past the events are cuts at their end, and where they cross, nothing is between
  pub between_within : (from to a b : ℕ) → b ≡ min to (length events) → a ≡ min from b → between events a b ≡ between events from to
  between_within from to a b eb ea =
      ⊎_elim
      (λ (h : from < b).
      let e : a ≡ from = omega arith in
      ap (λ (n : ℕ). take (b - n) (drop n events)) e ∙ ⊎_elim
      (λ (k : to < length events). ap (λ (n : ℕ). take (n - from) (drop from events)) (let f : b ≡ to = omega arith in f))
      (λ (k : length events ≤ to). let l = length-drop from events in take_all (b - from) (drop from events) (omega arith) ∙ sym (take_all (to - from) (drop from events) (omega arith)))
      (cases_lt to (length events)))
      (λ (h : b ≤ from).
      none a b (omega arith) ∙ sym (⊎_elim
      (λ (k : from < to). let l = length-drop from events in take_all (to - from) (drop from events) (omega arith) ∙ drop_all from events (omega arith))
      (λ (k : to ≤ from). none from to k)
      (cases_lt from to)))
      (cases_lt from b)
