-- The events at some places.
use Rattle.std.proofs.Common.{◌≡◌, ℕ, zero, suc, ◌+◌, ◌-◌, ◌<◌, ◌≤◌, List, [], ◌∷◌, ◌++◌, length, get_or, take, drop, set, sym, refl, ap, ◌∙◌, ⊎_elim, append_assoc, arith}
use Rattle.std.proofs.lemmas.List.Edits.{length-insert, get_or-insert_below, get_or-insert_at, get_or-insert_above}
use Rattle.std.proofs.lemmas.List.{length-take-le, length-drop, get_or-take, get_or_read, ext_get_or, take_more, take-take, drop-take}
use Rattle.std.proofs.lemmas.Slice.{take-put_mid}
use borrow.Rule.Slice.PartMut.{mid_of, put_mid}
use Rattle.std.proofs.lemmas.Bool.{cases_order}
use Rattle.std.specs.List.{insert}
use Rattle.bundle.proofs.Rows.{write_more}
use Rattle.matching.specs.Picks.{picked, Within}

-- the event at a place
one_at : {K : Type 0} (events : List K) (p : ℕ) → p < length events → (x : K) × (take 1 (drop p events) ≡ x ∷ []) × ((d : K) → get_or events p d ≡ x)
one_at [] p h = absurd (omega arith)
one_at (x ∷ xs) zero h = (x, refl, λ d. refl)
one_at (x ∷ xs) (suc p) h = one_at xs p (omega arith)

pub within_take : (places : List ℕ) (n count : ℕ) → count ≤ length places → Within places n → Within (take count places) n
within_take places n count h w k b =
    let l = length-take-le count places h in
    omega (arith, w k (omega arith), get_or-take count places k 0 (omega arith))

pub within_inserted : (places : List ℕ) (n at p : ℕ) → at ≤ length places → p < n → Within places n → Within (insert places at p) n
within_inserted places n at p h b w k c =
    let l = length-insert places at p h in
    ⊎_elim
    (λ (e : k ≡ at). omega (arith, ap (λ (i : ℕ). get_or (insert places at p) i 0) e, get_or-insert_at places at p 0 h))
    (⊎_elim
    (λ (e : k < at). omega (arith, get_or-insert_below places at p 0 k e h, w k (omega arith)))
    (λ (e : at < k).
    let s : k - 1 + 1 ≡ k = omega arith in
    omega (arith, ap (λ (i : ℕ). get_or (insert places at p) i 0) s, get_or-insert_above places at p 0 (k - 1) (omega arith) h, w (k - 1) (omega arith))))
    (cases_order k at)

-- a row whose part from a place up to a new last one was moved on by one, with another place put in front
pub inserted : (before part : List ℕ) (count at p : ℕ) → at ≤ count → count < length before → length part ≡ count + 1 - at → ((k : ℕ) → k < length part → get_or part k 0 ≡ get_or (p ∷ mid_of at (count + 1 - at) before) k 0) → take (count + 1) (put_mid at (count + 1 - at) before part) ≡ insert (take count before) at p
inserted before part count at p inside room len moved =
    let m = count - at in
    let mid = mid_of at (count + 1 - at) before in
    let whole : at + m ≡ count = omega arith in
    let lt = length-take-le (count + 1 - at) (drop at before) (omega (arith, length-drop at before)) in
    let lm = length-take-le (suc m) (p ∷ mid) (omega arith) in
    let first : part ≡ p ∷ drop at (take count before) =
    ext_get_or 0 part (take (suc m) (p ∷ mid)) (omega arith) (λ k h. moved k h ∙ sym (get_or-take (suc m) (p ∷ mid) k 0 (omega arith)))
    ∙ ap (λ l. p ∷ l) (take-take m (count + 1 - at) (drop at before) (omega arith) ∙ sym (drop-take at m before) ∙ ap (λ n. drop at (take n before)) whole) in
    take-put_mid at (count + 1 - at) before part (count + 1) (omega arith) (omega arith)
    ∙ ap (λ l. l ++ part) (sym (take-take at count before inside))
    ∙ ap (λ l. take at (take count before) ++ l) first

module _ {K : Type 0} (events : List K) where
  pub picked_append : (ps qs : List ℕ) → picked events (ps ++ qs) ≡ picked events ps ++ picked events qs
  picked_append [] qs = refl
  picked_append (p ∷ ps) qs =
      ap (λ (l : List K). take 1 (drop p events) ++ l) (picked_append ps qs) ∙ sym (append_assoc (take 1 (drop p events)) (picked events ps) (picked events qs))

  pub length_picked : (ps : List ℕ) → Within ps (length events) → length (picked events ps) ≡ length ps
  length_picked [] w = refl
  length_picked (p ∷ ps) w =
      let o = one_at events p (w 0 (omega arith)) in
      ap (λ (l : List K). length (l ++ picked events ps)) o.1 ∙ ap suc (length_picked ps (λ k h. w (suc k) (omega arith)))

  pub get_or_picked : (ps : List ℕ) → Within ps (length events) → (k : ℕ) (d : K) → k < length ps → get_or (picked events ps) k d ≡ get_or events (get_or ps k 0) d
  get_or_picked [] w k d h = absurd (omega arith)
  get_or_picked (p ∷ ps) w zero d h =
      let o = one_at events p (w 0 (omega arith)) in
      ap (λ (l : List K). get_or (l ++ picked events ps) 0 d) o.1 ∙ sym (o.2 d)
  get_or_picked (p ∷ ps) w (suc k) d h =
      let o = one_at events p (w 0 (omega arith)) in
      ap (λ (l : List K). get_or (l ++ picked events ps) (suc k) d) o.1 ∙ get_or_picked ps (λ i b. w (suc i) (omega arith)) k d (omega arith)

  -- what is read at one of the places
  pub read_picked : (ps : List ℕ) → Within ps (length events) → (k : ℕ) → k < length ps → (x : K) → x ≡ get_or events (get_or ps k 0) x → (d : K) → get_or (picked events ps) k d ≡ x
  read_picked ps w k h x is d = get_or_picked ps w k d h ∙ sym (get_or_read events (get_or ps k 0) x (w k h) is d)

  take_picked : (n : ℕ) (ps : List ℕ) → Within ps (length events) → picked events (take n ps) ≡ take n (picked events ps)
  take_picked zero ps w = refl
  take_picked (suc n) [] w = refl
  take_picked (suc n) (p ∷ ps) w =
      let o = one_at events p (w 0 (omega arith)) in
      ap (λ (l : List K). l ++ picked events (take n ps)) o.1 ∙ ap (λ (l : List K). o.0 ∷ l) (take_picked n ps (λ k h. w (suc k) (omega arith))) ∙ sym (ap (λ (l : List K). take (suc n) (l ++ picked events ps)) o.1)

  drop_picked : (n : ℕ) (ps : List ℕ) → Within ps (length events) → picked events (drop n ps) ≡ drop n (picked events ps)
  drop_picked zero ps w = refl
  drop_picked (suc n) [] w = refl
  drop_picked (suc n) (p ∷ ps) w =
      let o = one_at events p (w 0 (omega arith)) in
      drop_picked n ps (λ k h. w (suc k) (omega arith)) ∙ sym (ap (λ (l : List K). drop (suc n) (l ++ picked events ps)) o.1)

  module _ (p : ℕ) (x : K) (inside : p < length events) (is : x ≡ get_or events p x) where
    picked_one : (ps : List ℕ) → picked events (p ∷ ps) ≡ x ∷ picked events ps
    picked_one ps =
        let o = one_at events p inside in
        ap (λ (l : List K). l ++ picked events ps) o.1 ∙ ap (λ (y : K). y ∷ picked events ps) (sym (is ∙ o.2 x))

    pub picked_inserted : (ps : List ℕ) (at : ℕ) → Within ps (length events) → picked events (insert ps at p) ≡ insert (picked events ps) at x
    picked_inserted ps at w =
        picked_append (take at ps) (p ∷ drop at ps)
        ∙ ap (λ (l : List K). picked events (take at ps) ++ l) (picked_one (drop at ps))
        ∙ ap (λ (l : List K). l ++ (x ∷ picked events (drop at ps))) (take_picked at ps w)
        ∙ ap (λ (l : List K). take at (picked events ps) ++ (x ∷ l)) (drop_picked at ps w)

    -- one more at a row's front
    pub lay_more : (ps : List ℕ) (row : List K) (k : ℕ) → Within ps (length events) → k < length ps → length ps ≤ length row → get_or ps k 0 ≡ p → set (picked events (take k ps) ++ drop k row) k x ≡ picked events (take (k + 1) ps) ++ drop (k + 1) row
    lay_more ps row k w h room e =
        let len : length (picked events (take k ps)) ≡ k = length_picked (take k ps) (within_take ps (length events) k (omega arith) w) ∙ length-take-le k ps (omega arith) in
        let more : picked events (take (k + 1) ps) ≡ picked events (take k ps) ++ (x ∷ []) =
        ap (picked events) (take_more ps k 0 h ∙ ap (λ (q : ℕ). take k ps ++ (q ∷ [])) e) ∙ picked_append (take k ps) (p ∷ []) ∙ ap (λ (l : List K). picked events (take k ps) ++ l) (picked_one []) in
        write_more (picked events (take k ps)) row k x len (omega arith) ∙ ap (λ (l : List K). l ++ drop (k + 1) row) (sym more)
