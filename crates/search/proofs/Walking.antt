-- The events of the list at which a walk stands, the rows that it keeps, and what its trail's answers mean for lists of places.
use Rattle.std.proofs.Common.{◌≡◌, ℕ, zero, suc, ◌+◌, ◌-◌, ◌<◌, Bool, true, false, List, [], ◌∷◌, ◌++◌, length, get_or, take, drop, set, sym, refl, ap, ◌∙◌, subst, append_assoc, append-nil, arith, length-append, take-append-drop, length-take, take_at, Bor}
use Rattle.std.proofs.lemmas.List.{take-take, take_all, take_more, take_more_set, get_or-take}
use Rattle.std.proofs.lemmas.Bool.{both_ways}
use Rattle.event.specs.declared.order.Order.{Order}
use Rattle.bundle.specs.declared.tape.Tapes.{Tapes}
use Rattle.bundle.specs.Tapes.{all_tapes}
use Rattle.filter.specs.Filters.{NoneAfter}
use Rattle.matching.specs.Picks.{picked, Within}
use Rattle.matching.specs.Support.{support}
use Rattle.matching.proofs.Counting.{support_falls}
use Rattle.matching.proofs.Picking.{picked_append, length_picked}
use Rattle.trail.specs.declared.trail.Trail.{Trail}
use Rattle.trail.specs.Moves.{stands_at, Same, Deepened, Back}
use Rattle.trail.proofs.Sounding.{picked_one}
use Rattle.law.specs.Order.{Begins, AllBelow, IsPattern}
use Rattle.search.specs.declared.walk.Walk.{Walk}
use Rattle.search.specs.Turns.{Limits}
use Rattle.search.specs.Walks.{at, lexicon_of, support_of, wants_of, limits_of, SameRows}
use Rattle.search.proofs.Tree.{below_at, length_snoc}

-- each place is in the lexicon
all_below : (n : ℕ) (p : List ℕ) → Within p n → AllBelow n p
all_below n [] w = tt
all_below n (x ∷ p) w = (w 0 (omega arith), all_below n p (λ k h. w (suc k) (omega arith)))

pub within_trail : {K : Type 0} (trail : Trail K) → Within (stands_at trail) (length trail.lexicon.now)
within_trail trail k h =
    let lt : k < trail.depth = omega (arith, length-take trail.depth trail.list) in
    rw get_or-take (trail.known k lt)

pub below_walk : {K : Type 0} (walk : Walk K) → AllBelow (length (lexicon_of walk)) (at walk)
below_walk walk = all_below (length (lexicon_of walk)) (at walk) (within_trail walk.trail)

module _ {K : Type 0} (lexicon room : List K) where
  -- the room spells a list with one place more
  pub spelled_more : (p p' : List ℕ) (d place : ℕ) (y : K) → d ≡ length p → d < length room → p' ≡ p ++ (place ∷ []) → place < length lexicon → y ≡ get_or lexicon place y → take (length p) room ≡ picked lexicon p → take (length p') (set room d y) ≡ picked lexicon p'
  spelled_more p p' d place y depth fits longer known is spelled =
      let len : length p' ≡ d + 1 = omega (arith, ap length longer, length_snoc p place) in
      ap (λ (n : ℕ). take n (set room d y)) len
      ∙ take_more_set room d y fits
      ∙ ap (λ (l : List K). l ++ (y ∷ [])) (ap (λ (n : ℕ). take n room) depth ∙ spelled)
      ∙ ap (λ (x : K). picked lexicon p ++ (x ∷ [])) is
      ∙ ap (λ (l : List K). picked lexicon p ++ l) (sym (picked_one lexicon place y known))
      ∙ sym (picked_append lexicon p (place ∷ []))
      ∙ ap (picked lexicon) (sym longer)

  -- and its beginnings
  pub spelled_front : (p p' more : List ℕ) → p ≡ p' ++ more → Within p' (length lexicon) → take (length p) room ≡ picked lexicon p → take (length p') room ≡ picked lexicon p'
  spelled_front p p' more longer known spelled =
      sym (take-take (length p') (length p) room (omega (arith, ap length longer, length-append p' more)))
      ∙ ap (take (length p')) (spelled ∙ ap (picked lexicon) longer ∙ picked_append lexicon p' more)
      ∙ take_at (picked lexicon p') (picked lexicon more) (length p') (length_picked lexicon p' known)

module _ {K : Type 0} (lexicon : List K) where
  -- the support of all that extends a list by a place, where the list with the place has too little
  module _ (order : K → K → Order) (tapes : List (List K)) (p : List ℕ) (place : ℕ) where
    pub rare : (need : ℕ) → support order tapes (picked lexicon p ++ picked lexicon (place ∷ [])) < need → (more : List ℕ) → support order tapes (picked lexicon (p ++ (place ∷ more))) < need
    rare need few more =
        let child = picked lexicon p ++ picked lexicon (place ∷ []) in
        let e : picked lexicon (p ++ (place ∷ more)) ≡ child ++ picked lexicon more =
        ap (picked lexicon) (sym (append_assoc p (place ∷ []) more))
        ∙ picked_append lexicon (p ++ (place ∷ [])) more
        ∙ ap (λ (l : List K). l ++ picked lexicon more) (picked_append lexicon p (place ∷ [])) in
        omega (arith, ap (support order tapes) e, (support_falls order).falls tapes child (picked lexicon more))

  -- the event at a place
  event_at : (events : List K) (e : ℕ) → e < length events → (x : K) × (take 1 (drop e events) ≡ x ∷ [])
  event_at [] e h = absurd (omega arith)
  event_at (x ∷ events) zero h = (x, refl)
  event_at (x ∷ events) (suc e) h = event_at events e (omega arith)

  -- below a barren list nothing is wanted
  pub fruitless : (wants barren : List K → Bool) → NoneAfter wants barren → (p q : List ℕ) → barren (picked lexicon p) ≡ true → Begins p q → AllBelow (length lexicon) q → wants (picked lexicon q) ≡ true → ⊥
  fruitless wants barren law p q b (e, r, longer) below wanted =
      let x = event_at lexicon e (below_at (length lexicon) p e r (rw longer at below)) in
      let split : picked lexicon q ≡ picked lexicon p ++ (x.0 ∷ picked lexicon r) =
      ap (picked lexicon) longer
      ∙ picked_append lexicon p (e ∷ r)
      ∙ ap (λ (l : List K). picked lexicon p ++ (l ++ picked lexicon r)) x.1 in
      both_ways (wants (picked lexicon q)) (ap wants split ∙ law (picked lexicon p) x.0 (picked lexicon r) b) wanted

-- A walk's facts as its trail moves
module _ {K : Type 0} (before after : Trail K) (same : Same before after) where
  -- the room spells the list with the lexicon kept
  spelled_same : (room : List K) (p : List ℕ) → take (length p) room ≡ picked before.lexicon.now p → take (length p) room ≡ picked after.lexicon.now p
  spelled_same room p spelled = spelled ∙ ap (λ (r : Bor (List K)). picked r.now p) (sym same.lexicon)

  pub spelled_deeper : (place need count d : ℕ) (room : List K) (y : K) → Deepened before after place need count → d ≡ length (stands_at before) → d < length room → y ≡ get_or after.lexicon.now place y → take (length (stands_at before)) room ≡ picked before.lexicon.now (stands_at before) → take (length (stands_at after)) (set room d y) ≡ picked after.lexicon.now (stands_at after)
  spelled_deeper place need count d room y deep depth fits is spelled =
      let known : place < length after.lexicon.now = omega (arith, deep.known, ap (λ (r : Bor (List K)). length r.now) same.lexicon) in
      spelled_more after.lexicon.now room (stands_at before) (stands_at after) d place y depth fits deep.stands known is (spelled_same room (stands_at before) spelled)

  -- where it stands after going back begins where it stood
  back_front : (b : Bool) → Back before b after → (more : List ℕ) × (stands_at before ≡ stands_at after ++ more)
  back_front true back =
      (drop after.depth (stands_at before), sym (ap (λ (l : List ℕ). l ++ drop after.depth (stands_at before)) back.stands ∙ take-append-drop after.depth (stands_at before)))
  back_front false back = ([], ap stands_at (sym back.1) ∙ sym (append-nil (stands_at after)))

  pub spelled_back : (b : Bool) (room : List K) → Back before b after → take (length (stands_at before)) room ≡ picked before.lexicon.now (stands_at before) → take (length (stands_at after)) room ≡ picked after.lexicon.now (stands_at after)
  spelled_back b room back spelled =
      let f = back_front b back in
      spelled_front after.lexicon.now room (stands_at before) (stands_at after) f.0 f.1 (within_trail after) (spelled_same room (stands_at before) spelled)

-- a trail whose places p have a last one went back from it
pub back_last : {K : Type 0} (before after : Trail K) (b : Bool) (p : List ℕ) (x : ℕ) → Back before b after → p ≡ stands_at before → length p ≡ before.depth → 0 < length p → x ≡ get_or p (length p - 1) x → stands_at before ≡ stands_at after ++ (x ∷ [])
back_last before after true p x back places deep some is =
    let end : after.depth ≡ length p - 1 = omega (arith, back.depth) in
    sym places
    ∙ sym (take_all (after.depth + 1) p (omega arith))
    ∙ take_more p after.depth x (omega arith)
    ∙ ap (λ (l : List ℕ). l ++ (get_or p after.depth x ∷ [])) (ap (take after.depth) places ∙ sym back.stands)
    ∙ ap (λ (y : ℕ). stands_at after ++ (y ∷ [])) (ap (λ (n : ℕ). get_or p n x) end ∙ sym is)
back_last before after false p x back places deep some is = absurd (omega (arith, back.0))

module _ {K : Type 0} where
  -- two moves keep what a walk goes over where each does
  pub same_more : (first second third : Walk K) → SameRows first second → SameRows second third → SameRows first third
  same_more first second third a b =
      record {
        tapes = b.tapes ∙ a.tapes;
        lexicon = b.lexicon ∙ a.lexicon;
        longest = b.longest ∙ a.longest;
      }

  module _ (before after : Walk K) (same : SameRows before after) where
    pub same_support : (order : K → K → Order) → support_of order after ≡ support_of order before
    same_support order =
        let over : Tapes K → List K → List ℕ → ℕ = λ ts ks p. support order (all_tapes ts) (picked ks p) in
        let k : lexicon_of after ≡ lexicon_of before = ap (λ x. x.now) same.lexicon in
        ap (λ (ts : Tapes K). over ts (lexicon_of after)) same.tapes ∙ ap (over before.trail.tapes) k

    pub same_wants : (wants : List K → Bool) → wants_of wants after ≡ wants_of wants before
    same_wants wants =
        let over : List K → List ℕ → Bool = λ ks p. wants (picked ks p) in
        let k : lexicon_of after ≡ lexicon_of before = ap (λ x. x.now) same.lexicon in
        ap over k

    pub same_limits : (need : ℕ) → limits_of after need ≡ limits_of before need
    same_limits need =
        let over : List K → ℕ → Limits = λ ks longest. record { places = length ks; longest = longest; need = need } in
        let k : lexicon_of after ≡ lexicon_of before = ap (λ x. x.now) same.lexicon in
        ap (λ (ks : List K). over ks after.longest) k ∙ ap (over (lexicon_of before)) same.longest

    -- what the filter answers of the list after a move
    pub same_answer : (wants : List K → Bool) (list : List K) (answer : Bool) → list ≡ picked (lexicon_of after) (at after) → answer ≡ wants list → wants_of wants before (at after) ≡ answer
    same_answer wants list answer are is =
        sym (is ∙ ap wants are ∙ ap (λ (w : List ℕ → Bool). w (at after)) (same_wants wants))

    -- what no pattern after a move can be, none before it can
    pub same_none : (wants : List K → Bool) (p : List ℕ) → ((q : List ℕ) → Begins p q → IsPattern (length (lexicon_of after)) after.longest q → wants_of wants after q ≡ true → ⊥) → (q : List ℕ) → Begins p q → IsPattern (length (lexicon_of before)) before.longest q → wants_of wants before q ≡ true → ⊥
    same_none wants p none q begins pattern wanted =
        none q begins
        (subst (λ (l : Limits). IsPattern l.places l.longest q) (sym (same_limits 0)) pattern)
        (ap (λ (w : List ℕ → Bool). w q) (same_wants wants) ∙ wanted)
