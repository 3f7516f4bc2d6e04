-- What is learned has one event for each class of alike events.
use Rattle.std.proofs.Common.{◌≡◌, ℕ, suc, ◌<◌, ◌≤◌, ◌⊎◌, List, [], ◌∷◌, ◌++◌, length, get_or, sym, refl, ap, ◌∙◌, subst, inl, inr, ⊎_elim, append_assoc, arith}
use Rattle.std.proofs.ByRecursion.{All-get_or, All-weaker, All-push}
use Rattle.std.proofs.lemmas.List.{append-nil, length_push, get_or_push, get_or_append_left}
use Rattle.std.proofs.lemmas.Bool.{cases_order}
use Rattle.std.specs.List.{AllByRecursion as All}
use Rattle.event.specs.declared.order.Order.{Order}
use Rattle.event.specs.declared.order.Order.TheVariants.{Before, Alike, After}
use Rattle.event.specs.Orders.{not_after}
use Rattle.matching.specs.Learning.{by_order, with_event, learned_from, learned, FirstOfClass, Learns, LearningStands}
use Rattle.matching.specs.Lexicons.{Rising}
use Rattle.matching.proofs.Ordered.{Ordered, alike_back, after_back, before_then, alike_alike}
use Rattle.matching.proofs.Rises.{Climbs, rising_from, climbs_of}

-- one of some passes
abbrev Any : {X : Type 0} → (X → Type 0) → List X → Type 0
Any P [] = ⊥
Any P (x ∷ xs) = P x ⊎ Any P xs

any_place : {X : Type 0} (P : X → Type 0) (xs : List X) → Any P xs → (k : ℕ) × (k < length xs) × ((d : X) → P (get_or xs k d))
any_place P [] a = absurd a
any_place P (x ∷ xs) (inl p) = (0, omega arith, λ d. p)
any_place P (x ∷ xs) (inr a) = let f = any_place P xs a in (suc f.0, omega (arith, f.1), f.2)

-- one that passes, where none does
any_none : {X : Type 0} (P Q : X → Type 0) → ((x : X) → P x → Q x) → (xs : List X) → Any P xs → All (λ x. Q x → ⊥) xs → ⊥
any_none P Q f [] a n = a
any_none P Q f (x ∷ xs) (inl p) n = n.0 (f x p)
any_none P Q f (x ∷ xs) (inr a) n = any_none P Q f xs a n.1

module _ {K : Type 0} (order : K → K → Order) (laws : Ordered order) where
  before_after : (x y : K) → order x y ≡ Before → order x y ≡ After → ⊥
  before_after x y a b = let z : ◌≡◌ {A = ℕ} 0 1 = cc in omega arith

  before_alike : (x y : K) → order x y ≡ Before → order x y ≡ Alike → ⊥
  before_alike x y a b = let z : ◌≡◌ {A = ℕ} 0 1 = cc in omega arith

  after_alike : (x y : K) → order x y ≡ After → order x y ≡ Alike → ⊥
  after_alike x y a b = let z : ◌≡◌ {A = ℕ} 0 1 = cc in omega arith

  -- a lexicon with one more event
  module _ (e : K) where
    -- what holds of all in it, where it holds of the event unless an alike one is there
    all_with : (P : K → Type 0) (lexicon : List K) → Climbs order lexicon → All P lexicon → (All (λ x. order x e ≡ Alike → ⊥) lexicon → P e) → All P (with_event order e lexicon)
    all_with P [] c a f = (f tt, tt)
    all_with P (x ∷ xs) c a f = go (order x e) refl (all_with P xs c.1 a.1)
      where
        go : (o : Order) → order x e ≡ o → ((All (λ y. order y e ≡ Alike → ⊥) xs → P e) → All P (with_event order e xs)) → All P (by_order o (x ∷ with_event order e xs) (x ∷ xs) (e ∷ x ∷ xs))
        go Before is later = (a.0, later (λ n. f (before_alike x e is, n)))
        go Alike is later = a
        go After is later =
            (f (after_alike x e is, All-weaker (λ y. order x y ≡ Before) (λ y. order y e ≡ Alike → ⊥) (λ y b s. before_after x e (before_then order laws x y e b (ap not_after s)) is) xs c.0), a)

    climbs_with : (lexicon : List K) → Climbs order lexicon → Climbs order (with_event order e lexicon)
    climbs_with [] c = (tt, tt)
    climbs_with (x ∷ xs) c = go (order x e) refl (climbs_with xs c.1)
      where
        go : (o : Order) → order x e ≡ o → Climbs order (with_event order e xs) → Climbs order (by_order o (x ∷ with_event order e xs) (x ∷ xs) (e ∷ x ∷ xs))
        go Before is later = (all_with (λ y. order x y ≡ Before) xs c.1 c.0 (λ n. is), later)
        go Alike is later = c
        go After is later =
            let b = after_back order laws x e is in
            ((b, All-weaker (λ y. order x y ≡ Before) (λ y. order e y ≡ Before) (λ y h. before_then order laws e x y b (ap not_after h)) xs c.0), c)

    pub rising_with : (lexicon : List K) → Rising order lexicon → Rising order (with_event order e lexicon)
    rising_with lexicon r = rising_from order (with_event order e lexicon) (climbs_with lexicon (climbs_of order lexicon r))

    -- none goes, and an alike one is there
    any_with : (P : K → Type 0) (lexicon : List K) → Any P lexicon → Any P (with_event order e lexicon)
    any_with P [] a = absurd a
    any_with P (x ∷ xs) a = go (order x e) a (any_with P xs)
      where
        go : (o : Order) → Any P (x ∷ xs) → (Any P xs → Any P (with_event order e xs)) → Any P (by_order o (x ∷ with_event order e xs) (x ∷ xs) (e ∷ x ∷ xs))
        go Before (inl p) later = inl p
        go Before (inr b) later = inr (later b)
        go Alike b later = b
        go After b later = inr b

    alike_with : (lexicon : List K) → Any (λ x. order x e ≡ Alike) (with_event order e lexicon)
    alike_with [] = inl (laws.itself e)
    alike_with (x ∷ xs) = go (order x e) refl (alike_with xs)
      where
        go : (o : Order) → order x e ≡ o → Any (λ y. order y e ≡ Alike) (with_event order e xs) → Any (λ y. order y e ≡ Alike) (by_order o (x ∷ with_event order e xs) (x ∷ xs) (e ∷ x ∷ xs))
        go Before is later = inr later
        go Alike is later = inl is
        go After is later = inl (laws.itself e)

    length_with : (lexicon : List K) → length lexicon ≤ length (with_event order e lexicon)
    length_with [] = omega arith
    length_with (x ∷ xs) = go (order x e) (length_with xs)
      where
        go : (o : Order) → length xs ≤ length (with_event order e xs) → suc (length xs) ≤ length (by_order o (x ∷ with_event order e xs) (x ∷ xs) (e ∷ x ∷ xs))
        go Before later = omega arith
        go Alike later = omega arith
        go After later = omega arith

  pub length_learned : (lexicon events : List K) → length lexicon ≤ length (learned_from order lexicon events)
  length_learned lexicon [] = omega arith
  length_learned lexicon (e ∷ es) =
      let a = length_with e lexicon in let b = length_learned (with_event order e lexicon) es in omega arith

  -- a lexicon of the events so far
  record Seen (events lexicon : List K) : Type 0 where
    climbs : Climbs order lexicon
    same : All (λ y. Any (λ x. order x y ≡ Alike) lexicon) events
    first : All (FirstOfClass order events) lexicon

  -- the first of a class stays the first
  first_longer : (events : List K) (e x : K) → FirstOfClass order events x → FirstOfClass order (events ++ (e ∷ [])) x
  first_longer events e x f =
      let l = length_push events e in
      record {
        place = f.place;
        within = omega (arith, f.within);
        is = λ d. get_or_append_left events (e ∷ []) d f.place f.within ∙ f.is d;
        first = λ k d h s. f.first k d h (ap (λ (y : K). order y x) (sym (get_or_append_left events (e ∷ []) d k (omega (arith, f.within)))) ∙ s);
      }

  seen_more : (events lexicon : List K) (e : K) → Seen events lexicon → Seen (events ++ (e ∷ [])) (with_event order e lexicon)
  seen_more events lexicon e s =
      record {
        climbs = climbs_with e lexicon s.climbs;
        same = All-push (λ y. Any (λ x. order x y ≡ Alike) (with_event order e lexicon)) events e (All-weaker (λ y. Any (λ x. order x y ≡ Alike) lexicon) (λ y. Any (λ x. order x y ≡ Alike) (with_event order e lexicon)) (λ y. any_with e (λ x. order x y ≡ Alike) lexicon) events s.same) (alike_with e lexicon);
        first = all_with e (FirstOfClass order (events ++ (e ∷ []))) lexicon s.climbs (All-weaker (FirstOfClass order events) (FirstOfClass order (events ++ (e ∷ []))) (first_longer events e) lexicon s.first) new;
      }
    where
      new : All (λ x. order x e ≡ Alike → ⊥) lexicon → FirstOfClass order (events ++ (e ∷ [])) e
      new none =
          record {
            place = length events;
            within = omega (arith, length_push events e);
            is = λ d. get_or_push events e d (length events) refl;
            first = λ k d h t.
                let y = get_or events k d in
                let a : order y e ≡ Alike = ap (λ (z : K). order z e) (sym (get_or_append_left events (e ∷ []) d k h)) ∙ t in
                any_none (λ x. order x y ≡ Alike) (λ x. order x e ≡ Alike) (λ x b. alike_alike order laws x y e b a) lexicon (All-get_or (λ z. Any (λ x. order x z ≡ Alike) lexicon) events k d h s.same) none;
          }

  seen_all : (events lexicon more : List K) → Seen events lexicon → Seen (events ++ more) (learned_from order lexicon more)
  seen_all events lexicon [] s = subst (λ (l : List K). Seen l lexicon) (sym (append-nil events)) s
  seen_all events lexicon (e ∷ es) s =
      subst (λ (l : List K). Seen l (learned_from order (with_event order e lexicon) es)) (append_assoc events (e ∷ []) es) (seen_all (events ++ (e ∷ [])) (with_event order e lexicon) es (seen_more events lexicon e s))

  -- two places of alike events are one
  one_place : (lexicon : List K) → Rising order lexicon → (y : K) (i j : ℕ) (d : K) → i < length lexicon → j < length lexicon → order (get_or lexicon i d) y ≡ Alike → order (get_or lexicon j d) y ≡ Alike → i ≡ j
  one_place lexicon r y i j d a b p q =
      let x = get_or lexicon i d in
      let z = get_or lexicon j d in
      let same : order x z ≡ Alike = alike_alike order laws x y z p (alike_back order laws z y q) in
      ⊎_elim
      (λ (e : i ≡ j). e)
      (⊎_elim
      (λ (h : i < j). absurd (before_alike x z (r i j d h b) same))
      (λ (h : j < i). absurd (before_alike z x (r j i d h a) (alike_back order laws x z same))))
      (cases_order i j)

  learns_from : (events lexicon : List K) → Seen events lexicon → Learns order events lexicon
  learns_from events lexicon s =
      let r = rising_from order lexicon s.climbs in
      record {
        rising = r;
        one = λ i d h.
            let y = get_or events i d in
            let f = any_place (λ x. order x y ≡ Alike) lexicon (All-get_or (λ z. Any (λ x. order x z ≡ Alike) lexicon) events i d h s.same) in
            record { place = f.0; within = f.1; same = f.2; only = λ k c b t. one_place lexicon r y k f.0 c b f.1 t (f.2 c) };
        first = λ k d h. All-get_or (FirstOfClass order events) lexicon k d h s.first;
      }

  pub learning_stands : LearningStands order
  learning_stands events =
      learns_from events (learned order events) (seen_all [] [] events (record { climbs = tt; same = tt; first = tt }))
