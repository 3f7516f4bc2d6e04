-- An expression over its places has the language that it has as it is written.
use Rattle.std.proofs.Common.{◌≡◌, ℕ, zero, suc, ◌+◌, ◌<◌, Bool, true, ◌&&◌, ◌⊎◌, ◌↔◌, List, [], ◌∷◌, ◌++◌, length, sym, refl, ap, ◌∙◌, subst, append_assoc, append-nil, arith, length-append}
use Rattle.std.proofs.lemmas.Bool.{eq-eqb, eqb-true, and_from, and_parts}
use Rattle.event.specs.declared.order.Order.{Order}
use Rattle.event.specs.declared.order.Order.TheVariants.{Alike}
use Rattle.event.specs.Orders.{is_alike}
use Rattle.regular.specs.Regex.{Regex, one, seq, alt, star, plus, opt, joined, Each, In, Barren}
use Rattle.regular.specs.Automata.{Numbered, is_numbered, leaves, size, number, fits, ended_of, after, stuck}
use Rattle.regular.specs.Labels.{suits}
use Rattle.regular.specs.Theorems.{LabelsTaken, LabelsStick}
use Rattle.regular.specs.declared.label.Label.{Label}
use Rattle.regular.specs.declared.label.Label.TheVariants.{Any, Event}
use Rattle.regular.proofs.Runs.{automaton_takes, automaton_sticks}

numbered : {A : Type 0} (r : Regex A) (k hi : ℕ) → hi ≡ k + size r → Numbered (number k r) k hi
numbered (one a) k hi h = (refl, h)
numbered (seq s t) k hi h = (k + size s, numbered s k (k + size s) refl, numbered t (k + size s) hi (omega arith))
numbered (alt s t) k hi h = (k + size s, numbered s k (k + size s) refl, numbered t (k + size s) hi (omega arith))
numbered (star s) k hi h = numbered s k hi h
numbered (plus s) k hi h = numbered s k hi h
numbered (opt s) k hi h = numbered s k hi h

length_leaves : {A : Type 0} (r : Regex A) → length (leaves r) ≡ size r
length_leaves (one a) = refl
length_leaves (seq s t) = let a = length_leaves s in let b = length_leaves t in omega (arith, length-append (leaves s) (leaves t))
length_leaves (alt s t) = let a = length_leaves s in let b = length_leaves t in omega (arith, length-append (leaves s) (leaves t))
length_leaves (star s) = length_leaves s
length_leaves (plus s) = length_leaves s
length_leaves (opt s) = length_leaves s

module _ {A K : Type 0} (m : A → K → Bool) where
  module _ (m' : ℕ → K → Bool) where
    -- m' says of the places, from k on, what m says of the leaves
    abbrev Agree : ℕ → Regex A → Type 0
    Agree k (one a) = (e : K) → m a e ≡ m' k e
    Agree k (seq s t) = Agree k s × Agree (k + size s) t
    Agree k (alt s t) = Agree k s × Agree (k + size s) t
    Agree k (star s) = Agree k s
    Agree k (plus s) = Agree k s
    Agree k (opt s) = Agree k s

    same_language : (r : Regex A) (k : ℕ) → Agree k r → (w : List K) → In m r w ≡ In m' (number k r) w
    same_language (one a) k g w = λ i. (e : K) × (w ≡ e ∷ []) × (g e i ≡ true)
    same_language (seq s t) k g w =
        λ i. (u : List K) × (v : List K) × (w ≡ u ++ v) × same_language s k g.0 u i × same_language t (k + size s) g.1 v i
    same_language (alt s t) k g w = λ i. same_language s k g.0 w i ⊎ same_language t (k + size s) g.1 w i
    same_language (star s) k g w = λ i. (us : List (List K)) × (w ≡ joined us) × Each (λ u. same_language s k g u i) us
    same_language (plus s) k g w =
        λ i. (u : List K) × (us : List (List K)) × (w ≡ u ++ joined us) × same_language s k g u i × Each (λ u. same_language s k g u i) us
    same_language (opt s) k g w = λ i. (w ≡ []) ⊎ same_language s k g w i

  fits_at : (front : List A) (a : A) (back : List A) (e : K) → m a e ≡ fits m (front ++ (a ∷ back)) (length front) e
  fits_at [] a back e = refl
  fits_at (x ∷ front) a back e = fits_at front a back e

  abbrev Agreed : List A → Regex A → Type 0
  Agreed T r = (k : ℕ) (front back : List A) → T ≡ front ++ (leaves r ++ back) → k ≡ length front → Agree (fits m T) k r

  agree_two : (T : List A) (s t : Regex A) → Agreed T s → Agreed T t → (k : ℕ) (front back : List A) → T ≡ front ++ ((leaves s ++ leaves t) ++ back) → k ≡ length front → Agree (fits m T) k s × Agree (fits m T) (k + size s) t
  agree_two T s t f g k front back h l = (
    f k front (leaves t ++ back) (h ∙ ap (λ z. front ++ z) (append_assoc (leaves s) (leaves t) back)) l,
    g (k + size s) (front ++ leaves s) back
        (h ∙ ap (λ z. front ++ z) (append_assoc (leaves s) (leaves t) back) ∙ sym (append_assoc front (leaves s) (leaves t ++ back)))
        (omega (arith, length-append front (leaves s), length_leaves s)),
  )

  agree : (T : List A) (r : Regex A) → Agreed T r
  agree T (one a) k front back h l = λ e. fits_at front a back e ∙ (λ i. fits m (sym h i) (sym l i) e)
  agree T (seq s t) k front back h l = agree_two T s t (agree T s) (agree T t) k front back h l
  agree T (alt s t) k front back h l = agree_two T s t (agree T s) (agree T t) k front back h l
  agree T (star s) k front back h l = agree T s k front back h l
  agree T (plus s) k front back h l = agree T s k front back h l
  agree T (opt s) k front back h l = agree T s k front back h l

  as_written : (r : Regex A) (w : List K) → In m r w ≡ In (fits m (leaves r)) (number 0 r) w
  as_written r w = same_language (fits m (leaves r)) r 0 (agree (leaves r) r 0 [] [] (sym (append-nil (leaves r))) refl) w

  fits_met : ((a : A) → (e : K) × (m a e ≡ true)) → (l : List A) (p : ℕ) → p < length l → (e : K) × (fits m l p e ≡ true)
  fits_met met [] p h = absurd (omega arith)
  fits_met met (a ∷ l) zero h = met a
  fits_met met (a ∷ l) (suc p) h = fits_met met l p (omega arith)

-- each label is met by an event: an event by itself, and a dot by the one at hand
label_met : {K : Type 0} (order : K → K → Order) → ((l : K) → order l l ≡ Alike) → K → (a : Label K) → (e : K) × (suits order a e ≡ true)
label_met order itself e Any = (e, refl)
label_met order itself e (Event l) = (l, ap is_alike (itself l))

pub labels_met : {K : Type 0} (order : K → K → Order) → ((l : K) → order l l ≡ Alike) → K → (labels : List (Label K)) (p : ℕ) → p < length labels → (e : K) × (fits (suits order) labels p e ≡ true)
labels_met order itself e = fits_met (suits order) (label_met order itself e)

pub labels_taken : {K : Type 0} (order : K → K → Order) → LabelsTaken order
labels_taken {K} order r w =
    subst (λ (X : Type 0). X ↔ (ended_of m (number 0 r) (size r) (after m (number 0 r) (size r) w) ≡ true))
    (sym (as_written (suits order) r w))
    (automaton_takes m (number 0 r) (size r) (numbered r 0 (size r) (omega arith)) w)
  where
    m : ℕ → K → Bool
    m = fits (suits order) (leaves r)

pub labels_stick : {K : Type 0} (order : K → K → Order) → ((l : K) → order l l ≡ Alike) → LabelsStick order
labels_stick {K} order itself e r w =
    subst (λ (X : Type 0). X ↔ (stuck m (number 0 r) (size r) (after m (number 0 r) (size r) w) ≡ true))
    (sym same)
    (automaton_sticks m (number 0 r) (size r) (numbered r 0 (size r) (omega arith)) (λ p h. labels_met order itself e (leaves r) p (omega (arith, length_leaves r))) w)
  where
    m : ℕ → K → Bool
    m = fits (suits order) (leaves r)

    same : Barren (suits order) r w ≡ Barren m (number 0 r) w
    same = λ i. (f : K) (v : List K) → as_written (suits order) r (w ++ (f ∷ v)) i → ⊥

pub numbered_from : (t : Regex ℕ) (lo hi : ℕ) → is_numbered t lo ≡ true → hi ≡ lo + size t → Numbered t lo hi
numbered_from (one p) lo hi h e = (eqb-true p lo h, e)
numbered_from (seq s t) lo hi h e =
    let a = and_parts _ _ h in
    (lo + size s, numbered_from s lo (lo + size s) a.0 refl, numbered_from t (lo + size s) hi a.1 (omega arith))
numbered_from (alt s t) lo hi h e =
    let a = and_parts _ _ h in
    (lo + size s, numbered_from s lo (lo + size s) a.0 refl, numbered_from t (lo + size s) hi a.1 (omega arith))
numbered_from (star s) lo hi h e = numbered_from s lo hi h e
numbered_from (plus s) lo hi h e = numbered_from s lo hi h e
numbered_from (opt s) lo hi h e = numbered_from s lo hi h e

both : (s t : Regex ℕ) (lo hi mid : ℕ) → (is_numbered s lo ≡ true) × (mid ≡ lo + size s) → (is_numbered t mid ≡ true) × (hi ≡ mid + size t) → ((is_numbered s lo && is_numbered t (lo + size s)) ≡ true) × (hi ≡ lo + (size s + size t))
both s t lo hi mid a b = (and_from _ _ a.0 (subst (λ (z : ℕ). is_numbered t z ≡ true) a.1 b.0), omega arith)

pub numbered_test : (t : Regex ℕ) (lo hi : ℕ) → Numbered t lo hi → (is_numbered t lo ≡ true) × (hi ≡ lo + size t)
numbered_test (one p) lo hi n = (eq-eqb p lo n.0, n.1)
numbered_test (seq s t) lo hi n = both s t lo hi n.0 (numbered_test s lo n.0 n.1) (numbered_test t n.0 hi n.2)
numbered_test (alt s t) lo hi n = both s t lo hi n.0 (numbered_test s lo n.0 n.1) (numbered_test t n.0 hi n.2)
numbered_test (star s) lo hi n = numbered_test s lo hi n
numbered_test (plus s) lo hi n = numbered_test s lo hi n
numbered_test (opt s) lo hi n = numbered_test s lo hi n
