-- A turn of the search passes over nothing good, and what is found first after all turns is the first that is eligible.
use Rattle.std.proofs.Common.{◌≡◌, ℕ, ◌+◌, ◌<◌, ◌≤◌, Bool, true, false, List, [], ◌∷◌, ◌++◌, length, sym, refl, ap, ◌∙◌, subst, inl, inr, append_assoc, add-one, arith, length-append}
use Rattle.std.proofs.lemmas.Bool.{both_ways}
use Rattle.law.specs.Order.{Precedes, UpTo, Begins, IsPattern}
use Rattle.search.specs.declared.turn.Turn.{Turn}
use Rattle.search.specs.declared.turn.Turn.TheVariants.{Found, Go, End}
use Rattle.search.specs.Turns.{Limits, Beyond, Left, Good, Turned, Eligible, Reached}
use Rattle.law.proofs.Order.{begins_precedes, between, carried}
use Rattle.search.proofs.Tree.{child_first, sibling_first, length_snoc, snoc_is, snoc_some, later, later_up, begins_nil, past_last, first_from}

precedes_up_to : (p c q : List ℕ) → Precedes p c → UpTo c q → Precedes p q
precedes_up_to p c q a (inl u) = carried p c q a u
precedes_up_to p c q a (inr e) = subst (Precedes p) e a

-- what comes after a list beyond the latest is beyond it too
beyond_more : (latest : List ℕ) (skip : Bool) (c q : List ℕ) → Beyond latest skip c → Precedes c q → Beyond latest skip q
beyond_more latest skip c q b a =
    (carried latest c q b.0 a, λ s g. b.1 s (between latest c q g b.0 a))

module _ (l : Limits) (support : List ℕ → ℕ) (wants : List ℕ → Bool) where
  -- the child i is not good, and nothing that extends it: on to the next child
  turned_on : (p : List ℕ) (i : ℕ) → (Good l support wants (p ++ (i ∷ [])) → ⊥) → ((q : List ℕ) → Good l support wants q → Begins (p ++ (i ∷ [])) q → ⊥) → Turned l support wants p i p (Go (i + 1))
  turned_on p i here below = (later p i (i + 1) [] [] (omega arith), on)
    where
      on : (q : List ℕ) → Good l support wants q → UpTo (p ++ (i ∷ [])) q → UpTo (p ++ ((i + 1) ∷ [])) q
      on q k (inl a) = rw add-one (sibling_first p i q a (below q k))
      on q k (inr e) = absurd (here (subst (Good l support wants) (sym e) k))

  -- the child and all that extends it has too little support
  pub turned_rare : (p p' : List ℕ) (i : ℕ) → p' ≡ p → ((more : List ℕ) → support (p ++ (i ∷ more)) < l.need) → Turned l support wants p i p' (Go (i + 1))
  turned_rare p p' i e rare =
      rw e
      (turned_on p i (λ k. omega (arith, k.reached, rare []))
      (λ q k g. omega (arith, k.reached, rare (g.0 ∷ g.1), ap support (g.2 ∙ append_assoc p (i ∷ []) (g.0 ∷ g.1)))))

  -- the child is good
  pub turned_found : (p p' : List ℕ) (i s : ℕ) → p' ≡ p ++ (i ∷ []) → IsPattern l.places l.longest p' → s ≡ support (p ++ (i ∷ [])) → l.need ≤ s → wants p' ≡ true → Turned l support wants p i p' (Found s)
  turned_found p p' i s e pattern counted enough wanted =
      let same : s ≡ support p' = counted ∙ ap support (sym e) in
      (e, record { pattern = pattern; wanted = wanted; reached = omega arith }, same)

  -- the child is not wanted: on to its first child
  pub turned_down : (p p' : List ℕ) (i : ℕ) → p' ≡ p ++ (i ∷ []) → wants p' ≡ false → Turned l support wants p i p' (Go 0)
  turned_down p p' i e unwanted =
      let c = p ++ (i ∷ []) in
      let not : wants c ≡ false = ap wants (sym e) ∙ unwanted in
      rw e (begins_precedes c (c ++ (0 ∷ [])) (0, [], refl), down not)
    where
      down : wants (p ++ (i ∷ [])) ≡ false → (q : List ℕ) → Good l support wants q → UpTo (p ++ (i ∷ [])) q → UpTo ((p ++ (i ∷ [])) ++ (0 ∷ [])) q
      down not q k (inl a) = child_first (p ++ (i ∷ [])) q a
      down not q k (inr e) = absurd (both_ways (wants q) (ap wants (sym e) ∙ not) k.wanted)

  -- the child is not wanted, nor is anything that extends it
  pub turned_closed : (p c p' : List ℕ) (i : ℕ) (r : Turn) → c ≡ p ++ (i ∷ []) → wants c ≡ false → ((q : List ℕ) → Begins c q → IsPattern l.places l.longest q → wants q ≡ true → ⊥) → Left c p' r → Turned l support wants p i p' r
  turned_closed p c p' i (Found s) e unwanted none f = absurd f
  turned_closed p c p' i End e unwanted none f = absurd (snoc_some p i (sym e ∙ f.0))
  turned_closed p c p' i (Go j) e unwanted none f =
      let k = snoc_is p p' i f.0 (sym e ∙ f.1) in
      let m : j ≡ i + 1 = omega (arith, k.1, f.2) in
      let at : p' ≡ p = sym k.0 in
      rw (m, at)
      (turned_on p i (λ t. both_ways (wants (p ++ (i ∷ []))) (ap wants (sym e) ∙ unwanted) t.wanted)
      (λ q t g. none q (subst (λ (z : List ℕ). Begins z q) (sym e) g) t.pattern t.wanted))

  -- all children were tried
  pub turned_out : (p p' : List ℕ) (i : ℕ) (r : Turn) → l.places ≤ i → Left p p' r → Turned l support wants p i p' r
  turned_out p p' i (Found s) le f = absurd f
  turned_out p p' i (Go j) le f = rw (f.1, f.2) (later_up p' f.0 i, up p' f.0)
    where
      up : (r : List ℕ) (x : ℕ) (q : List ℕ) → Good l support wants q → UpTo ((r ++ (x ∷ [])) ++ (i ∷ [])) q → UpTo (r ++ ((x + 1) ∷ [])) q
      up r x q t u =
          let c = r ++ (x ∷ []) in
          rw add-one
          (sibling_first r x q (precedes_up_to c (c ++ (i ∷ [])) q (begins_precedes c (c ++ (i ∷ [])) (i, [], refl)) u)
          (past_last l.places c i q le t.pattern.2 u))
  turned_out p p' i End le f = λ q t u.
      past_last l.places p i q le t.pattern.2 u (subst (λ (z : List ℕ). Begins z q) (sym f.0) (begins_nil q t.pattern.0))

  -- How far the search has come

  good : (latest : List ℕ) (skip : Bool) (q : List ℕ) → Eligible l support wants latest skip q → Good l support wants q
  good latest skip q t = record { pattern = t.pattern; wanted = t.wanted; reached = t.reached }

  -- one turn more
  pub reached_more : (latest : List ℕ) (skip : Bool) (p : List ℕ) (i : ℕ) (p' : List ℕ) (r : Turn) → Reached l support wants latest skip p (Go i) → Turned l support wants p i p' r → Reached l support wants latest skip p' r
  reached_more latest skip p i p' (Found s) h t =
      let y = subst (Beyond latest skip) (sym t.0) h.0 in (
        first_from (Eligible l support wants latest skip) p' (λ q k. subst (λ (z : List ℕ). UpTo z q) (sym t.0) (h.1 q k)) (record { pattern = t.1.pattern; after = y.0; free = y.1; wanted = t.1.wanted; reached = t.1.reached }),
        t.2,
      )
  reached_more latest skip p i p' (Go j) h t = (
    beyond_more latest skip (p ++ (i ∷ [])) (p' ++ (j ∷ [])) h.0 t.0,
    λ q k. t.1 q (good latest skip q k) (h.1 q k),
  )
  reached_more latest skip p i p' End h t = λ q k. t q (good latest skip q k) (h.1 q k)

  -- the search begins below the latest
  pub reached_below : (latest : List ℕ) (skip : Bool) → skip ≡ false → Reached l support wants latest skip latest (Go 0)
  reached_below latest skip go = (
    (begins_precedes latest (latest ++ (0 ∷ [])) (0, [], refl), λ stop g. both_ways skip go stop),
    λ q k. child_first latest q k.after,
  )

  -- or past it
  pub reached_past : (latest : List ℕ) (skip : Bool) (p' : List ℕ) (r : Turn) → ((q : List ℕ) → Eligible l support wants latest skip q → Begins latest q → ⊥) → Left latest p' r → Reached l support wants latest skip p' r
  reached_past latest skip p' (Found s) none f = absurd f
  reached_past latest skip p' End none f = λ q k.
      none q k (subst (λ (z : List ℕ). Begins z q) (sym f.0) (begins_nil q k.pattern.0))
  reached_past latest skip p' (Go j) none f =
      let P : List ℕ → Type 0 = λ z. ((q : List ℕ) → Eligible l support wants z skip q → Begins z q → ⊥) → Reached l support wants z skip p' (Go j) in
      subst P (sym f.1) (λ none'. subst (λ (y : ℕ). Reached l support wants (p' ++ (f.0 ∷ [])) skip p' (Go y)) (sym f.2) (past p' f.0 none')) none
    where
      not_below : (p : List ℕ) (x : ℕ) → Begins (p ++ (x ∷ [])) (p ++ ((x + 1) ∷ [])) → ⊥
      not_below p x g = omega (arith, ap length g.2, length-append (p ++ (x ∷ [])) (g.0 ∷ g.1), length_snoc p x, length_snoc p (x + 1))

      past : (p : List ℕ) (x : ℕ) → ((q : List ℕ) → Eligible l support wants (p ++ (x ∷ [])) skip q → Begins (p ++ (x ∷ [])) q → ⊥) → Reached l support wants (p ++ (x ∷ [])) skip p (Go (x + 1))
      past p x none = (
        (later p x (x + 1) [] [] (omega arith), λ stop g. not_below p x g),
        λ q k. rw add-one (sibling_first p x q k.after (none q k)),
      )

-- what holds under some limits, of some support and filter, holds of those that are the same
pub turned_same : (l l' : Limits) (support support' : List ℕ → ℕ) (wants wants' : List ℕ → Bool) (p : List ℕ) (i : ℕ) (p' : List ℕ) (r : Turn) → l ≡ l' → support ≡ support' → wants ≡ wants' → Turned l support wants p i p' r → Turned l' support' wants' p i p' r
turned_same l l' support support' wants wants' p i p' r e f h t =
    subst (λ (z : Limits). Turned z support' wants' p i p' r) e
    (subst (λ (z : List ℕ → ℕ). Turned l z wants' p i p' r) f
    (subst (λ (z : List ℕ → Bool). Turned l support z p i p' r) h t))
