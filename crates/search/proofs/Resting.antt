-- Where each turn leaves the search, and that fewer turns are left.
use Rattle.std.proofs.Common.{◌≡◌, ℕ, ◌+◌, ◌<◌, ◌≤◌, List, [], ◌∷◌, ◌++◌, length, sym, ap, ◌∙◌, subst, arith}
use Rattle.law.specs.Order.{AllBelow, IsPattern}
use Rattle.search.specs.declared.turn.Turn.{Turn}
use Rattle.search.specs.declared.turn.Turn.TheVariants.{Found, Go, End}
use Rattle.search.specs.Turns.{Limits, Stands, Left, Rests, Moves, turns}
use Rattle.search.proofs.Tree.{below_snoc, below_front, length_snoc, snoc_is, snoc_some}
use Rattle.search.proofs.Counts.{falls_side, falls_down, falls_up}

module _ (l : Limits) where
  -- a child is a pattern
  pub child_pattern : (p p' : List ℕ) (i : ℕ) → i < l.places → Stands l p → p' ≡ p ++ (i ∷ []) → IsPattern l.places l.longest p'
  child_pattern p p' i lt st e =
      let len : length p' ≡ length p + 1 = ap length e ∙ length_snoc p i in
      (omega arith, omega (arith, st.short), subst (AllBelow l.places) (sym e) (below_snoc l.places p i st.within lt))

  -- the search left p
  pub rests_left : (p p' : List ℕ) (r : Turn) → length p ≤ l.longest → AllBelow l.places p → Left p p' r → Rests l p' r
  rests_left p p' (Found s) le a f = absurd f
  rests_left p p' (Go j) le a f =
      let len : length p ≡ length p' + 1 = ap length f.1 ∙ length_snoc p' f.0 in
      record { short = omega arith; within = below_front l.places p' f.0 (subst (AllBelow l.places) f.1 a) }
  rests_left p p' End le a f = f.1

  -- all children of p were tried
  pub moves_out : (p p' : List ℕ) (i : ℕ) (r : Turn) → Stands l p → Left p p' r → Moves l p i p' r
  moves_out p p' i r st f =
      record { rests = rests_left p p' r (omega (arith, st.short)) st.within f; fewer = fewer p p' i r f }
    where
      fewer : (p p' : List ℕ) (i : ℕ) (r : Turn) → Left p p' r → turns l p' r < turns l p (Go i)
      fewer p p' i (Found s) f = absurd f
      fewer p p' i (Go j) f =
          rw (f.1, f.2) (omega (arith, falls_up l.places l.longest p' f.0 i))
      fewer p p' i End f = omega arith

  -- on to the next child
  pub moves_on : (p p' : List ℕ) (i j : ℕ) → i < l.places → Stands l p → p' ≡ p → j ≡ i + 1 → Moves l p i p' (Go j)
  moves_on p p' i j lt st e f =
      rw (e, f) (record { rests = st; fewer = omega (arith, falls_side l.places l.longest p i lt) })

  -- the child was found
  pub moves_found : (p p' : List ℕ) (i s : ℕ) → i < l.places → Stands l p → p' ≡ p ++ (i ∷ []) → Moves l p i p' (Found s)
  moves_found p p' i s lt st e = record { rests = child_pattern p p' i lt st e; fewer = omega arith }

  -- the search went to the child and left it
  pub moves_closed : (p c p' : List ℕ) (i : ℕ) (r : Turn) → i < l.places → Stands l p → c ≡ p ++ (i ∷ []) → Left c p' r → Moves l p i p' r
  moves_closed p c p' i (Found s) lt st e f = absurd f
  moves_closed p c p' i (Go j) lt st e f =
      let k = snoc_is p p' i f.0 (sym e ∙ f.1) in
      moves_on p p' i j lt st (sym k.0) (omega (arith, k.1, f.2))
  moves_closed p c p' i End lt st e f = absurd (snoc_some p i (sym e ∙ f.0))

  -- down to the first child of the child
  pub moves_down : (p p' : List ℕ) (i : ℕ) → i < l.places → Stands l p → p' ≡ p ++ (i ∷ []) → length p' < l.longest → Moves l p i p' (Go 0)
  moves_down p p' i lt st e short =
      record {
        rests = record { short = short; within = (child_pattern p p' i lt st e).2 };
        fewer = rw e (omega (arith, falls_down l.places l.longest p i lt st.short));
      }
