-- The fault from a place on, one mark further.
use Rattle.std.proofs.Common.{◌≡◌, ℕ, ◌+◌, ◌-◌, ◌≤◌, true, false, ◌⊎◌, List, length, drop, Some, None, sym, refl, ap, ◌∙◌, ⊎_elim, arith}
use Rattle.std.proofs.lemmas.List.{at_drop_more, at_drop_all}
use Rattle.std.proofs.lemmas.Bool.{cond-true, cond-false, lt-ltb}
use Rattle.grammar.specs.declared.mark.Mark.{Mark}
use Rattle.grammar.specs.declared.mark.Mark.TheVariants.{Leaf, Open, Close}
use Rattle.grammar.specs.Grammar.{At}
use Rattle.grammar.specs.Faults.{State, state, fits, behind, room, done, Step, goes, unfit, too_large, step, wrong, large, fault_after, fault_from, fault_at}

-- no variant is another
pub none_such : {X : Type 0} → ◌≡◌ {A = ℕ} 0 1 → X
none_such h = absurd (omega arith)

-- what a step is
pub step_goes : (s : State) (m : Mark) → fits s m ≡ true → room s m ≡ true → step s m ≡ goes (behind s m)
step_goes s m f w = cond-true (fits s m) _ unfit f ∙ cond-true (room s m) (goes (behind s m)) too_large w

pub step_large : (s : State) (m : Mark) → fits s m ≡ true → room s m ≡ false → step s m ≡ too_large
step_large s m f w = cond-true (fits s m) _ unfit f ∙ cond-false (room s m) (goes (behind s m)) too_large w

pub step_unfit : (s : State) (m : Mark) → fits s m ≡ false → step s m ≡ unfit
step_unfit s m f = cond-false (fits s m) _ unfit f

-- the fault by the step at a place
fault_by : {ms : List Mark} {i : ℕ} {m : Mark} (s : State) (w : Step) → At ms i m → step s m ≡ w → fault_at ms i s ≡ fault_after w i (fault_from (drop (i + 1) ms) (i + 1))
fault_by {ms} {i} {m} s w o e =
    at_drop_more (λ (xs : List Mark). fault_from xs i s) ms i Leaf o.inside
    ∙ ap (λ (x : Mark). fault_after (step s x) i (fault_from (drop (i + 1) ms) (i + 1))) o.is
    ∙ ap (λ (x : Step). fault_after x i (fault_from (drop (i + 1) ms) (i + 1))) e

pub fault_goes : {ms : List Mark} {i : ℕ} {m : Mark} (s : State) → At ms i m → fits s m ≡ true → room s m ≡ true → fault_at ms i s ≡ fault_at ms (i + 1) (behind s m)
fault_goes {ms} {i} {m} s o f w = fault_by s (goes (behind s m)) o (step_goes s m f w)

pub fault_large : {ms : List Mark} {i : ℕ} {m : Mark} (s : State) → At ms i m → fits s m ≡ true → room s m ≡ false → fault_at ms i s ≡ Some (large i)
fault_large {ms} {i} {m} s o f w = fault_by s too_large o (step_large s m f w)

pub fault_unfit : {ms : List Mark} {i : ℕ} {m : Mark} (s : State) → At ms i m → fits s m ≡ false → fault_at ms i s ≡ Some (wrong i)
fault_unfit {ms} {i} {m} s o f = fault_by s unfit o (step_unfit s m f)

-- at the end
pub fault_end : (ms : List Mark) (i : ℕ) (s : State) → length ms ≤ i → done s ≡ false → fault_at ms i s ≡ Some (wrong i)
fault_end ms i s h d = at_drop_all (λ (xs : List Mark). fault_from xs i s) ms i h ∙ cond-false (done s) None (Some (wrong i)) d

pub fault_none : (ms : List Mark) (i : ℕ) (s : State) → length ms ≤ i → done s ≡ true → fault_at ms i s ≡ None
fault_none ms i s h d = at_drop_all (λ (xs : List Mark). fault_from xs i s) ms i h ∙ cond-true (done s) None (Some (wrong i)) d

-- a bracket that is open can close
pub closes : (d k : ℕ) → fits (state (d + 1) k false) Close ≡ true
closes d k = lt-ltb 0 (d + 1) (omega arith)

pub closed : (d k : ℕ) → behind (state (d + 1) k false) Close ≡ state d k false
closed d k = let e : d + 1 - 1 ≡ d = omega arith in ap (λ (o : ℕ). state o k false) e

-- before a mark that begins an atom, whether one must come makes no difference
pub fault_begins : {ms : List Mark} {i : ℕ} (d k : ℕ) → At ms i Leaf ⊎ At ms i Open → fault_at ms i (state d k false) ≡ fault_at ms i (state d k true)
fault_begins {ms} {i} d k =
    ⊎_elim
    (λ o. fault_by (state d k false) (step (state d k true) Leaf) o refl ∙ sym (fault_by (state d k true) (step (state d k true) Leaf) o refl))
    (λ o. fault_by (state d k false) (step (state d k true) Open) o refl ∙ sym (fault_by (state d k true) (step (state d k true) Open) o refl))
