-- Marks that fit to the end, with no limits: every expression does.
use Rattle.std.proofs.Common.{◌≡◌, ℕ, zero, suc, ◌+◌, ◌-◌, Bool, true, false, cond, ◌&&◌, ◌⊎◌, List, [], ◌∷◌, length, drop, replicate, sym, refl, ap, ◌∙◌, inl, inr, ⊎_elim, arith}
use Rattle.std.proofs.lemmas.List.{at_drop_more, at_drop_all}
use Rattle.std.proofs.lemmas.Bool.{and_from, lt-ltb}
use Rattle.regular.specs.Regex.{Regex}
use Rattle.grammar.specs.declared.mark.Mark.{Mark}
use Rattle.grammar.specs.declared.mark.Mark.TheVariants.{Leaf, Open, Close}
use Rattle.grammar.specs.Grammar.{At, Sort, Reads, lone_term, bar, lone_factor, next, lone_atom, starred, plussed, optional, leaf, bracket, IsExpression}
use Rattle.grammar.specs.Faults.{State, state, start, fits, behind, done}
use Rattle.grammar.proofs.Steps.{closes, closed}

-- every mark fits, from a state on, and the marks may end behind the last
abbrev pub accepts : List Mark → State → Bool
accepts [] s = done s
accepts (m ∷ ms) s = fits s m && accepts ms (behind s m)

accepts_goes : {ms : List Mark} {i : ℕ} {m : Mark} (s : State) → At ms i m → fits s m ≡ true → accepts (drop i ms) s ≡ accepts (drop (i + 1) ms) (behind s m)
accepts_goes {ms} {i} {m} s o f =
    at_drop_more (λ (xs : List Mark). accepts xs s) ms i Leaf o.inside
    ∙ ap (λ (x : Mark). fits s x && accepts (drop (i + 1) ms) (behind s x)) o.is
    ∙ ap (λ (b : Bool). b && accepts (drop (i + 1) ms) (behind s m)) f

-- what was read begins with an atom
begins : {ms : List Mark} {s : Sort} {i j k l : ℕ} {t : Regex ℕ} → Reads ms s i j k l t → At ms i Leaf ⊎ At ms i Open
begins (lone_term i j k l t a) = begins a
begins (bar i h j k m l s t a o b) = begins a
begins (lone_factor i j k l t a) = begins a
begins (next i h j k m l s t a b) = begins a
begins (lone_atom i j k l t a) = begins a
begins (starred i j k l t a o) = begins a
begins (plussed i j k l t a o) = begins a
begins (optional i j k l t a o) = begins a
begins (leaf i k o) = inl o
begins (bracket i j k l t o a c) = inr o

accepts_begins : {ms : List Mark} {i : ℕ} (d k : ℕ) → At ms i Leaf ⊎ At ms i Open → accepts (drop i ms) (state d k false) ≡ accepts (drop i ms) (state d k true)
accepts_begins d k =
    ⊎_elim
    (λ o. accepts_goes (state d k false) o refl ∙ sym (accepts_goes (state d k true) o refl))
    (λ o. accepts_goes (state d k false) o refl ∙ sym (accepts_goes (state d k true) o refl))

-- what is read takes a state in which an atom must come to the same with none
accepts_on : {ms : List Mark} {s : Sort} {i j k l : ℕ} {t : Regex ℕ} → Reads ms s i j k l t → (d : ℕ) → accepts (drop i ms) (state d k true) ≡ accepts (drop j ms) (state d l false)
accepts_on (lone_term i j k l t a) d = accepts_on a d
accepts_on (bar i h j k m l s t a o b) d = accepts_on a d ∙ accepts_goes (state d m false) o refl ∙ accepts_on b d
accepts_on (lone_factor i j k l t a) d = accepts_on a d
accepts_on (next i h j k m l s t a b) d = accepts_on a d ∙ accepts_begins d m (begins b) ∙ accepts_on b d
accepts_on (lone_atom i j k l t a) d = accepts_on a d
accepts_on (starred i j k l t a o) d = accepts_on a d ∙ accepts_goes (state d l false) o refl
accepts_on (plussed i j k l t a o) d = accepts_on a d ∙ accepts_goes (state d l false) o refl
accepts_on (optional i j k l t a o) d = accepts_on a d ∙ accepts_goes (state d l false) o refl
accepts_on (leaf i k o) d = accepts_goes (state d k true) o refl
accepts_on {ms} (bracket i j k l t o a c) d =
    accepts_goes (state d k true) o refl ∙ accepts_on a (d + 1) ∙ accepts_goes (state (d + 1) l false) c (closes d l) ∙ ap (accepts (drop (j + 1) ms)) (closed d l)

pub accepts_expression : (ms : List Mark) → IsExpression ms → accepts ms start ≡ true
accepts_expression ms e =
    accepts_on e.2 0 ∙ at_drop_all (λ (xs : List Mark). accepts xs (state 0 e.1 false)) ms (length ms) (omega arith)

-- from every state the marks can go on to an end: with a leaf if an atom must come, and with as many brackets that close as are open
abbrev completion : State → List Mark
completion s = cond s.must (Leaf ∷ replicate s.depth Close) (replicate s.depth Close)

all_closed : (d k : ℕ) → accepts (replicate d Close) (state d k false) ≡ true
all_closed zero k = refl
all_closed (suc d) k =
    let e : suc d - 1 ≡ d = omega arith in
    and_from (fits (state (suc d) k false) Close) (accepts (replicate d Close) (state (suc d - 1) k false)) (lt-ltb 0 (suc d) (omega arith))
    (ap (λ (x : ℕ). accepts (replicate d Close) (state x k false)) e ∙ all_closed d k)

completed : (d k : ℕ) (m : Bool) → accepts (completion (state d k m)) (state d k m) ≡ true
completed d k true = all_closed d (k + 1)
completed d k false = all_closed d k

pub goes_on : (s : State) → (more : List Mark) × (accepts more s ≡ true)
goes_on s = (completion s, completed s.depth s.leaves s.must)
