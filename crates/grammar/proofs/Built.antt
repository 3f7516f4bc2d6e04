-- Marks that fit to the end, with no limits, are an expression.
use Rattle.std.proofs.Common.{◌≡◌, ℕ, zero, suc, ◌+◌, ◌-◌, ◌<◌, ◌≤◌, Bool, true, false, List, [], ◌∷◌, length, drop, refl, ap, subst, add-one, arith}
use Rattle.std.proofs.lemmas.List.{drop_more, length-drop}
use Rattle.std.proofs.lemmas.Bool.{and_parts, false≢true, eqb-true}
use Rattle.regular.specs.Regex.{Regex, one, seq, alt, star, plus, opt}
use Rattle.grammar.specs.declared.mark.Mark.{Mark}
use Rattle.grammar.specs.declared.mark.Mark.TheVariants.{Leaf, Open, Close, Bar, Star, Plus, Maybe, Other}
use Rattle.grammar.specs.Grammar.{At, expression, factor, Reads, lone_term, bar, lone_factor, next, lone_atom, starred, plussed, optional, leaf, bracket, IsExpression}
use Rattle.grammar.specs.Faults.{state, start, fits}
use Rattle.grammar.proofs.Accepted.{accepts}

-- from the place i on there is an expression, behind which C holds
abbrev Whole : List Mark → (ℕ → ℕ → Type 0) → ℕ → ℕ → Type 0
Whole ms C i k = (j : ℕ) × (l : ℕ) × (t : Regex ℕ) × Reads ms expression i j k l t × C j l

-- a factor that ends at the place i begins an expression, behind which C holds
abbrev Goes : List Mark → (ℕ → ℕ → Type 0) → ℕ → ℕ → Type 0
Goes ms C i l = (h k : ℕ) (t : Regex ℕ) → Reads ms factor h i k l t → Whole ms C h k

-- behind an expression with d brackets open: the end, or a bracket that closes, and what was in brackets goes on with one less
abbrev Closing : List Mark → ℕ → ℕ → ℕ → Type 0
Closing ms zero j l = j ≡ length ms
Closing ms (suc d) j l = At ms j Close × Goes ms (Closing ms d) (j + 1) l

-- what follows from a state
abbrev Follows : List Mark → Bool → ℕ → ℕ → ℕ → Type 0
Follows ms true d i k = Whole ms (Closing ms d) i k
Follows ms false d i k = Goes ms (Closing ms d) i k

-- the first of what is left
head_at : (ms : List Mark) (i : ℕ) (m : Mark) (rest : List Mark) → drop i ms ≡ m ∷ rest → At ms i m × (drop (i + 1) ms ≡ rest)
head_at ms i m rest e =
    let h : i < length ms = omega (arith, ap length e, length-drop i ms) in
    let f = drop_more ms i Leaf h in
    (record { inside = h; is = cc }, cc)

from_leaf : {ms : List Mark} {i : ℕ} (C : ℕ → ℕ → Type 0) (k : ℕ) → At ms i Leaf → Goes ms C (i + 1) (k + 1) → Whole ms C i k
from_leaf {ms} {i} C k o g = g i k (one k) (lone_atom _ _ _ _ _ (leaf i k o))

from_open : {ms : List Mark} {i : ℕ} (d k : ℕ) → At ms i Open → Whole ms (Closing ms (suc d)) (i + 1) k → Whole ms (Closing ms d) i k
from_open {ms} {i} d k o w = w.4.1 i k w.2 (lone_atom _ _ _ _ _ (bracket _ _ _ _ _ o w.3 w.4.0))

-- an expression, with a factor before it
factor_before : {ms : List Mark} {h i j k m l : ℕ} {s t : Regex ℕ} → Reads ms factor h i k m s → Reads ms expression i j m l t → (u : Regex ℕ) × Reads ms expression h j k l u
factor_before f (lone_term i j m l t a) = (seq _ t, lone_term _ _ _ _ _ (next _ _ _ _ _ _ _ _ f a))
factor_before f (bar i h j m n l s t a o b) = (alt (seq _ s) t, bar _ _ _ _ _ _ _ _ (next _ _ _ _ _ _ _ _ f a) o b)

from_factor : {ms : List Mark} (C : ℕ → ℕ → Type 0) (i k : ℕ) → Whole ms C i k → Goes ms C i k
from_factor C i k w h k' s f = let e = factor_before f w.3 in (w.0, w.1, e.0, e.1, w.4)

-- an expression from here on, whether an atom must come or a factor stands before
follows : {ms : List Mark} (b : Bool) (d i k : ℕ) → Whole ms (Closing ms d) i k → Follows ms b d i k
follows true d i k w = w
follows {ms} false d i k w = from_factor (Closing ms d) i k w

builds : (ms rest : List Mark) (b : Bool) (d i k : ℕ) → i ≤ length ms → drop i ms ≡ rest → accepts rest (state d k b) ≡ true → Follows ms b d i k
builds ms [] true d i k h e a = absurd (false≢true a)
builds ms [] false zero i k h e a =
    λ p q t f. (i, k, t, lone_term _ _ _ _ _ (lone_factor _ _ _ _ _ f), let z : i ≡ length ms = omega (arith, ap length e, length-drop i ms) in z)
builds ms [] false (suc d) i k h e a = absurd (let z : suc d ≡ 0 = eqb-true (suc d) 0 a in omega arith)
builds ms (Leaf ∷ rest) b d i k h e a =
    let o = head_at ms i Leaf rest e in
    let l = o.0.inside in
    follows b d i k (from_leaf (Closing ms d) k o.0 (builds ms rest false d (i + 1) (k + 1) (omega arith) o.1 a))
builds ms (Open ∷ rest) b d i k h e a =
    let o = head_at ms i Open rest e in
    let l = o.0.inside in
    follows b d i k (from_open d k o.0 (subst (λ (x : ℕ). Whole ms (Closing ms x) (i + 1) k) (add-one d) (builds ms rest true (d + 1) (i + 1) k (omega arith) o.1 a)))
builds ms (Close ∷ rest) true d i k h e a = absurd (false≢true a)
builds ms (Close ∷ rest) false zero i k h e a = absurd (false≢true a)
builds ms (Close ∷ rest) false (suc d) i k h e a =
    let o = head_at ms i Close rest e in
    let l = o.0.inside in
    let y = and_parts (fits (state (suc d) k false) Close) (accepts rest (state (suc d - 1) k false)) a in
    let z : suc d - 1 ≡ d = omega arith in
    let g = subst (λ (x : ℕ). Goes ms (Closing ms x) (i + 1) k) z (builds ms rest false (suc d - 1) (i + 1) k (omega arith) o.1 y.1) in
    λ p q t f. (i, k, t, lone_term _ _ _ _ _ (lone_factor _ _ _ _ _ f), (o.0, g))
builds ms (Bar ∷ rest) true d i k h e a = absurd (false≢true a)
builds ms (Bar ∷ rest) false d i k h e a =
    let o = head_at ms i Bar rest e in
    let l = o.0.inside in
    let w = builds ms rest true d (i + 1) k (omega arith) o.1 a in
    λ p q t f. (w.0, w.1, alt t w.2, bar _ _ _ _ _ _ _ _ (lone_factor _ _ _ _ _ f) o.0 w.3, w.4)
builds ms (Star ∷ rest) true d i k h e a = absurd (false≢true a)
builds ms (Star ∷ rest) false d i k h e a =
    let o = head_at ms i Star rest e in
    let l = o.0.inside in
    let g = builds ms rest false d (i + 1) k (omega arith) o.1 a in
    λ p q t f. g p q (star t) (starred _ _ _ _ _ f o.0)
builds ms (Plus ∷ rest) true d i k h e a = absurd (false≢true a)
builds ms (Plus ∷ rest) false d i k h e a =
    let o = head_at ms i Plus rest e in
    let l = o.0.inside in
    let g = builds ms rest false d (i + 1) k (omega arith) o.1 a in
    λ p q t f. g p q (plus t) (plussed _ _ _ _ _ f o.0)
builds ms (Maybe ∷ rest) true d i k h e a = absurd (false≢true a)
builds ms (Maybe ∷ rest) false d i k h e a =
    let o = head_at ms i Maybe rest e in
    let l = o.0.inside in
    let g = builds ms rest false d (i + 1) k (omega arith) o.1 a in
    λ p q t f. g p q (opt t) (optional _ _ _ _ _ f o.0)
builds ms (Other ∷ rest) b d i k h e a = absurd (false≢true a)

pub expression_accepted : (ms : List Mark) → accepts ms start ≡ true → IsExpression ms
expression_accepted ms a =
    let w = builds ms ms true 0 0 0 (omega arith) refl a in
    (w.2, w.1, subst (λ (x : ℕ). Reads ms expression 0 x 0 w.1 w.2) w.4 w.3)
