-- The leaves of what was read are numbered in reading order.
use Rattle.std.proofs.Common.{◌≡◌, ℕ, ◌+◌, List, [], ◌∷◌, ◌++◌, length, get_or, take, refl, ap, ◌∙◌, arith}
use Rattle.std.proofs.lemmas.List.{take_more, take_all}
use Rattle.regular.specs.Regex.{Regex}
use Rattle.grammar.specs.declared.mark.Mark.{Mark}
use Rattle.grammar.specs.declared.mark.Mark.TheVariants.{Leaf}
use Rattle.grammar.specs.Grammar.{At, Sort, expression, Reads, lone_term, bar, lone_factor, next, lone_atom, starred, plussed, optional, leaf, bracket}
use Rattle.regular.specs.Automata.{Numbered}
use Rattle.grammar.specs.Stands.{count}

pub reads_numbered : {ms : List Mark} {s : Sort} {i j k l : ℕ} {t : Regex ℕ} → Reads ms s i j k l t → Numbered t k l
reads_numbered (lone_term i j k l t a) = reads_numbered a
reads_numbered (bar i h j k m l s t a o b) = (m, reads_numbered a, reads_numbered b)
reads_numbered (lone_factor i j k l t a) = reads_numbered a
reads_numbered (next i h j k m l s t a b) = (m, reads_numbered a, reads_numbered b)
reads_numbered (lone_atom i j k l t a) = reads_numbered a
reads_numbered (starred i j k l t a o) = reads_numbered a
reads_numbered (plussed i j k l t a o) = reads_numbered a
reads_numbered (optional i j k l t a o) = reads_numbered a
reads_numbered (leaf i k o) = (refl, refl)
reads_numbered (bracket i j k l t o a c) = reads_numbered a

-- how often a mark stands in some marks and one more
pub count_append : (m : Mark) (xs ys : List Mark) → count m (xs ++ ys) ≡ count m xs + count m ys
count_append m [] ys = omega arith
count_append m (x ∷ xs) ys = omega (arith, count_append m xs ys)

count_more : {ms : List Mark} {i : ℕ} {x : Mark} (m : Mark) → At ms i x → count m (take (i + 1) ms) ≡ count m (take i ms) + count m (x ∷ [])
count_more {ms} {i} {x} m o =
    ap (count m) (take_more ms i Leaf o.inside) ∙ count_append m (take i ms) (get_or ms i Leaf ∷ [])
    ∙ ap (λ (y : Mark). count m (take i ms) + count m (y ∷ [])) o.is

-- the numbers of the leaves count the marks that are leaves
leaves_counted : {ms : List Mark} {s : Sort} {i j k l : ℕ} {t : Regex ℕ} → Reads ms s i j k l t → count Leaf (take j ms) + k ≡ count Leaf (take i ms) + l
leaves_counted (lone_term i j k l t a) = leaves_counted a
leaves_counted (bar i h j k m l s t a o b) = omega (arith, leaves_counted a, count_more Leaf o, leaves_counted b)
leaves_counted (lone_factor i j k l t a) = leaves_counted a
leaves_counted (next i h j k m l s t a b) = omega (arith, leaves_counted a, leaves_counted b)
leaves_counted (lone_atom i j k l t a) = leaves_counted a
leaves_counted (starred i j k l t a o) = omega (arith, leaves_counted a, count_more Leaf o)
leaves_counted (plussed i j k l t a o) = omega (arith, leaves_counted a, count_more Leaf o)
leaves_counted (optional i j k l t a o) = omega (arith, leaves_counted a, count_more Leaf o)
leaves_counted (leaf i k o) = omega (arith, count_more Leaf o)
leaves_counted (bracket i j k l t o a c) = omega (arith, count_more Leaf o, leaves_counted a, count_more Leaf c)

pub reads_leaves : {ms : List Mark} {n : ℕ} {t : Regex ℕ} → Reads ms expression 0 (length ms) 0 n t → n ≡ count Leaf ms
reads_leaves {ms} {n} r = omega (arith, leaves_counted r, ap (count Leaf) (take_all (length ms) ms (omega arith)))
