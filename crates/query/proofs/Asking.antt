-- What the digits of a field tell, where a field ends, and that a line is read as a query exactly if it is written as one.
use Rattle.std.proofs.Common.{◌≡◌, ℕ, zero, suc, ◌+◌, ◌-◌, ◌*◌, ◌<◌, ◌≤◌, Bool, true, false, cond, ◌&&◌, eqb, ltb, List, [], ◌∷◌, ◌++◌, length, take, drop, Some, None, Option, sym, refl, ap, ◌∙◌, add-one, arith}
use Rattle.std.proofs.lemmas.Bool.Decides.{nat_tests}
use Rattle.std.proofs.lemmas.Bool.{eqb-true, ltb-true, lt-ltb, and_from, cond-true}
use Rattle.std.proofs.lemmas.List.{take_at, drop_at, drop-drop, length-append, length-take-le, length-drop}
use Rattle.event.specs.declared.span.Span.{Span}
use Rattle.event.specs.Numerals.{is_digit, onward, read_from}
use Rattle.event.specs.Spans.{span}
use Rattle.query.specs.declared.line.Query.{Query}
use Rattle.query.specs.Queries.{before, digits_to, query_of, query_in, AllDigits, value_from, Digits, Asks}

-- the greatest number that so many digits write behind another
abbrev greatest : ℕ → ℕ → ℕ
greatest zero v = v
greatest (suc k) v = greatest k (v * 10 + 9)

no_less : (k v : ℕ) → v ≤ greatest k v
no_less zero v = omega arith
no_less (suc k) v = omega (arith, no_less k (v * 10 + 9))

rises : (k v w : ℕ) → v ≤ w → greatest k v ≤ greatest k w
rises zero v w le = le
rises (suc k) v w le = rises k (v * 10 + 9) (w * 10 + 9) (omega arith)

-- a digit, and one that is read
digit : (d : ℕ) → is_digit d ≡ true → (48 ≤ d) × (d ≤ 57)
digit d e = grind (arith, nat_tests)

taken : (most v d : ℕ) (ds : List ℕ) → is_digit d ≡ true → onward v d ≤ most → read_from most v (d ∷ ds) ≡ read_from most (onward v d) ds
taken most v d ds e le = grind (arith, nat_tests)

-- digits that are few enough for the limit are read as their value
read_digits : (k most v : ℕ) (ds : List ℕ) → AllDigits ds → length ds ≤ k → greatest k v ≤ most → read_from most v ds ≡ Some (value_from v ds)
read_digits k most v [] all few le = refl
read_digits zero most v (d ∷ ds) all few le = absurd (omega arith)
read_digits (suc k) most v (d ∷ ds) all few le =
    let b = digit d all.0 in
    let w = onward v d in
    let r = rises k w (v * 10 + 9) (omega arith) in
    let o : w ≤ most = omega (arith, no_less k w) in
    taken most v d ds all.0 o ∙ read_digits k most w ds all.1 (omega arith) (omega arith)

-- what is read is digits, and their value
taken_tells : (most v n d : ℕ) (ds : List ℕ) → read_from most v (d ∷ ds) ≡ Some n → (is_digit d ≡ true) × (read_from most (onward v d) ds ≡ Some n)
taken_tells most v n d ds e = grind (arith, nat_tests)

read_tells : (most v n : ℕ) (ds : List ℕ) → read_from most v ds ≡ Some n → AllDigits ds × (value_from v ds ≡ n)
read_tells most v n [] e = (tt, cc)
read_tells most v n (d ∷ ds) e =
    let t = taken_tells most v n d ds e in
    let r = read_tells most (onward v d) n ds t.1 in
    ((t.0, r.0), r.1)

-- a field is read exactly if it is written
within : (count most n : ℕ) (ds : List ℕ) → digits_to count most ds ≡ Some n → (1 ≤ length ds) × (length ds ≤ count) × (read_from most 0 ds ≡ Some n)
within count most n ds e = grind (arith, nat_tests)

field_tells : (count most n : ℕ) (ds : List ℕ) → digits_to count most ds ≡ Some n → Digits count n ds
field_tells count most n ds e =
    let w = within count most n ds e in
    let r = read_tells most 0 n ds w.2 in
    record { some = w.0; few = w.1; digits = r.0; value = r.1 }

field_read : (count most n : ℕ) (ds : List ℕ) → greatest count 0 ≤ most → Digits count n ds → digits_to count most ds ≡ Some n
field_read count most n ds le f =
    let r = read_digits count most 0 ds f.digits f.few le ∙ ap Some f.value in
    let a = f.some in
    let b = f.few in
    grind (arith, nat_tests)

-- the first of a value that is there stands between what is before it and the rest
abbrev Cut : ℕ → List ℕ → ℕ → Type 0
Cut v bs n = n < length bs → bs ≡ take n bs ++ (v ∷ drop (n + 1) bs)

cut_more : (v b : ℕ) (bs : List ℕ) (n : ℕ) (t : Bool) → (t ≡ true → b ≡ v) → Cut v bs n → Cut v (b ∷ bs) (cond t 0 (n + 1))
cut_more v b bs n true here there = λ _. ap (λ (x : ℕ). x ∷ bs) (here refl)
cut_more v b bs n false here there = λ h. simp add-one (ap (λ (x : List ℕ). b ∷ x) (simp add-one at (there (omega arith))))

cut : (v : ℕ) (bs : List ℕ) → Cut v bs (before v bs)
cut v [] = λ h. absurd (omega arith)
cut v (b ∷ bs) = cut_more v b bs (before v bs) (eqb b v) (eqb-true b v) (cut v bs)

-- no digit is a space
passed : (ds rest : List ℕ) → AllDigits ds → before 32 (ds ++ (32 ∷ rest)) ≡ length ds
passed [] rest all = refl
passed (d ∷ ds) rest all =
    let b = digit d all.0 in
    let r = passed ds rest all.1 in
    grind (arith, nat_tests)

-- a query is made of its parts, and has no others
whole : (x y : Option ℕ) (s : Span) (q : Query) → x ≡ Some q.threshold → y ≡ Some q.longest → q.text ≡ s → query_of x y s ≡ Some q
whole x y s q e f g = rw (e, f, ← g)

parts : (x y : Option ℕ) (s : Span) (q : Query) → query_of x y s ≡ Some q → (x ≡ Some q.threshold) × (y ≡ Some q.longest) × (q.text ≡ s)
parts (Some t) (Some l) s q e = (cc, cc, cc)
parts (Some t) None s q e = absurd (let z : ◌≡◌ {A = ℕ} 0 1 = cc in omega arith)
parts None y s q e = absurd (let z : ◌≡◌ {A = ℕ} 0 1 = cc in omega arith)

-- both spaces of a line that is read are there
spaced : (b c : Bool) (o : Option Query) (q : Query) → cond (b && c) o None ≡ Some q → (b ≡ true) × (c ≡ true) × (o ≡ Some q)
spaced b c o q e = grind (arith, nat_tests)

-- a line that is read as a query is written as it
pub read_asks : (line : List ℕ) (q : Query) → query_in line ≡ Some q → Asks line q
read_asks line q e =
    let first = before 32 line in
    let rest = drop (first + 1) line in
    let second = before 32 rest in
    let start = first + 1 + second + 1 in
    let threshold = take first line in
    let longest = take second rest in
    let text = drop (second + 1) rest in
    let s = spaced (ltb first (length line)) (ltb second (length rest)) _ q e in
    let f = ltb-true first (length line) s.0 in
    let g = ltb-true second (length rest) s.1 in
    let p = parts (digits_to 3 999 threshold) (digits_to 2 99 longest) (span start (length line - start)) q s.2 in
    let a = length-take-le first line (omega arith) in
    let b = length-take-le second rest (omega arith) in
    let m : start ≡ length threshold + 1 + length longest + 1 = omega arith in
    let n : length line - start ≡ length text = omega (arith, length-drop (first + 1) line, length-drop (second + 1) rest) in
    record {
      threshold = threshold;
      longest = longest;
      text = text;
      written = cut 32 line f ∙ ap (λ (t : List ℕ). threshold ++ (32 ∷ t)) (cut 32 rest g);
      first = field_tells 3 999 q.threshold threshold p.0;
      second = field_tells 2 99 q.longest longest p.1;
      place = p.2 ∙ cc;
    }

-- a space behind digits is found, with what stands around it
ended : (ds rest bs : List ℕ) → AllDigits ds → bs ≡ ds ++ (32 ∷ rest) → (ltb (before 32 bs) (length bs) ≡ true) × (before 32 bs ≡ length ds) × (take (before 32 bs) bs ≡ ds) × (drop (before 32 bs + 1) bs ≡ rest) × (length bs ≡ length ds + 1 + length rest)
ended ds rest bs all e =
    let l : length bs ≡ length ds + 1 + length rest = ap length e ∙ simp length-append (omega arith) in
    let n : before 32 bs ≡ length ds = ap (before 32) e ∙ passed ds rest all in
    let t : take (before 32 bs) bs ≡ ds = ap (take (before 32 bs)) e ∙ take_at ds (32 ∷ rest) (before 32 bs) (sym n) in
    let d : drop (before 32 bs + 1) bs ≡ rest = ap (drop (before 32 bs + 1)) e ∙ sym (drop-drop 1 (before 32 bs) (ds ++ (32 ∷ rest))) ∙ ap (drop 1) (drop_at ds (32 ∷ rest) (before 32 bs) (sym n)) in
    (lt-ltb (before 32 bs) (length bs) (omega arith), n, t, d, l)

-- a line that is written as a query is read as it
pub asks_read : (line : List ℕ) (q : Query) → Asks line q → query_in line ≡ Some q
asks_read line q a =
    let first = before 32 line in
    let rest = drop (first + 1) line in
    let second = before 32 rest in
    let start = first + 1 + second + 1 in
    let f = ended a.threshold (a.longest ++ (32 ∷ a.text)) line a.first.digits a.written in
    let g = ended a.longest a.text rest a.second.digits f.3 in
    let x = ap (digits_to 3 999) f.2 ∙ field_read 3 999 q.threshold a.threshold (omega arith) a.first in
    let y = ap (digits_to 2 99) g.2 ∙ field_read 2 99 q.longest a.longest (omega arith) a.second in
    let m : length a.threshold + 1 + length a.longest + 1 ≡ start = omega arith in
    let n : length a.text ≡ length line - start = omega (arith, length-drop (first + 1) line) in
    let s = span start (length line - start) in
    let p : q.text ≡ s = a.place ∙ cc in
    cond-true _ _ None (and_from _ _ f.0 g.0) ∙ whole _ _ s q x y p
