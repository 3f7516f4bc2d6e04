-- What is read of an expression, part by part.
use Rattle.std.proofs.Common.{◌≡◌, ℕ, ◌+◌, ◌<◌, ◌≤◌, true, false, ◌⊎◌, List, length, get_or, slice_get, Some, None, Option, MatchOption, Result, MatchResult, vec_items, sym, refl, ap, ◌∙◌, subst, inl, inr, ⊎_elim, arith}
use Rattle.std.specs.Result.{IsErrAnd}
use Rattle.std.proofs.lemmas.Bool.{lt-ltb, le-ltb, ne_eqb, cases_lt}
use Rattle.std.proofs.lemmas.Option.{none-some, slice_get_within, get_or_from_slice_get, slice_get-get_or}
use Rattle.std.proofs.lemmas.Result.{MatchResult-weaker, err_from_is_err_and}
use Rattle.grammar.specs.declared.reader.Reader.{Reader}
use Rattle.regular.specs.declared.node.Node.{Node}
use Rattle.regular.specs.declared.node.Node.TheVariants.{Leaf as LeafNode, Then, Either, Star as StarNode, Plus as PlusNode, Maybe as MaybeNode}
use Rattle.regular.specs.Regex.{Regex, seq, alt, star, plus, opt}
use Rattle.regular.specs.Trees.{Falling, Grown, node_tree, tree}
use Rattle.grammar.specs.declared.mark.Mark.{Mark}
use Rattle.grammar.specs.declared.mark.Mark.TheVariants.{Leaf, Open, Close, Bar, Star, Plus, Maybe, Other}
use Rattle.grammar.specs.declared.mark.ReadFault.{ReadFault}
use Rattle.grammar.specs.declared.mark.ReadFault.TheVariants.{Mark as MarkFault, Size, Memory}
use Rattle.grammar.specs.Grammar.{At, Sort, expression, term, factor, atom, Reads, lone_term, bar, lone_factor, next, lone_atom, starred, plussed, optional, leaf, bracket}
use Rattle.grammar.specs.Faults.{state, fits, wrong, fault_at, fault_of}
use Rattle.grammar.specs.Readings.{Added, LeafAdded, NoRoom, NoLeaf, mark_level, Reading, Gives, Refuses, Read, repeat_of, Whole}
use Rattle.regular.proofs.Nodes.{tree_at, tree_kept, grown_on}
use Rattle.grammar.proofs.Steps.{none_such, fault_goes, fault_large, fault_unfit, fault_end, fault_none, fault_begins, closes, closed}

-- what is known of the mark behind a part
pub level_factor : (m : Mark) (n : ℕ) → repeat_of m n ≡ None → 1 < mark_level m
level_factor Leaf n e = omega arith
level_factor Open n e = omega arith
level_factor Close n e = omega arith
level_factor Bar n e = omega arith
level_factor Star n e = none_such (cc)
level_factor Plus n e = none_such (cc)
level_factor Maybe n e = none_such (cc)
level_factor Other n e = omega arith

pub level_term : (m : Mark) → (m ≡ Leaf → ⊥) → (m ≡ Open → ⊥) → 1 < mark_level m → 2 < mark_level m
level_term Leaf a b h = absurd (a refl)
level_term Open a b h = absurd (b refl)
level_term Close a b h = omega arith
level_term Bar a b h = omega arith
level_term Star a b h = absurd (omega arith)
level_term Plus a b h = absurd (omega arith)
level_term Maybe a b h = absurd (omega arith)
level_term Other a b h = omega arith

pub level_expression : (m : Mark) → (m ≡ Bar → ⊥) → 2 < mark_level m → 3 < mark_level m
level_expression Leaf a h = absurd (omega arith)
level_expression Open a h = absurd (omega arith)
level_expression Close a h = omega arith
level_expression Bar a h = absurd (a refl)
level_expression Star a h = absurd (omega arith)
level_expression Plus a h = absurd (omega arith)
level_expression Maybe a h = absurd (omega arith)
level_expression Other a h = omega arith

level_atom : (m : Mark) → 0 < mark_level m
level_atom Leaf = omega arith
level_atom Open = omega arith
level_atom Close = omega arith
level_atom Bar = omega arith
level_atom Star = omega arith
level_atom Plus = omega arith
level_atom Maybe = omega arith
level_atom Other = omega arith

-- what does not fit behind an expression, in brackets and outside
unfit_inside : (m : Mark) (d k : ℕ) → 3 < mark_level m → (m ≡ Close → ⊥) → fits (state d k false) m ≡ false
unfit_inside Leaf d k h n = absurd (omega arith)
unfit_inside Open d k h n = absurd (omega arith)
unfit_inside Close d k h n = absurd (n refl)
unfit_inside Bar d k h n = absurd (omega arith)
unfit_inside Star d k h n = absurd (omega arith)
unfit_inside Plus d k h n = absurd (omega arith)
unfit_inside Maybe d k h n = absurd (omega arith)
unfit_inside Other d k h n = refl

unfit_outside : (m : Mark) (k : ℕ) → 3 < mark_level m → fits (state 0 k false) m ≡ false
unfit_outside Leaf k h = absurd (omega arith)
unfit_outside Open k h = absurd (omega arith)
unfit_outside Close k h = refl
unfit_outside Bar k h = absurd (omega arith)
unfit_outside Star k h = absurd (omega arith)
unfit_outside Plus k h = absurd (omega arith)
unfit_outside Maybe k h = absurd (omega arith)
unfit_outside Other k h = refl

-- what does not fit where an atom must come
pub unfit_atom : (m : Mark) (d k : ℕ) → (m ≡ Leaf → ⊥) → (m ≡ Open → ⊥) → fits (state d k true) m ≡ false
unfit_atom Leaf d k a b = absurd (a refl)
unfit_atom Open d k a b = absurd (b refl)
unfit_atom Close d k a b = refl
unfit_atom Bar d k a b = refl
unfit_atom Star d k a b = refl
unfit_atom Plus d k a b = refl
unfit_atom Maybe d k a b = refl
unfit_atom Other d k a b = refl

-- a part that is also one of another sort
reading_as : {ms : List Mark} {s u : Sort} {d i k l n j : ℕ} {ns : List Node} → Reads ms u i j k l (tree ns n) → Reading ms s d i k l ns n j → Reading ms u d i k l ns n j
reading_as x r = record { in_table = r.in_table; on = r.on; inside = r.inside; few = r.few; reads = x; same = r.same }

-- a mark that stands at a place, by what a reader of the same marks sees there
pub at_next : {ms xs : List Mark} {i : ℕ} {m : Mark} → xs ≡ ms → slice_get xs i ≡ Some m → At ms i m
at_next {ms} {xs} {i} {m} e h = subst (λ (ys : List Mark). At ys i m) e (record { inside = slice_get_within xs i m h; is = get_or_from_slice_get xs i m Leaf h })

-- and the other way
seen : {ms xs : List Mark} {i : ℕ} {m : Mark} → xs ≡ ms → i < length ms → get_or ms i Leaf ≡ m → slice_get xs i ≡ Some m
seen {ms} {xs} {i} e h o = ap (λ (ys : List Mark). slice_get ys i) e ∙ slice_get-get_or ms i Leaf h ∙ ap Some o

pub gives_lone_term : {ms xs : List Mark} {d i k l n j : ℕ} {ns : List Node} → xs ≡ ms → Gives ms term d i k l ns n j → (slice_get xs j ≡ Some Bar → ⊥) → Gives ms expression d i k l ns n j
gives_lone_term e g b =
    record { reading = reading_as (lone_term _ _ _ _ _ g.reading.reads) g.reading; ends = λ h. level_expression _ (λ o. b (seen e h o)) (g.ends h) }

pub gives_lone_factor : {ms xs : List Mark} {d i k l n j : ℕ} {ns : List Node} → xs ≡ ms → Gives ms factor d i k l ns n j → (slice_get xs j ≡ Some Leaf → ⊥) → (slice_get xs j ≡ Some Open → ⊥) → Gives ms term d i k l ns n j
gives_lone_factor e g a b =
    record { reading = reading_as (lone_factor _ _ _ _ _ g.reading.reads) g.reading; ends = λ h. level_term _ (λ o. a (seen e h o)) (λ o. b (seen e h o)) (g.ends h) }

pub gives_factor : {ms xs : List Mark} {d i k l n j : ℕ} {ns : List Node} → xs ≡ ms → Reading ms factor d i k l ns n j → ((m : Mark) → slice_get xs j ≡ Some m → repeat_of m n ≡ None) → Gives ms factor d i k l ns n j
gives_factor {n = n} e r f = record { reading = r; ends = λ h. level_factor _ n (f _ (seen e h refl)) }

pub reading_lone_atom : {ms : List Mark} {d i k l n j : ℕ} {ns : List Node} → Reading ms atom d i k l ns n j → Reading ms factor d i k l ns n j
reading_lone_atom r = reading_as (lone_atom _ _ _ _ _ r.reads) r

-- the same marks, and the same numbers, under other names
pub gives_in : {ms xs : List Mark} {s : Sort} {d i k l n j : ℕ} {ns : List Node} → xs ≡ ms → Gives xs s d i k l ns n j → Gives ms s d i k l ns n j
gives_in {s = s} {d} {i} {k} {l} {n} {j} {ns} e = subst (λ (ys : List Mark). Gives ys s d i k l ns n j) e

pub refuses_in : {ms xs : List Mark} (d i k : ℕ) (f : ReadFault) → xs ≡ ms → Refuses xs d i k f → Refuses ms d i k f
refuses_in d i k f e = subst (λ (ys : List Mark). Refuses ys d i k f) e

pub reading_as_far : {ms : List Mark} {s : Sort} {d i k l n j : ℕ} {ns : List Node} (m h : ℕ) → m ≡ l → h ≡ j → Reading ms s d i k l ns n j → Reading ms s d i k m ns n h
reading_as_far {ms} {s} {d} {i} {k} {l} {n} {j} {ns} m h e x r =
    subst (λ (y : ℕ). Reading ms s d i k m ns n y) (sym x) (subst (λ (y : ℕ). Reading ms s d i k y ns n j) (sym e) r)

pub gives_as_far : {ms : List Mark} {s : Sort} {d i k l n j : ℕ} {ns : List Node} (m h : ℕ) → m ≡ l → h ≡ j → Gives ms s d i k l ns n j → Gives ms s d i k m ns n h
gives_as_far {ms} {s} {d} {i} {k} {l} {n} {j} {ns} m h e x r =
    subst (λ (y : ℕ). Gives ms s d i k m ns n y) (sym x) (subst (λ (y : ℕ). Gives ms s d i k y ns n j) (sym e) r)

-- a refusal that is handed on
pub refused : (s : Sort) (d : ℕ) (old new : Reader) (r : Result ℕ ReadFault) (f : ReadFault) → IsErrAnd r (λ y. y ≡ f) → Refuses old.marks.now d old.at old.leaves f → Read s d old new r
refused s d old new r f e h = let p = err_from_is_err_and r e in rw (p.1, p.2) h

-- what is read where one more node is added, if it is
pub read_added : (s : Sort) (d : ℕ) (old new : Reader) (v : Node) (r : Result ℕ ReadFault) → MatchResult r (λ n. Added (vec_items new.table.nodes) n v) NoRoom
    → ((n : ℕ) → Added (vec_items new.table.nodes) n v → Gives old.marks.now s d old.at old.leaves new.leaves (vec_items new.table.nodes) n new.at) → Read s d old new r
read_added s d old new v r a g = MatchResult-weaker r a g (λ f e. subst (Refuses old.marks.now d old.at old.leaves) (sym e) tt)

-- a mark that begins an atom
pub begins_atom : {ms : List Mark} {i : ℕ} {m : Mark} → At ms i m → (m ≡ Leaf) ⊎ (m ≡ Open) → At ms i Leaf ⊎ At ms i Open
begins_atom {ms} {i} o = ⊎_elim (λ e. inl (subst (At ms i) e o)) (λ e. inr (subst (At ms i) e o))

-- from a term and a bar on
pub fault_bar : {ms : List Mark} {d i k m a h : ℕ} {ns : List Node} → Reading ms term d i k m ns a h → At ms h Bar → fault_at ms i (state d k true) ≡ fault_at ms (h + 1) (state d m true)
fault_bar {ms} {d} {i} {k} {m} s o = s.same ∙ fault_goes (state d m false) o refl refl

-- from a factor and the beginning of the next on
pub fault_next : {ms : List Mark} {d i k m a h : ℕ} {ns : List Node} → Reading ms factor d i k m ns a h → At ms h Leaf ⊎ At ms h Open → fault_at ms i (state d k true) ≡ fault_at ms h (state d m true)
fault_next {ms} {d} {i} {k} {m} s o = s.same ∙ fault_begins d m o

-- a part before another of the sort that both make, where f makes the expression of the two
gives_both : {ms : List Mark} {s u : Sort} {d i h g j k m l a b n : ℕ} {t0 t1 t2 : List Node} (f : Regex ℕ → Regex ℕ → Regex ℕ) (v : Node) → Falling t0 → Falling t1 → Falling t2 → Grown t0 t1 → Grown t1 t2
    → Reading ms s d i k m t0 a h → h ≤ g → Gives ms u d g m l t1 b j → Added t2 n v → node_tree (tree t2) v ≡ f (tree t2 a) (tree t2 b)
    → Reads ms u i j k l (f (tree t0 a) (tree t1 b)) → fault_at ms i (state d k true) ≡ fault_at ms g (state d m true) → Gives ms u d i k l t2 n j
gives_both {ms} {s} {u} {d} {i} {h} {g} {j} {k} {m} {l} {a} {b} {n} {t0} {t1} {t2} f v f0 f1 f2 w x r y q z e o c =
    let t = q.reading in
    let p = tree_kept t0 t2 f0 (grown_on t0 t1 t2 w x) a r.in_table in
    let p' = tree_kept t1 t2 f1 x b t.in_table in
    let both : f (tree t0 a) (tree t1 b) ≡ tree t2 n = sym (tree_at t2 f2 n z.inside v z.is ∙ e ∙ ap (λ (y : Regex ℕ). f y (tree t2 b)) p ∙ ap (f (tree t0 a)) p') in
    let on = r.on in
    let on' = t.on in
    record {
      reading = record { in_table = z.inside; on = omega arith; inside = t.inside; few = t.few; reads = subst (Reads ms u i j k l) both o; same = c ∙ t.same };
      ends = q.ends;
    }

pub gives_bar : {ms : List Mark} {d i h j k m l a b n : ℕ} {t0 t1 t2 : List Node} → Falling t0 → Falling t1 → Falling t2 → Grown t0 t1 → Grown t1 t2
    → Gives ms term d i k m t0 a h → At ms h Bar → Gives ms expression d (h + 1) m l t1 b j
    → Added t2 n (Either a b) → Gives ms expression d i k l t2 n j
gives_bar {a = a} {b} f0 f1 f2 w x g o q z =
    gives_both alt (Either a b) f0 f1 f2 w x g.reading (omega arith) q z refl (bar _ _ _ _ _ _ _ _ g.reading.reads o q.reading.reads) (fault_bar g.reading o)

pub gives_next : {ms : List Mark} {d i h j k m l a b n : ℕ} {t0 t1 t2 : List Node} → Falling t0 → Falling t1 → Falling t2 → Grown t0 t1 → Grown t1 t2
    → Gives ms factor d i k m t0 a h → At ms h Leaf ⊎ At ms h Open → Gives ms term d h m l t1 b j
    → Added t2 n (Then a b) → Gives ms term d i k l t2 n j
gives_next {a = a} {b} f0 f1 f2 w x g o q z =
    gives_both seq (Then a b) f0 f1 f2 w x g.reading (omega arith) q z refl (next _ _ _ _ _ _ _ _ g.reading.reads q.reading.reads) (fault_next g.reading o)

-- a factor and one more mark that repeats it, where f makes the expression of the longer one
longer : {ms : List Mark} {d i j k l a n : ℕ} {t0 t1 : List Node} (f : Regex ℕ → Regex ℕ) (v : Node) → Falling t0 → Falling t1 → Grown t0 t1
    → Reading ms factor d i k l t0 a j → Added t1 n v → node_tree (tree t1) v ≡ f (tree t1 a)
    → Reads ms factor i (j + 1) k l (f (tree t0 a)) → j < length ms → fault_at ms j (state d l false) ≡ fault_at ms (j + 1) (state d l false) → Reading ms factor d i k l t1 n (j + 1)
longer {ms} {d} {i} {j} {k} {l} {a} {n} {t0} {t1} f v f0 f1 g s w e r o z =
    let x : f (tree t0 a) ≡ tree t1 n = ap f (sym (tree_kept t0 t1 f0 g a s.in_table)) ∙ sym e ∙ sym (tree_at t1 f1 n w.inside v w.is) in
    let b = s.on in
    record { in_table = w.inside; on = omega arith; inside = omega arith; few = s.few; reads = subst (Reads ms factor i (j + 1) k l) x r; same = s.same ∙ z }

pub reading_repeat : {ms : List Mark} {d i j k l a n : ℕ} {t0 t1 : List Node} {m : Mark} {v : Node} → Falling t0 → Falling t1 → Grown t0 t1
    → Reading ms factor d i k l t0 a j → At ms j m → repeat_of m a ≡ Some v → Added t1 n v → Reading ms factor d i k l t1 n (j + 1)
reading_repeat {m = Leaf} f0 f1 g s o e w = none_such (cc)
reading_repeat {m = Open} f0 f1 g s o e w = none_such (cc)
reading_repeat {m = Close} f0 f1 g s o e w = none_such (cc)
reading_repeat {m = Bar} f0 f1 g s o e w = none_such (cc)
reading_repeat {ms} {d} {i} {j} {k} {l} {a} {n} {t0} {t1} {m = Star} {v} f0 f1 g s o e w =
    let x : v ≡ StarNode a = cc in
    longer star v f0 f1 g s w (ap (node_tree (tree t1)) x) (starred i j k l _ s.reads o) o.inside (fault_goes (state d l false) o refl refl)
reading_repeat {ms} {d} {i} {j} {k} {l} {a} {n} {t0} {t1} {m = Plus} {v} f0 f1 g s o e w =
    let x : v ≡ PlusNode a = cc in
    longer plus v f0 f1 g s w (ap (node_tree (tree t1)) x) (plussed i j k l _ s.reads o) o.inside (fault_goes (state d l false) o refl refl)
reading_repeat {ms} {d} {i} {j} {k} {l} {a} {n} {t0} {t1} {m = Maybe} {v} f0 f1 g s o e w =
    let x : v ≡ MaybeNode a = cc in
    longer opt v f0 f1 g s w (ap (node_tree (tree t1)) x) (optional i j k l _ s.reads o) o.inside (fault_goes (state d l false) o refl refl)
reading_repeat {m = Other} f0 f1 g s o e w = none_such (cc)

-- the mark that repeats, where the next one does
pub repeats : (o : Option Mark) (n : ℕ) (r : Option Node) (v : Node) → MatchOption o (r ≡ None) (λ m. r ≡ repeat_of m n) → r ≡ Some v → (m : Mark) × (o ≡ Some m) × (repeat_of m n ≡ Some v)
repeats None n r v a e = absurd (none-some v (sym a ∙ e))
repeats (Some m) n r v a e = (m, refl, sym a ∙ e)

pub gives_leaf : {ms : List Mark} {i k l n : ℕ} {ns : List Node} (d : ℕ) → Falling ns → At ms i Leaf → LeafAdded k l ns n → Gives ms atom d i k l ns n (i + 1)
gives_leaf {ms} {i} {k} {l} {n} {ns} d f o a =
    let e = a.counted in
    let b = o.inside in
    let c = a.few in
    record {
      reading = record {
        in_table = a.added.inside;
        on = omega arith;
        inside = omega arith;
        few = omega arith;
        reads = subst (λ (x : ℕ). Reads ms atom i (i + 1) k x (tree ns n)) (sym e) (subst (Reads ms atom i (i + 1) k (k + 1)) (sym (tree_at ns f n a.added.inside (LeafNode k) a.added.is)) (leaf i k o));
        same = fault_goes (state d k true) o refl (lt-ltb k 60 a.few) ∙ ap (λ (x : ℕ). fault_at ms (i + 1) (state d x false)) (sym e);
      };
      ends = λ _. level_atom (get_or ms (i + 1) Leaf);
    }

-- behind a bracket that opens
pub fault_open : {ms : List Mark} {i : ℕ} (d k : ℕ) → At ms i Open → d < 16 → fault_at ms i (state d k true) ≡ fault_at ms (i + 1) (state (d + 1) k true)
fault_open d k o h = fault_goes (state d k true) o refl (lt-ltb d 16 h)

pub gives_bracket : {ms : List Mark} {d i j k l n : ℕ} {ns : List Node} → At ms i Open → d < 16 → Gives ms expression (d + 1) (i + 1) k l ns n j → At ms j Close → Gives ms atom d i k l ns n (j + 1)
gives_bracket {ms} {d} {i} {j} {k} {l} {n} {ns} a h g c =
    let s = g.reading in
    let o = c.inside in
    let p = s.on in
    record {
      reading = record {
        in_table = s.in_table;
        on = omega arith;
        inside = omega arith;
        few = s.few;
        reads = bracket i j k l _ a s.reads c;
        same = fault_open d k a h ∙ s.same ∙ fault_goes (state (d + 1) l false) c (closes d l) refl ∙ ap (fault_at ms (j + 1)) (closed d l);
      };
      ends = λ _. level_atom (get_or ms (j + 1) Leaf);
    }

-- a refusal from further on
pub refuses_on : (ms : List Mark) (d i k e j m : ℕ) → fault_at ms i (state d k true) ≡ fault_at ms j (state e m true) → (f : ReadFault) → Refuses ms e j m f → Refuses ms d i k f
refuses_on ms d i k e j m x (MarkFault p) h = x ∙ h
refuses_on ms d i k e j m x Size h = (h.0, x ∙ h.1)
refuses_on ms d i k e j m x Memory h = tt

-- a leaf too many
pub refuses_leaf : {ms : List Mark} {i : ℕ} (d k : ℕ) → At ms i Leaf → (f : ReadFault) → NoLeaf k f → Refuses ms d i k f
refuses_leaf d k o (MarkFault p) h = absurd h
refuses_leaf {ms} {i} d k o Size h = (i, fault_large (state d k true) o refl (le-ltb k 60 h))
refuses_leaf d k o Memory h = tt

-- no mark that begins an atom
pub no_atom : (ms : List Mark) (d i k : ℕ) → (slice_get ms i ≡ Some Leaf → ⊥) → (slice_get ms i ≡ Some Open → ⊥) → fault_at ms i (state d k true) ≡ Some (wrong i)
no_atom ms d i k a b =
    ⊎_elim
    (λ h. fault_unfit (state d k true) (record { inside = h; is = refl }) (unfit_atom (get_or ms i Leaf) d k (λ e. a (seen refl h e)) (λ e. b (seen refl h e))))
    (λ h. fault_end ms i (state d k true) h refl)
    (cases_lt i (length ms))

-- a bracket too many
pub refuses_open : {ms : List Mark} {i : ℕ} (d k : ℕ) → At ms i Open → 16 ≤ d → Refuses ms d i k Size
refuses_open {ms} {i} d k o h = (i, fault_large (state d k true) o refl (le-ltb d 16 h))

-- no bracket that closes behind an expression in brackets
pub unclosed : {ms xs : List Mark} {d i j k l n : ℕ} {ns : List Node} → xs ≡ ms → At ms i Open → d < 16 → Gives ms expression (d + 1) (i + 1) k l ns n j → (slice_get xs j ≡ Some Close → ⊥) → fault_at ms i (state d k true) ≡ Some (wrong j)
unclosed {ms} {d = d} {i} {j} {k} {l} x o h g c =
    fault_open d k o h ∙ g.reading.same
    ∙ ⊎_elim
    (λ b. fault_unfit (state (d + 1) l false) (record { inside = b; is = refl }) (unfit_inside (get_or ms j Leaf) (d + 1) l (g.ends b) (λ e. c (seen x b e))))
    (λ b. fault_end ms j (state (d + 1) l false) b (ne_eqb (d + 1) 0 (λ e. omega arith)))
    (cases_lt j (length ms))

-- a mark behind an expression outside of brackets, and none
pub left_over : {ms xs : List Mark} {j l n : ℕ} {ns : List Node} → xs ≡ ms → Gives ms expression 0 0 0 l ns n j → j < length xs → fault_of ms ≡ Some (wrong j)
left_over {ms} {xs} {j} {l} e g b =
    let h : j < length ms = omega (arith, ap length e) in
    g.reading.same ∙ fault_unfit (state 0 l false) (record { inside = h; is = refl }) (unfit_outside (get_or ms j Leaf) l (g.ends h))

pub whole : {ms xs : List Mark} {j l n : ℕ} {ns : List Node} → xs ≡ ms → Gives ms expression 0 0 0 l ns n j → slice_get xs j ≡ None → Whole ms ns n
whole {ms} {xs} {j} {l} {n} {ns} x g s =
    let r = g.reading in
    let h = r.inside in
    let b : length ms ≤ j = ⊎_elim (λ i. absurd (none-some (get_or ms j Leaf) (sym s ∙ seen x i refl))) (λ i. i) (cases_lt j (length ms)) in
    let e : j ≡ length ms = omega arith in
    record {
      faultless = r.same ∙ fault_none ms j (state 0 l false) b refl;
      in_table = r.in_table;
      leaves = l;
      few = r.few;
      reads = subst (λ (x : ℕ). Reads ms expression 0 x 0 l (tree ns n)) e r.reads;
    }
