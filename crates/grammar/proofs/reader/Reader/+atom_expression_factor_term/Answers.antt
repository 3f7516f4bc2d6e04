use Rattle.std.proofs.Common.{◌≡◌, ℕ, ◌+◌, ◌⊎◌, None, MatchOption, rules, sym, refl, ap, ◌∙◌, arith}
use Rattle.std.proofs.lemmas.Option.{MatchOption-at_some}
use Rattle.regular.specs.declared.node.Node.TheVariants.{Then, Either}
use Rattle.grammar.specs.declared.mark.Mark.{Mark}
use Rattle.grammar.specs.declared.mark.Mark.TheVariants.{Leaf, Open, Close, Bar}
use Rattle.grammar.specs.Grammar.{At, expression, term, atom}
use Rattle.grammar.specs.Readings.{repeat_of}
use Rattle.regular.proofs.Nodes.{grown_on}
use Rattle.grammar.proofs.Parts.{at_next, begins_atom, gives_in, refuses_in, reading_as_far, gives_as_far, repeats, refused, read_added, gives_lone_term, gives_lone_factor, gives_factor, reading_lone_atom, fault_bar, fault_next, fault_open, gives_bar, gives_next, reading_repeat, gives_leaf, gives_bracket, refuses_on, refuses_leaf, refuses_open, no_atom, unclosed}
use Rattle.grammar.proofs.reader.Reader.+atom_expression_factor_term.Goals as goal

pub atom-returns-in_err-node-in-Some-Leaf-clause-gives :
    goal.atom-returns-in_err-node-in-Some-Leaf-clause-gives
atom-returns-in_err-node-in-Some-Leaf-clause-gives t c =
    let self = c.args.self.now in
    let o : At self.marks.now self.at Leaf = at_next refl (grind arith) in
    refused atom c.args.depth self c.leaf.new.self _ _ c.from_residual.ensures.1 (refuses_leaf c.args.depth self.leaves o _ c.in_err-node-in-Some-Leaf.ensures.added)

pub atom-returns-then-depth-ge-MOST_OPEN-clause-gives :
    goal.atom-returns-then-depth-ge-MOST_OPEN-clause-gives
atom-returns-then-depth-ge-MOST_OPEN-clause-gives t c =
    let self = c.args.self.now in
    let o : At self.marks.now self.at Open = at_next refl (grind arith) in
    refuses_open c.args.depth self.leaves o c.if-depth-ge-MOST_OPEN.true

pub atom-returns-in_err-node-in-Some-Open-clause-gives :
    goal.atom-returns-in_err-node-in-Some-Open-clause-gives
atom-returns-in_err-node-in-Some-Open-clause-gives t c =
    let self = c.args.self.now in
    let d = c.args.depth in
    let o : At self.marks.now self.at Open = at_next refl (grind arith) in
    refused atom d self c.expression.new.self _ _ c.from_residual-in_err-node-in-Some-Open.ensures.1
    (refuses_on self.marks.now d self.at self.leaves (d + 1) (self.at + 1) self.leaves (fault_open d self.leaves o c.if-depth-ge-MOST_OPEN.false) _ c.in_err-node-in-Some-Open.ensures.gives)

pub atom-returns-in_default-next-clause-gives : goal.atom-returns-in_default-next-clause-gives
atom-returns-in_default-next-clause-gives t c =
    let self = c.args.self.now in
    let o : At self.marks.now self.at Open = at_next refl (grind arith) in
    let h = c.in_ok-node-in-Some-Open.ensures in
    unclosed h.onward.marks o c.if-depth-ge-MOST_OPEN.false h.gives (λ b. grind arith)

pub atom-returns-in_ok-node-in-Some-Leaf-clause-gives :
    goal.atom-returns-in_ok-node-in-Some-Leaf-clause-gives
atom-returns-in_ok-node-in-Some-Leaf-clause-gives t c =
    let self = c.args.self.now in
    let o : At self.marks.now self.at Leaf = at_next refl (grind arith) in
    let h = c.in_ok-node-in-Some-Leaf.ensures in
    gives_as_far _ _ refl (ap (λ (n : ℕ). n + 1) h.at) (gives_leaf c.args.depth c.leaf.new.self.table.falls o h.added)

pub atom-returns-in-Some-Close-clause-gives : goal.atom-returns-in-Some-Close-clause-gives
atom-returns-in-Some-Close-clause-gives t c =
    let self = c.args.self.now in
    let inner = c.expression.new.self in
    let o : At self.marks.now self.at Open = at_next refl (grind arith) in
    let h = c.in_ok-node-in-Some-Open.ensures in
    let b : At self.marks.now inner.at Close = at_next h.onward.marks (grind arith) in
    gives_bracket o c.if-depth-ge-MOST_OPEN.false h.gives b

pub atom-returns-in_default-clause-gives : goal.atom-returns-in_default-clause-gives
atom-returns-in_default-clause-gives t c =
    let self = c.args.self.now in
    no_atom self.marks.now c.args.depth self.at self.leaves (λ e. grind arith) (λ e. grind arith)

pub expression-returns-in_default : goal.expression-returns-in_default
expression-returns-in_default t c =
    let h = c.in_ok-left.ensures in
    record { onward = h.onward; gives = gives_lone_term h.onward.marks h.gives (λ b. grind arith) }

pub expression-returns-in_default-2-clause-gives :
    goal.expression-returns-in_default-2-clause-gives
expression-returns-in_default-2-clause-gives t c =
    let h = c.in_ok-left.ensures in
    gives_lone_term h.onward.marks h.gives (λ b. grind arith)

pub expression-returns-in_err-right-clause-gives :
    goal.expression-returns-in_err-right-clause-gives
expression-returns-in_err-right-clause-gives t c =
    let self = c.args.self.now in
    let d = c.args.depth in
    let left = c.term.new.self in
    let h = c.in_ok-left.ensures in
    let o : At self.marks.now left.at Bar = at_next h.onward.marks (grind arith) in
    refused expression d self c.expression.new.self _ _ c.from_residual-in_err-right.ensures.1
    (refuses_on self.marks.now d self.at self.leaves d (left.at + 1) left.leaves (fault_bar h.gives.reading o) _
    (refuses_in d (left.at + 1) left.leaves _ h.onward.marks c.in_err-right.ensures.gives))

pub expression-returns-clause-gives : goal.expression-returns-clause-gives
expression-returns-clause-gives t c =
    let self = c.args.self.now in
    let left = c.term.new.self in
    let right = c.expression.new.self in
    let new = c.add.new.self in
    let h = c.in_ok-left.ensures in
    let q = c.in_ok-right.ensures in
    let a = c.add.ensures in
    let o : At self.marks.now left.at Bar = at_next h.onward.marks (grind arith) in
    read_added expression c.args.depth self new (Either c.in_ok-left.left c.in_ok-right.right) c.add.result a.added
    (λ n w. gives_as_far _ _ a.leaves a.at (gives_bar left.table.falls right.table.falls new.table.falls q.onward.grown a.grown h.gives o (gives_in h.onward.marks q.gives) w))

pub term-returns-in_default : goal.term-returns-in_default
term-returns-in_default t c =
    let h = c.in_ok-left.ensures in
    record { onward = h.onward; gives = gives_lone_factor h.onward.marks h.gives (λ b. grind arith) (λ b. grind arith) }

pub term-returns-in_default-2-clause-gives : goal.term-returns-in_default-2-clause-gives
term-returns-in_default-2-clause-gives t c =
    let h = c.in_ok-left.ensures in
    gives_lone_factor h.onward.marks h.gives (λ b. grind arith) (λ b. grind arith)

pub term-returns-in_err-right-clause-gives : goal.term-returns-in_err-right-clause-gives
term-returns-in_err-right-clause-gives t c =
    let self = c.args.self.now in
    let d = c.args.depth in
    let left = c.factor.new.self in
    let h = c.in_ok-left.ensures in
    let m = c.in-Some-Leaf.field-0 in
    let k : (m ≡ Leaf) ⊎ (m ≡ Open) = grind arith in
    let o = begins_atom (at_next h.onward.marks (sym c.in-Some-Leaf.ensures.value)) k in
    refused term d self c.term.new.self _ _ c.from_residual-in_err-right.ensures.1
    (refuses_on self.marks.now d self.at self.leaves d left.at left.leaves (fault_next h.gives.reading o) _
    (refuses_in d left.at left.leaves _ h.onward.marks c.in_err-right.ensures.gives))

pub term-returns-clause-gives : goal.term-returns-clause-gives
term-returns-clause-gives t c =
    let self = c.args.self.now in
    let left = c.factor.new.self in
    let right = c.term.new.self in
    let new = c.add.new.self in
    let h = c.in_ok-left.ensures in
    let q = c.in_ok-right.ensures in
    let a = c.add.ensures in
    let m = c.in-Some-Leaf.field-0 in
    let k : (m ≡ Leaf) ⊎ (m ≡ Open) = grind arith in
    let o = begins_atom (at_next h.onward.marks (sym c.in-Some-Leaf.ensures.value)) k in
    read_added term c.args.depth self new (Then c.in_ok-left.left c.in_ok-right.right) c.add.result a.added
    (λ n w. gives_as_far _ _ a.leaves a.at (gives_next left.table.falls right.table.falls new.table.falls q.onward.grown a.grown h.gives o (gives_in h.onward.marks q.gives) w))

pub factor-loop-repeated-init : goal.factor-loop-repeated-init
factor-loop-repeated-init t c =
    let h = c.in_ok-node.ensures in
    record { onward = h.onward; reading = reading_lone_atom h.gives.reading }

pub factor-loop-repeated-preserved : goal.factor-loop-repeated-preserved
factor-loop-repeated-preserved t c =
    let self = c.args.self.now in
    let old = c.loop-repeated.self in
    let new = c.add.new.self in
    let v = c.loop-repeated.invariant in
    let a = c.in_ok-node-2.ensures in
    let r : MatchOption c.next.result (c.and_then.result ≡ None) (λ m. c.and_then.result ≡ repeat_of m c.loop-repeated.node) = search rules in
    let m = repeats c.next.result c.loop-repeated.node c.and_then.result c.in-Some.repeated r c.in-Some.is in
    let o : At self.marks.now old.at m.0 = at_next {m = m.0} v.onward.marks (sym c.next.ensures.value ∙ m.1) in
    record {
      onward = record { marks = a.marks ∙ v.onward.marks; grown = grown_on _ _ _ v.onward.grown a.grown };
      reading = reading_as_far new.leaves (new.at + 1) a.leaves (ap (λ (n : ℕ). n + 1) a.at) (reading_repeat old.table.falls new.table.falls a.grown v.reading o m.2 a.added);
    }

pub factor-returns-clause-gives : goal.factor-returns-clause-gives
factor-returns-clause-gives t c =
    let v = c.loop-repeated.invariant in
    let r : MatchOption c.next.result (c.and_then.result ≡ None) (λ m. c.and_then.result ≡ repeat_of m c.loop-repeated.node) = search rules in
    gives_factor v.onward.marks v.reading
    (λ m e. sym (MatchOption-at_some _ (λ (x : Mark). c.and_then.result ≡ repeat_of x c.loop-repeated.node) m (c.next.ensures.value ∙ e) r) ∙ c.in_default.is)
