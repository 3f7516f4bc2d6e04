-- What a fault means, and what it means that there is none.
use Rattle.std.proofs.Common.{◌≡◌, ℕ, zero, suc, ◌+◌, ◌<◌, ◌≤◌, Bool, true, false, cond, ltb, ◌⊎◌, List, [], ◌∷◌, ◌++◌, length, get_or, take, Some, None, Option, sym, refl, ap, ◌∙◌, subst, inl, inr, ⊎_elim, arith}
use Rattle.std.proofs.lemmas.Bool.{and_parts, and_from, false≢true, both_ways, ltb-true, ltb-false, lt-ltb, cond-true, cases_Bool}
use Rattle.grammar.specs.declared.mark.Mark.{Mark}
use Rattle.grammar.specs.declared.mark.Mark.TheVariants.{Leaf, Open, Close, Bar, Star, Plus, Maybe, Other}
use Rattle.grammar.specs.Grammar.{IsExpression}
use Rattle.grammar.specs.Faults.{State, start, fits, behind, room, done, Step, step, Fault, wrong, large, fault_after, fault_from, fault_of}
use Rattle.grammar.specs.Stands.{count, Small, Begins, WrongAt, LargeAt, GrammarStands}
use Rattle.grammar.proofs.Steps.{none_such, step_goes, step_large, step_unfit}
use Rattle.grammar.proofs.Accepted.{accepts, accepts_expression, goes_on}
use Rattle.grammar.proofs.Built.{expression_accepted}
use Rattle.grammar.proofs.Numbers.{reads_numbered, reads_leaves}

-- the limits, for the marks behind a state
record Bounds (s : State) (ms : List Mark) : Type 0 where
  few : s.leaves + count Leaf ms ≤ 60
  shallow : (i : ℕ) → s.depth + count Open (take i ms) ≤ count Close (take i ms) + 16

-- a mark that fits counts in the state as it does among the marks
leaves_step : (s : State) (m : Mark) (ms : List Mark) → (behind s m).leaves + count Leaf ms ≡ s.leaves + count Leaf (m ∷ ms)
leaves_step s Leaf ms = omega arith
leaves_step s Open ms = omega arith
leaves_step s Close ms = omega arith
leaves_step s Bar ms = omega arith
leaves_step s Star ms = omega arith
leaves_step s Plus ms = omega arith
leaves_step s Maybe ms = omega arith
leaves_step s Other ms = omega arith

depth_step : (s : State) (m : Mark) (ms : List Mark) → fits s m ≡ true → (behind s m).depth + count Open ms + count Close (m ∷ ms) ≡ s.depth + count Open (m ∷ ms) + count Close ms
depth_step s Leaf ms f = omega arith
depth_step s Open ms f = omega arith
depth_step s Close ms f = let h = ltb-true 0 s.depth (and_parts _ (ltb 0 s.depth) f).1 in omega arith
depth_step s Bar ms f = omega arith
depth_step s Star ms f = omega arith
depth_step s Plus ms f = omega arith
depth_step s Maybe ms f = omega arith
depth_step s Other ms f = absurd (false≢true f)

bounds_none : (s : State) → s.leaves ≤ 60 → s.depth ≤ 16 → Bounds s []
bounds_none s f d = record { few = omega arith; shallow = at } where
  at : (i : ℕ) → s.depth + count Open (take i []) ≤ count Close (take i []) + 16
  at zero = omega arith
  at (suc i) = omega arith

bounds_more : (s : State) (m : Mark) (ms : List Mark) → s.depth ≤ 16 → fits s m ≡ true → Bounds (behind s m) ms → Bounds s (m ∷ ms)
bounds_more s m ms d f b = record { few = omega (arith, leaves_step s m ms, b.few); shallow = at } where
  at : (i : ℕ) → s.depth + count Open (take i (m ∷ ms)) ≤ count Close (take i (m ∷ ms)) + 16
  at zero = omega arith
  at (suc i) = omega (arith, depth_step s m (take i ms) f, b.shallow i)

bounds_less : (s : State) (m : Mark) (ms : List Mark) → fits s m ≡ true → Bounds s (m ∷ ms) → Bounds (behind s m) ms
bounds_less s m ms f b =
    record { few = omega (arith, leaves_step s m ms, b.few); shallow = λ i. omega (arith, depth_step s m (take i ms) f, b.shallow (suc i)) }

-- there is room for a mark exactly if the limits are kept behind it
room_leaves : (s : State) (m : Mark) → room s m ≡ true → s.leaves ≤ 60 → (behind s m).leaves ≤ 60
room_leaves s Leaf r h = omega (arith, ltb-true s.leaves 60 r)
room_leaves s Open r h = h
room_leaves s Close r h = h
room_leaves s Bar r h = h
room_leaves s Star r h = h
room_leaves s Plus r h = h
room_leaves s Maybe r h = h
room_leaves s Other r h = h

room_depth : (s : State) (m : Mark) → room s m ≡ true → s.depth ≤ 16 → (behind s m).depth ≤ 16
room_depth s Leaf r h = h
room_depth s Open r h = omega (arith, ltb-true s.depth 16 r)
room_depth s Close r h = omega arith
room_depth s Bar r h = h
room_depth s Star r h = h
room_depth s Plus r h = h
room_depth s Maybe r h = h
room_depth s Other r h = h

room_bounds : (s : State) (m : Mark) (ms : List Mark) → Bounds s (m ∷ ms) → room s m ≡ true
room_bounds s Leaf ms b = lt-ltb s.leaves 60 (omega (arith, b.few))
room_bounds s Open ms b = lt-ltb s.depth 16 (omega (arith, b.shallow 1))
room_bounds s Close ms b = refl
room_bounds s Bar ms b = refl
room_bounds s Star ms b = refl
room_bounds s Plus ms b = refl
room_bounds s Maybe ms b = refl
room_bounds s Other ms b = refl

-- what the step at the first mark tells of the fault
record First (s : State) (m : Mark) (f : State → Option Fault) (o : Option Fault) : Type 0 where
  fit : fits s m ≡ true
  roomy : room s m ≡ true
  rest : f (behind s m) ≡ o

first_goes : (s : State) (m : Mark) (i : ℕ) (f : State → Option Fault) (o : Option Fault) → fault_after (step s m) i f ≡ o → fits s m ≡ true → room s m ≡ true → First s m f o
first_goes s m i f o e x y =
    record { fit = x; roomy = y; rest = sym (ap (λ (w : Step). fault_after w i f) (step_goes s m x y)) ∙ e }

first_large : (s : State) (m : Mark) (i : ℕ) (f : State → Option Fault) (o : Option Fault) → fault_after (step s m) i f ≡ o → fits s m ≡ true → room s m ≡ false → o ≡ Some (large i)
first_large s m i f o e x y = sym e ∙ ap (λ (w : Step). fault_after w i f) (step_large s m x y)

first_unfit : (s : State) (m : Mark) (i : ℕ) (f : State → Option Fault) (o : Option Fault) → fault_after (step s m) i f ≡ o → fits s m ≡ false → o ≡ Some (wrong i)
first_unfit s m i f o e x = sym e ∙ ap (λ (w : Step). fault_after w i f) (step_unfit s m x)

-- the three ways of a first mark
first_ways : (s : State) (m : Mark) (i : ℕ) (f : State → Option Fault) (o : Option Fault) {X : Type 0} → fault_after (step s m) i f ≡ o
    → (First s m f o → X) → (fits s m ≡ true → room s m ≡ false → o ≡ Some (large i) → X) → (fits s m ≡ false → o ≡ Some (wrong i) → X) → X
first_ways s m i f o e g l w =
    ⊎_elim
    (λ x. ⊎_elim (λ y. g (first_goes s m i f o e x y)) (λ y. l x y (first_large s m i f o e x y)) (cases_Bool (room s m)))
    (λ x. w x (first_unfit s m i f o e x))
    (cases_Bool (fits s m))

-- the end
end_none : (b : Bool) (i : ℕ) → cond b None (Some (wrong i)) ≡ None → b ≡ true
end_none true i e = refl
end_none false i e = none_such (cc)

end_wrong : (b : Bool) (i n : ℕ) → cond b None (Some (wrong i)) ≡ Some (wrong n) → (b ≡ false) × (n ≡ i)
end_wrong true i n e = none_such (cc)
end_wrong false i n e = (refl, cc)

end_large : {X : Type 0} (b : Bool) (i n : ℕ) → cond b None (Some (wrong i)) ≡ Some (large n) → X
end_large true i n e = none_such (cc)
end_large false i n e = none_such (cc)

-- no fault
none_tells : (ms : List Mark) (i : ℕ) (s : State) → s.leaves ≤ 60 → s.depth ≤ 16 → fault_from ms i s ≡ None → (accepts ms s ≡ true) × Bounds s ms
none_tells [] i s l d e = (end_none (done s) i e, bounds_none s l d)
none_tells (m ∷ ms) i s l d e =
    first_ways s m i (fault_from ms (i + 1)) None e
    (λ g. let r = none_tells ms (i + 1) (behind s m) (room_leaves s m g.roomy l) (room_depth s m g.roomy d) g.rest in
    (and_from (fits s m) (accepts ms (behind s m)) g.fit r.0, bounds_more s m ms d g.fit r.1))
    (λ x y z. none_such (cc))
    (λ x z. none_such (cc))

none_told : (ms : List Mark) (i : ℕ) (s : State) → accepts ms s ≡ true → Bounds s ms → fault_from ms i s ≡ None
none_told [] i s a b = cond-true (done s) None (Some (wrong i)) a
none_told (m ∷ ms) i s a b =
    let p = and_parts (fits s m) (accepts ms (behind s m)) a in
    ap (λ (w : Step). fault_after w i (fault_from ms (i + 1))) (step_goes s m p.0 (room_bounds s m ms b))
    ∙ none_told ms (i + 1) (behind s m) p.1 (bounds_less s m ms p.0 b)

-- a mark that does not fit
record Wrong (ms : List Mark) (i : ℕ) (s : State) (n : ℕ) : Type 0 where
  place : ℕ
  number : n ≡ i + place
  inside : place ≤ length ms
  small : Bounds s (take place ms)
  before : (more : List Mark) × (accepts (take place ms ++ more) s ≡ true)
  after : place < length ms → (more : List Mark) → accepts (take (suc place) ms ++ more) s ≡ true → ⊥
  short : place ≡ length ms → accepts ms s ≡ true → ⊥

wrong_tells : (ms : List Mark) (i n : ℕ) (s : State) → s.leaves ≤ 60 → s.depth ≤ 16 → fault_from ms i s ≡ Some (wrong n) → Wrong ms i s n
wrong_tells [] i n s l d e =
    let p = end_wrong (done s) i n e in
    let q = p.1 in
    record { place = 0; number = omega arith; inside = omega arith; small = bounds_none s l d; before = goes_on s; after = λ h. absurd (omega arith); short = λ _ a. both_ways (done s) p.0 a }
wrong_tells (m ∷ ms) i n s l d e =
    first_ways s m i (fault_from ms (i + 1)) (Some (wrong n)) e
    (λ g. let r = wrong_tells ms (i + 1) n (behind s m) (room_leaves s m g.roomy l) (room_depth s m g.roomy d) g.rest in
    let q = r.number in
    let h = r.inside in
    record {
      place = suc r.place;
      number = omega arith;
      inside = omega arith;
      small = bounds_more s m (take r.place ms) d g.fit r.small;
      before = (r.before.0, and_from (fits s m) (accepts (take r.place ms ++ r.before.0) (behind s m)) g.fit r.before.1);
      after = λ h more a. r.after (omega arith) more (and_parts (fits s m) (accepts (take (suc r.place) ms ++ more) (behind s m)) a).1;
      short = λ h a. r.short (omega arith) (and_parts (fits s m) (accepts ms (behind s m)) a).1;
    })
    (λ x y z. none_such (cc))
    (λ x z. let q : n ≡ i = cc in
    record {
      place = 0;
      number = omega arith;
      inside = omega arith;
      small = bounds_none s l d;
      before = goes_on s;
      after = λ h more a. both_ways (fits s m) x (and_parts (fits s m) (accepts more (behind s m)) a).0;
      short = λ h a. absurd (omega arith);
    })

-- a mark that is too much
record Large (ms : List Mark) (i : ℕ) (s : State) (n : ℕ) : Type 0 where
  place : ℕ
  number : n ≡ i + place
  inside : place < length ms
  small : Bounds s (take place ms)
  begun : (more : List Mark) × (accepts (take (suc place) ms ++ more) s ≡ true)
  crosses : ((get_or ms place Leaf ≡ Leaf) × (s.leaves + count Leaf (take place ms) ≡ 60)) ⊎ ((get_or ms place Leaf ≡ Open) × (s.depth + count Open (take place ms) ≡ count Close (take place ms) + 16))

no_room : (s : State) (m : Mark) → s.leaves ≤ 60 → s.depth ≤ 16 → room s m ≡ false → ((m ≡ Leaf) × (s.leaves + 0 ≡ 60)) ⊎ ((m ≡ Open) × (s.depth + 0 ≡ 0 + 16))
no_room s Leaf l d r = inl (refl, omega (arith, ltb-false s.leaves 60 r))
no_room s Open l d r = inr (refl, omega (arith, ltb-false s.depth 16 r))
no_room s Close l d r = absurd (false≢true (sym r))
no_room s Bar l d r = absurd (false≢true (sym r))
no_room s Star l d r = absurd (false≢true (sym r))
no_room s Plus l d r = absurd (false≢true (sym r))
no_room s Maybe l d r = absurd (false≢true (sym r))
no_room s Other l d r = absurd (false≢true (sym r))

large_tells : (ms : List Mark) (i n : ℕ) (s : State) → s.leaves ≤ 60 → s.depth ≤ 16 → fault_from ms i s ≡ Some (large n) → Large ms i s n
large_tells [] i n s l d e = end_large (done s) i n e
large_tells (m ∷ ms) i n s l d e =
    first_ways s m i (fault_from ms (i + 1)) (Some (large n)) e
    (λ g. let r = large_tells ms (i + 1) n (behind s m) (room_leaves s m g.roomy l) (room_depth s m g.roomy d) g.rest in
    let q = r.number in
    let h = r.inside in
    record {
      place = suc r.place;
      number = omega arith;
      inside = omega arith;
      small = bounds_more s m (take r.place ms) d g.fit r.small;
      begun = (r.begun.0, and_from (fits s m) (accepts (take (suc r.place) ms ++ r.begun.0) (behind s m)) g.fit r.begun.1);
      crosses = ⊎_elim
          (λ c. inl (c.0, (let a = c.1 in omega (arith, leaves_step s m (take r.place ms)))))
          (λ c. inr (c.0, (let a = c.1 in omega (arith, depth_step s m (take r.place ms) g.fit))))
          r.crosses;
    })
    (λ x y z. let q : n ≡ i = cc in
    let w = goes_on (behind s m) in
    record {
      place = 0;
      number = omega arith;
      inside = omega arith;
      small = bounds_none s l d;
      begun = (w.0, and_from (fits s m) (accepts w.0 (behind s m)) x w.1);
      crosses = no_room s m l d y;
    })
    (λ x z. none_such (cc))

-- the same from the start
small_of : (ms : List Mark) → Bounds start ms → Small ms
small_of ms b = record { few = omega (arith, b.few); shallow = λ i. omega (arith, b.shallow i) }

bounds_of : (ms : List Mark) → Small ms → Bounds start ms
bounds_of ms b = record { few = omega (arith, b.few); shallow = λ i. omega (arith, b.shallow i) }

begins_of : (ms : List Mark) → (more : List Mark) × (accepts (ms ++ more) start ≡ true) → Begins ms
begins_of ms w = (w.0, expression_accepted (ms ++ w.0) w.1)

pub grammar_holds : GrammarStands
grammar_holds = record { faultless = whole; exact = told; wrongs = wrongs_mean; larges = larges_mean; numbered = λ ms s i j k l t r. reads_numbered r; counted = λ ms n t r. reads_leaves r } where
  whole : (ms : List Mark) → fault_of ms ≡ None → IsExpression ms × Small ms
  whole ms e =
      let r = none_tells ms 0 start (omega arith) (omega arith) e in
      (expression_accepted ms r.0, small_of ms r.1)

  told : (ms : List Mark) → IsExpression ms → Small ms → fault_of ms ≡ None
  told ms x b = none_told ms 0 start (accepts_expression ms x) (bounds_of ms b)

  wrongs_mean : (ms : List Mark) (i : ℕ) → fault_of ms ≡ Some (wrong i) → WrongAt ms i
  wrongs_mean ms i e =
      let r = wrong_tells ms 0 i start (omega arith) (omega arith) e in
      let z : r.place ≡ i = let q = r.number in omega arith in
      let y : suc r.place ≡ i + 1 = omega arith in
      record {
        inside = let h = r.inside in omega arith;
        small = subst (λ (x : ℕ). Small (take x ms)) z (small_of (take r.place ms) r.small);
        before = subst (λ (x : ℕ). Begins (take x ms)) z (begins_of (take r.place ms) r.before);
        behind = λ h g. r.after (omega arith) g.0 (accepts_expression (take (suc r.place) ms ++ g.0) (subst (λ (x : ℕ). IsExpression (take x ms ++ g.0)) (sym y) g.1));
        short = λ h x. r.short (omega arith) (accepts_expression ms x);
      }

  larges_mean : (ms : List Mark) (i : ℕ) → fault_of ms ≡ Some (large i) → LargeAt ms i
  larges_mean ms i e =
      let r = large_tells ms 0 i start (omega arith) (omega arith) e in
      let z : r.place ≡ i = let q = r.number in omega arith in
      let y : suc r.place ≡ i + 1 = omega arith in
      let h : i < length ms = let q = r.inside in omega arith in
      record {
        small = subst (λ (x : ℕ). Small (take x ms)) z (small_of (take r.place ms) r.small);
        begins = subst (λ (x : ℕ). Begins (take x ms)) y (begins_of (take (suc r.place) ms) r.begun);
        crosses = ⊎_elim
            (λ c. inl (record { inside = h; is = subst (λ (x : ℕ). get_or ms x Leaf ≡ Leaf) z c.0 }, subst (λ (x : ℕ). count Leaf (take x ms) ≡ 60) z (let a = c.1 in omega arith)))
            (λ c. inr (record { inside = h; is = subst (λ (x : ℕ). get_or ms x Leaf ≡ Open) z c.0 }, subst (λ (x : ℕ). count Open (take x ms) ≡ count Close (take x ms) + 16) z (let a = c.1 in omega arith)))
            r.crosses;
      }
