use Rattle.std.proofs.Common.{◌≡◌, ◌+◌, ◌<◌, ◌≤◌, true, false, length, refl, ◌∙◌, arith}
use Rattle.search.specs.Walks.{at, lexicon_of, support_of, wants_of, limits_of}
use Rattle.search.proofs.Resting.{child_pattern, moves_out, moves_on, moves_found, moves_closed, moves_down}
use Rattle.search.proofs.Passed.{turned_out, turned_rare, turned_found, turned_closed, turned_down}
use Rattle.search.proofs.Walking.{same_answer, same_none}
use Rattle.search.proofs.walk.Walk.advance.Goals as goal

-- all children were tried
pub returns-then-place-lexicon_length-clause-moved : goal.returns-then-place-lexicon_length-clause-moved
returns-then-place-lexicon_length-clause-moved g c =
    let walk = c.args.self.now in
    moves_out (limits_of walk c.args.need) (at walk) (at c.leave.new.self) c.args.place c.leave.result c.requires c.leave.ensures.moved

pub returns-then-place-lexicon_length-clause-turned : goal.returns-then-place-lexicon_length-clause-turned
returns-then-place-lexicon_length-clause-turned g c sound =
    let walk = c.args.self.now in
    let all : length (lexicon_of walk) ≤ c.args.place = omega arith in
    turned_out (limits_of walk c.args.need) (support_of g.K.Kind.order walk) (wants_of (g.F.Filter.wants c.args.filter.now) walk) (at walk) (at c.leave.new.self) c.args.place c.leave.result all c.leave.ensures.moved

-- the child has too little support
pub returns-in_default-clause-moved : goal.returns-in_default-clause-moved
returns-in_default-clause-moved g c =
    let walk = c.args.self.now in
    let place = c.args.place in
    let known : place < length (lexicon_of walk) = omega arith in
    moves_on (limits_of walk c.args.need) (at walk) (at c.deeper.new.self) place (place + 1) known c.requires c.in_default.ensures.moved refl

pub returns-in_default-clause-turned : goal.returns-in_default-clause-turned
returns-in_default-clause-turned g c sound =
    let walk = c.args.self.now in
    let e = c.in_default.ensures in
    turned_rare (limits_of walk c.args.need) (support_of g.K.Kind.order walk) (wants_of (g.F.Filter.wants c.args.filter.now) walk) (at walk) (at c.deeper.new.self) c.args.place e.moved (e.means sound)

-- the child is found
pub returns-then-wanted-clause-moved : goal.returns-then-wanted-clause-moved
returns-then-wanted-clause-moved g c =
    let walk = c.args.self.now in
    let place = c.args.place in
    let known : place < length (lexicon_of walk) = omega arith in
    moves_found (limits_of walk c.args.need) (at walk) (at c.deeper.new.self) place c.in-Some.count known c.requires c.in-Some.ensures.moved.0

pub returns-then-wanted-clause-turned : goal.returns-then-wanted-clause-turned
returns-then-wanted-clause-turned g c sound =
    let walk = c.args.self.now in
    let child = c.deeper.new.self in
    let place = c.args.place in
    let limits = limits_of walk c.args.need in
    let wants = g.F.Filter.wants c.args.filter.now in
    let e = c.in-Some.ensures in
    let known : place < length (lexicon_of walk) = omega arith in
    let wanted : wants_of wants walk (at child) ≡ true =
    same_answer walk child e.same wants c.list.result.now c.wanted.result c.list.ensures c.wanted.ensures ∙ c.if-wanted.true in
    turned_found limits (support_of g.K.Kind.order walk) (wants_of wants walk) (at walk) (at child) place c.in-Some.count e.moved.0 (child_pattern limits (at walk) (at child) place known c.requires e.moved.0) (e.means sound) e.moved.1 wanted

-- the child is not wanted, and what extends it may be
pub returns-then-not-is_closed-clause-moved : goal.returns-then-not-is_closed-clause-moved
returns-then-not-is_closed-clause-moved g c =
    let walk = c.args.self.now in
    let child = c.deeper.new.self in
    let place = c.args.place in
    let e = c.in-Some.ensures in
    let known : place < length (lexicon_of walk) = omega arith in
    let short : length (at child) < walk.longest = omega (arith, c.is_closed.ensures.short c.if-not-is_closed.true, e.same.longest) in
    moves_down (limits_of walk c.args.need) (at walk) (at child) place known c.requires e.moved.0 short

pub returns-then-not-is_closed-clause-turned : goal.returns-then-not-is_closed-clause-turned
returns-then-not-is_closed-clause-turned g c sound =
    let walk = c.args.self.now in
    let child = c.deeper.new.self in
    let wants = g.F.Filter.wants c.args.filter.now in
    let e = c.in-Some.ensures in
    let unwanted : wants_of wants walk (at child) ≡ false =
    same_answer walk child e.same wants c.list.result.now c.wanted.result c.list.ensures c.wanted.ensures ∙ c.if-wanted.false in
    turned_down (limits_of walk c.args.need) (support_of g.K.Kind.order walk) (wants_of wants walk) (at walk) (at child) c.args.place e.moved.0 unwanted

-- neither the child is wanted nor what extends it
pub returns-clause-moved : goal.returns-clause-moved
returns-clause-moved g c =
    let walk = c.args.self.now in
    let place = c.args.place in
    let known : place < length (lexicon_of walk) = omega arith in
    moves_closed (limits_of walk c.args.need) (at walk) (at c.deeper.new.self) (at c.leave-2.new.self) place c.leave-2.result known c.requires c.in-Some.ensures.moved.0 c.leave-2.ensures.moved

pub returns-clause-turned : goal.returns-clause-turned
returns-clause-turned g c sound =
    let walk = c.args.self.now in
    let child = c.deeper.new.self in
    let wants = g.F.Filter.wants c.args.filter.now in
    let e = c.in-Some.ensures in
    let unwanted : wants_of wants walk (at child) ≡ false =
    same_answer walk child e.same wants c.list.result.now c.wanted.result c.list.ensures c.wanted.ensures ∙ c.if-wanted.false in
    turned_closed (limits_of walk c.args.need) (support_of g.K.Kind.order walk) (wants_of wants walk) (at walk) (at child) (at c.leave-2.new.self) c.args.place c.leave-2.result e.moved.0 unwanted
    (same_none walk child e.same wants (at child) (c.is_closed.ensures.hopeless c.if-not-is_closed.false)) c.leave-2.ensures.moved
