use Rattle.std.proofs.Common.{◌≡◌, ℕ, ◌+◌, Some, sym, ap, ◌∙◌, arith}
use Rattle.matching.specs.Inclusion.{place_after}
use Rattle.matching.proofs.Searching.{search_on, search_here, search_all}
use Rattle.matching.proofs.inclusion.place_after.Goals as goal

pub returns-in-Alike : goal.returns-in-Alike
returns-in-Alike g c =
    record {
      value = search_here g.K.Kind.order c.args.tape.now c.loop-i.i c.args.event.now c.index-tape-i.result (omega arith) c.index-tape-i.is (sym c.in-Alike.ensures) ∙ c.loop-i.invariant.1;
      bound = (omega arith, omega arith);
    }

pub returns-in-Alike-compare : goal.returns-in-Alike-compare
returns-in-Alike-compare g c =
    let two : c.loop-i.i + 2 ≡ c.loop-i.i + 1 + 1 = omega arith in
    record {
      value =
          ap (λ (n : ℕ). Some n) two
          ∙ search_here g.K.Kind.order c.args.tape.now (c.loop-i.i + 1) c.args.event.now c.index-tape-i-in-loop-i.result (omega arith) c.index-tape-i-in-loop-i.is (sym c.in-Alike-compare.ensures)
          ∙ search_on g.K.Kind.order c.args.tape.now c.loop-i.i c.args.event.now c.index-tape-i.result (omega arith) c.index-tape-i.is (λ same. c.in_default.not-Alike (c.compare.ensures ∙ same))
          ∙ c.loop-i.invariant.1;
      bound = (omega arith, omega arith);
    }

pub loop-i-preserved : goal.loop-i-preserved
loop-i-preserved g c =
    let two : c.loop-i.i + 2 ≡ c.loop-i.i + 1 + 1 = omega arith in (
      omega arith,
      ap (λ (n : ℕ). place_after g.K.Kind.order c.args.tape.now n c.args.event.now) two
          ∙ search_on g.K.Kind.order c.args.tape.now (c.loop-i.i + 1) c.args.event.now c.index-tape-i-in-loop-i.result (omega arith) c.index-tape-i-in-loop-i.is (λ same. c.in_default-compare.not-Alike (c.compare-in-loop-i.ensures ∙ same))
          ∙ search_on g.K.Kind.order c.args.tape.now c.loop-i.i c.args.event.now c.index-tape-i.result (omega arith) c.index-tape-i.is (λ same. c.in_default.not-Alike (c.compare.ensures ∙ same))
          ∙ c.loop-i.invariant.1,
    )

pub returns-in-Alike-compare-2 : goal.returns-in-Alike-compare-2
returns-in-Alike-compare-2 g c =
    record {
      value = search_here g.K.Kind.order c.args.tape.now c.loop-i.i c.args.event.now c.index-tape-i-then-i-tape.result c.if-i-tape.true c.index-tape-i-then-i-tape.is (sym c.in-Alike-compare-2.ensures) ∙ c.loop-i.invariant.1;
      bound = (omega arith, omega arith);
    }

pub returns-in_default-compare-2 : goal.returns-in_default-compare-2
returns-in_default-compare-2 g c =
    record {
      value =
          search_all g.K.Kind.order c.args.tape.now (c.loop-i.i + 1) c.args.event.now (omega arith)
          ∙ search_on g.K.Kind.order c.args.tape.now c.loop-i.i c.args.event.now c.index-tape-i-then-i-tape.result c.if-i-tape.true c.index-tape-i-then-i-tape.is (λ same. c.in_default-compare-2.not-Alike (c.compare-then-i-tape.ensures ∙ same))
          ∙ c.loop-i.invariant.1;
      bound = tt;
    }

pub returns-else-i-tape : goal.returns-else-i-tape
returns-else-i-tape g c =
    record {
      value = search_all g.K.Kind.order c.args.tape.now c.loop-i.i c.args.event.now (omega arith) ∙ c.loop-i.invariant.1;
      bound = tt;
    }
