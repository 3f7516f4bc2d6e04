use Rattle.std.proofs.Common.{sym, ◌∙◌, arith, rules}
use Rattle.std.proofs.lemmas.Bool.Decides.{when_true, when_false}
use Rattle.std.proofs.lemmas.List.{at_drop_all}
use Rattle.event.specs.Numerals.{read_from}
use Rattle.event.specs.Reading.{read_on, read_stops}
use Rattle.event.proofs.decimal.read_digits.Goals as goal

pub returns-then-not-is_ascii_digit : goal.returns-then-not-is_ascii_digit
returns-then-not-is_ascii_digit c =
    let outside = when_false _ _ c.if-not-is_ascii_digit.true c.is_ascii_digit.ensures.cases in
    record {
      value = read_stops c.args.most c.loop-b.value c.args.bytes.now c.loop-b.b-index c.loop-b-test.true (λ lo hi ok. omega arith)
          ∙ c.loop-b.invariant.1;
      bound = search rules;
    }

pub returns-then-next-from : goal.returns-then-next-from
returns-then-next-from c =
    record {
      value = read_stops c.args.most c.loop-b.value c.args.bytes.now c.loop-b.b-index c.loop-b-test.true (λ lo hi ok. omega arith)
          ∙ c.loop-b.invariant.1;
      bound = search rules;
    }

pub loop-b-preserved : goal.loop-b-preserved
loop-b-preserved c =
    let within = when_true _ _ c.if-not-is_ascii_digit.false c.is_ascii_digit.ensures.cases in
    (omega arith, read_on c.args.most c.loop-b.value _ c.args.bytes.now c.loop-b.b-index c.loop-b-test.true (omega arith) (omega arith) (omega arith) (omega arith) ∙ c.loop-b.invariant.1)

pub returns : goal.returns
returns c =
    record { value = sym (at_drop_all (read_from c.args.most c.loop-b.value) c.args.bytes.now c.loop-b.b-index (omega arith)) ∙ c.loop-b.invariant.1; bound = search rules }
