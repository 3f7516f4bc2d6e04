use Rattle.std.proofs.Common.{refl, arith}
use Rattle.grammar.specs.Grammar.{lone_term, lone_factor, lone_atom, next, starred, leaf}
use Rattle.regular.specs.Regex.{one, star}
use Rattle.worked.specs.Endings.{ending_tree}
use Rattle.worked.proofs.cases.worked_cases_stand.Goals as goal

pub returns : goal.returns
returns c =
    record {
      twice = refl;
      across = refl;
      never = refl;
      lexicon = refl;
      whole = refl;
      skipping = refl;
      raising = refl;
      high = refl;
      probing = refl;
      none = refl;
      stationed = refl;
      reported = refl;
      marks = refl;
      leaves = refl;
      reads =
          lone_term 0 3 0 2 ending_tree
          (next 0 2 3 0 1 2 (star (one 0)) (one 1)
          (starred 0 1 0 1 (one 0) (lone_atom 0 1 0 1 (one 0) (leaf 0 0 (record { inside = omega arith; is = refl }))) (record { inside = omega arith; is = refl }))
          (lone_factor 2 3 1 2 (one 1) (lone_atom 2 3 1 2 (one 1) (leaf 2 1 (record { inside = omega arith; is = refl })))));
      matching = refl;
    }
