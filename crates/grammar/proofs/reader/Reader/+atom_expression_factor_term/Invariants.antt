use Rattle.std.proofs.Common.{◌+◌, ◌-◌, ◌*◌, length, vec_items}
use Rattle.grammar.specs.Grammar.{factor}
use Rattle.grammar.specs.Readings.{Onward, Reading}
use Rattle.grammar.proofs.reader.Reader.+atom_expression_factor_term.Given as goal

abbrev pub decreases-expression : goal.decreases-expression
decreases-expression l = 4 * (length l.self.now.marks.now - l.self.now.at) + 3

abbrev pub decreases-term : goal.decreases-term
decreases-term l = 4 * (length l.self.now.marks.now - l.self.now.at) + 2

abbrev pub decreases-factor : goal.decreases-factor
decreases-factor l = 4 * (length l.self.now.marks.now - l.self.now.at) + 1

abbrev pub decreases-atom : goal.decreases-atom
decreases-atom l = 4 * (length l.self.now.marks.now - l.self.now.at)

-- the factor so far
abbrev pub invariant-factor-loop-repeated : goal.invariant-factor-loop-repeated
invariant-factor-loop-repeated l =
    record {
      onward : Onward l.fn.self l.self;
      reading : Reading l.fn.self.marks.now factor l.depth l.fn.self.at l.fn.self.leaves l.self.leaves (vec_items l.self.table.nodes) l.node l.self.at;
    }

abbrev pub decreases-factor-loop-repeated : goal.decreases-factor-loop-repeated
decreases-factor-loop-repeated l = length l.self.marks.now - l.self.at
