use Rattle.grammar.proofs.Meanings.{grammar_holds}
use Rattle.grammar.proofs.read.grammar_stands.Goals as goal

pub returns : goal.returns
returns c = grammar_holds
