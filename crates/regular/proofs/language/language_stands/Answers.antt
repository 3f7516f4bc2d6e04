use Rattle.regular.proofs.Accepting.{decides_in}
use Rattle.regular.proofs.Runs.{automaton_takes, automaton_sticks}
use Rattle.regular.proofs.Numbers.{labels_taken, labels_stick}
use Rattle.regular.proofs.language.language_stands.Goals as goal

pub returns : goal.returns
returns g c =
    record {
      accepted = λ m r w. decides_in m r w;
      taken = automaton_takes;
      stuck = automaton_sticks;
      labels = labels_taken g.K.Kind.order;
      labels_stuck = labels_stick g.K.Kind.order g.met.K.Kind.alike_itself;
    }
