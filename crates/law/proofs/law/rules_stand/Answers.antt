use Rattle.law.proofs.Determined.{answers_are_determined}
use Rattle.law.proofs.Pairs.{exchanges_are_pairs}
use Rattle.law.proofs.States.{states_follow}
use Rattle.law.proofs.law.rules_stand.Goals as goal

pub returns : goal.returns
returns g c =
    record {
      determined = λ W. answers_are_determined W;
      followed = λ W. states_follow W;
      paired = exchanges_are_pairs _ _;
    }
