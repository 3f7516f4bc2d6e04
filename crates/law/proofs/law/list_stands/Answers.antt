use Rattle.law.proofs.Whole.{list_is_whole, deserving_stands}
use Rattle.law.proofs.law.list_stands.Goals as goal

pub returns : goal.returns
returns g c = record { whole = λ W. list_is_whole W; deserving = λ W. deserving_stands W }
