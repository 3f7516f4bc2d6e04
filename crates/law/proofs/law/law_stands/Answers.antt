use Rattle.law.proofs.Filters.{one_filter}
use Rattle.law.proofs.Lawful.{every_run_is_lawful}
use Rattle.law.proofs.Only.{only_the_rules_are_lawful}
use Rattle.law.proofs.law.law_stands.Goals as goal

pub returns : goal.returns
returns g c =
    record { lawful = λ W. every_run_is_lawful W; only = λ W. only_the_rules_are_lawful W; one_filter = λ W. one_filter W }
