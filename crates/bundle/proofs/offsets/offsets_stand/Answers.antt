use Rattle.bundle.proofs.Lawful.{lawful_from, lawful_stands}
use Rattle.bundle.proofs.offsets.offsets_stand.Goals as goal

pub returns : goal.returns
returns c = λ offsets events. (lawful_from offsets events, lawful_stands offsets events)
