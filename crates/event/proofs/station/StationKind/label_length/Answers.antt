use Rattle.std.proofs.Common.{[], ◌∷◌, decimal, rules}
use Rattle.std.proofs.lemmas.List.{length-append}
use Rattle.event.specs.Stations.{action_of, outcome_of, letter_of}
use Rattle.event.proofs.station.StationKind.label_length.Goals as goal

pub returns : goal.returns
returns c =
    let x = c.args.self.now in
    let l = length-append (decimal (action_of x)) (58 ∷ letter_of (outcome_of x) ∷ []) in
    search rules
