use Rattle.std.proofs.Common.{◌≤◌, length}
use Rattle.matching.specs.Picks.{picked}
use Rattle.matching.proofs.Gathering.{learn_answer, learn_after}
use Rattle.matching.proofs.Picking.{length_picked}
use Rattle.matching.proofs.learning.learn.Goals as goal

pub returns : goal.returns
returns g c =
    let events = c.args.events.now in
    let row = c.args.row.now in
    let picks = c.in-Some.picks in
    let lexicon = picked picks.events.now picks.places.now in
    let count = length picks.places.now in
    let few : length events ≤ 65535 = c.if-events-gt-MOST_EVENTS.false in
    let counted = length_picked picks.events.now picks.places.now picks.within in
    let found = c.in-Some.ensures in
    record {
      answer = learn_answer g.K.Kind.order events row lexicon count c.min.result few c.min.ensures found.0 counted found.1;
      after = learn_after g.K.Kind.order events row lexicon count c.min.result few c.min.ensures found.0 counted found.1 c.lay.new.row c.lay.ensures;
    }
