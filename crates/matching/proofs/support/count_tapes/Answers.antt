use Rattle.std.proofs.Common.{[], get_or, rules, ◌∙◌, arith}
use borrow.Author.Tests.{tests}
use Rattle.std.proofs.lemmas.Iterator.{YieldsList-from_range}
use Rattle.std.proofs.lemmas.Iterator.Consumers.{count_from_yields_List, YieldsList-from_filter}
use Rattle.bundle.specs.Tapes.{all_tapes}
use Rattle.bundle.proofs.Cuts.{length_tapes}
use Rattle.matching.specs.Inclusion.{includes}
use Rattle.matching.proofs.Counting.{support_counted}
use Rattle.matching.proofs.support.count_tapes.Goals as goal

pub returns : goal.returns
returns g c =
    let all = all_tapes c.args.tapes.now in
    let pattern = c.args.pattern.now in
    let n = length_tapes c.args.tapes.now.events.now c.args.tapes.now.offsets.now in
    count_from_yields_List c.filter.result c.count-2.result c.count-2.ensures.ran (YieldsList-from_filter _ (λ number. includes g.K.Kind.order (get_or all number []) pattern) (YieldsList-from_range 0 c.count.result c.count.result c.filter.ensures.source (omega arith)) c.filter.ensures.closure (λ x b q k. search (rules, tests)))
    ∙ support_counted g.K.Kind.order all pattern c.count.result (omega arith)
