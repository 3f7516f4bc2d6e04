use Rattle.std.proofs.Common.{length, get_or, sym, refl, ap, ◌∙◌, rules}
use Rattle.std.proofs.lemmas.List.FromFn.{fill_by_all}
use Rattle.bundle.specs.Offsets.{wrong_offset}
use Rattle.bundle.proofs.offsets.wrong_offset.Goals as goal

pub returns : goal.returns
returns c =
    let os = c.args.offsets.now in
    c.lowest_wrong.ensures.lowest (λ i. get_or os i 0) (λ i n h p. search rules) ∙ ap (wrong_offset c.args.events) (sym (fill_by_all (λ i. get_or os i 0) os (length os) 0 refl (λ k h. refl)))
