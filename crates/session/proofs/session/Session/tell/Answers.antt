use Rattle.std.proofs.Common.{refl, ◌∙◌}
use Rattle.law.specs.declared.stage.Ask.TheVariants as asks
use Rattle.law.specs.Rules.{stage_refusal}
use Rattle.law.specs.Transcripts as law
use Rattle.session.specs.Calls.{says_told}
use Rattle.session.proofs.Refusing.{passed_by}
use Rattle.session.proofs.Standing.{follows, unheard, by_stage}
use Rattle.session.proofs.session.Session.tell.Goals as goal

pub returns-in_err-hear-clause-extends : goal.returns-in_err-hear-clause-extends
returns-in_err-hear-clause-extends g c =
    unheard g.K.Kind.order says_told c.args.self.now law.Tell asks.Tell c.in_err-hear.field-0.0 c.hear.result c.from_residual.result (λ h. refl) refl c.hear.ensures c.in_err-hear.was c.from_residual.ensures.1

pub returns-clause-extends : goal.returns-clause-extends
returns-clause-extends g c h st =
    let s = c.args.self.now in
    let on = passed_by (stage_refusal s.stage asks.Tell) tt _ c.hear.ensures _ c.in_ok-hear.was in
    follows g.K.Kind.order s s h st (law.Besides (law.Told s.threshold s.count))
    (by_stage g.K.Kind.order s h st asks.Tell ∙ on, st.remembers.threshold, st.remembers.count)
    st.remembers
    st.sound
