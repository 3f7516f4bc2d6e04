use Rattle.std.proofs.Common.{Bool, [], ◌∷◌, sym, refl, ap, ◌∙◌}
use Rattle.event.specs.declared.refusal.Refusal.TheVariants.{Threshold}
use Rattle.law.specs.declared.stage.Ask.TheVariants as asks
use Rattle.law.specs.Rules.{may_raise, stage_refusal}
use Rattle.law.specs.Transcripts as law
use Rattle.matching.specs.Checks.{unless}
use Rattle.session.specs.Calls.{says_done}
use Rattle.session.proofs.Refusing.{refused_by, passed_by, first_refuses, first_passes, last_decides}
use Rattle.session.proofs.Standing.{follows, refuses, exits_refused, raise_refused}
use Rattle.session.proofs.session.Session.raise.Goals as goal

pub returns-in_err-hear-clause-extends : goal.returns-in_err-hear-clause-extends
returns-in_err-hear-clause-extends g c =
    let s = c.args.self.now in
    let t = c.args.threshold in
    let f = c.in_err-hear.field-0.0 in
    let e = first_refuses (stage_refusal s.stage asks.Raise) (unless (may_raise s.threshold t) Threshold ∷ []) f (refused_by (stage_refusal s.stage asks.Raise) tt _ c.hear.ensures f c.in_err-hear.was) in
    exits_refused g.K.Kind.order says_done s (law.Raise t) f c.from_residual.result refl c.from_residual.ensures.1 (λ h st. raise_refused g.K.Kind.order s h st t ∙ e)

pub returns-then-not-may_raise-clause-extends : goal.returns-then-not-may_raise-clause-extends
returns-then-not-may_raise-clause-extends g c =
    let s = c.args.self.now in
    let t = c.args.threshold in
    let on = passed_by (stage_refusal s.stage asks.Raise) tt _ c.hear.ensures _ c.in_ok-hear.was in
    let e = first_passes (stage_refusal s.stage asks.Raise) (unless (may_raise s.threshold t) Threshold ∷ []) on ∙ last_decides (unless (may_raise s.threshold t) Threshold) ∙ ap (λ (b : Bool). unless b Threshold) (sym c.if-not-may_raise.ensures) in
    refuses g.K.Kind.order s (law.Raise t) Threshold (λ h st. raise_refused g.K.Kind.order s h st t ∙ e)

pub returns-clause-extends : goal.returns-clause-extends
returns-clause-extends g c h st =
    let s = c.args.self.now in
    let t = c.args.threshold in
    let on = passed_by (stage_refusal s.stage asks.Raise) tt _ c.hear.ensures _ c.in_ok-hear.was in
    let e = first_passes (stage_refusal s.stage asks.Raise) (unless (may_raise s.threshold t) Threshold ∷ []) on ∙ last_decides (unless (may_raise s.threshold t) Threshold) ∙ ap (λ (b : Bool). unless b Threshold) (sym c.if-not-may_raise.ensures) in
    follows g.K.Kind.order s _ h st (law.Raised t) (raise_refused g.K.Kind.order s h st t ∙ e)
    (record {
      under = st.remembers.under;
      stage = st.remembers.stage;
      latest = st.remembers.latest;
      skipped = st.remembers.skipped;
      threshold = refl;
      count = st.remembers.count;
    })
    st.sound
