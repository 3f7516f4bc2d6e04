use Rattle.std.proofs.Common.{◌≡◌, [], ◌∷◌, ◌++◌, refl, ◌∙◌}
use Rattle.law.specs.declared.stage.Ask.TheVariants as asks
use Rattle.law.specs.Openings.{Opening, world}
use Rattle.law.specs.Rules.{stage_refusal, events_of}
use Rattle.law.specs.Transcripts as law
use Rattle.session.specs.Calls.{says_support}
use Rattle.session.proofs.Refusing.{passed_by}
use Rattle.session.proofs.Standing.{follows, unheard, by_stage, held, open_over, probe_open, probed_support, same_under, unmoved_same, unmoved_at}
use Rattle.session.proofs.session.Session.probe.Goals as goal

pub returns-in_err-hear-clause-extends : goal.returns-in_err-hear-clause-extends
returns-in_err-hear-clause-extends g c =
    unheard g.K.Kind.order says_support c.args.self.now (law.Probe c.args.event.now) asks.Probe c.in_err-hear.field-0.0 c.hear.result c.from_residual.result (λ h. refl) refl c.hear.ensures c.in_err-hear.was c.from_residual.ensures.1

pub returns-clause-extends : goal.returns-clause-extends
returns-clause-extends g c h st =
    let s = c.args.self.now in
    let e = c.args.event.now in
    let n = c.try_event.result in
    let moved = c.try_event.ensures.unmoved in
    let on = passed_by (stage_refusal s.stage asks.Probe) tt _ c.hear.ensures _ c.in_ok-hear.was in
    let o = open_over g.K.Kind.order s h st (probe_open s.stage on).0 in
    follows g.K.Kind.order s _ h st (law.Besides (law.Counted e n)) (
      by_stage g.K.Kind.order s h st asks.Probe ∙ on,
      held (law.opening h) (λ (x : Opening _). n ≡ (world g.K.Kind.order).support x (events_of (world g.K.Kind.order) x (law.latest h) ++ (e ∷ []))) o.0 o.1
          (c.try_event.ensures.means st.sound ∙ probed_support g.K.Kind.order s.walk o.0 o.2 (law.latest h) e (st.remembers.latest (probe_open s.stage on).1)),
    )
    (record {
      under = same_under s.walk _ s.stage (law.opening h) (unmoved_same s.walk _ moved) st.remembers.under;
      stage = st.remembers.stage;
      latest = λ m. unmoved_at s.walk _ moved ∙ st.remembers.latest m;
      skipped = st.remembers.skipped;
      threshold = st.remembers.threshold;
      count = st.remembers.count;
    })
    (c.try_event.ensures.sound st.sound)
