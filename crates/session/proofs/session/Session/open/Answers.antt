use Rattle.std.proofs.Common.{List, refl, ap, Bor}
use Rattle.bundle.specs.declared.tape.Tapes.{Tapes}
use Rattle.law.specs.Openings.{opening_refusal}
use Rattle.law.specs.Transcripts as law
use Rattle.session.specs.Calls.{says_done}
use Rattle.session.specs.Sessions.{opening_of}
use Rattle.session.proofs.Refusing.{refused_by, passed_by}
use Rattle.session.proofs.Standing.{follows, exits_refused}
use Rattle.session.proofs.session.Session.open.Goals as goal

pub returns-in_err-check_opening-clause-extends : goal.returns-in_err-check_opening-clause-extends
returns-in_err-check_opening-clause-extends g c =
    let o = opening_of c.args.opening in
    let f = c.in_err-check_opening.field-0.0 in
    exits_refused g.K.Kind.order says_done c.args.self.now (law.Open o) f c.from_residual-in_err-check_opening.result refl c.from_residual-in_err-check_opening.ensures.1
    (λ h st. refused_by (opening_refusal g.K.Kind.order o) tt c.check_opening.result c.check_opening.ensures f c.in_err-check_opening.was)

pub returns-clause-extends : goal.returns-clause-extends
returns-clause-extends g c h st =
    let s = c.args.self.now in
    let o = opening_of c.args.opening in
    let e = passed_by (opening_refusal g.K.Kind.order o) tt _ c.check_opening.ensures _ c.in_ok-check_opening.was in
    let made = c.open.ensures.opened in
    follows g.K.Kind.order s _ h st (law.Opened o) e
    (record {
      under = (
        o,
        refl,
        record {
          events = ap (λ (t : Tapes _). t.events.now) made.tapes_are;
          offsets = ap (λ (t : Tapes _). t.offsets.now) made.tapes_are;
          lexicon = ap (λ (r : Bor (List _)). r.now) made.lexicon_is;
          longest = made.longest_is;
        },
      );
      stage = refl;
      latest = λ n. made.stands;
      skipped = λ n. refl;
      threshold = refl;
      count = refl;
    })
    c.open.ensures.sound
