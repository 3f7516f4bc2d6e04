use Rattle.std.proofs.Common.{◌≡◌, ℕ, false, leb, List, [], ◌∷◌, ◌++◌, length, drop, Result, sym, refl, ap, ◌∙◌, subst, inl, inr, arith}
use Rattle.event.specs.declared.refusal.Refusal.{Refusal}
use Rattle.event.specs.declared.refusal.Refusal.TheVariants.{Room}
use Rattle.law.specs.declared.stage.Stage.TheVariants as stages
use Rattle.law.specs.Openings.{Opening, world}
use Rattle.law.specs.Order.{IsFirst}
use Rattle.law.specs.Rules.{closed, support_of, Eligible}
use Rattle.law.specs.Transcripts as law
use Rattle.matching.specs.Checks.{unless}
use Rattle.session.specs.Calls.{says_next}
use Rattle.session.specs.Sessions.{Follows}
use Rattle.session.specs.declared.session.Session.{Session}
use Rattle.search.specs.Walks as walks
use Rattle.search.specs.Walks.{at, limits_of}
use Rattle.session.proofs.Bridge.{gives, ends}
use Rattle.session.proofs.Refusing.{refused_by, passed_by, first_refuses}
use Rattle.session.proofs.Standing.{follows, refuses, exits_refused, held, next_refused, open_over, room_on, room_off, same_over, same_support, same_wants, front_of}
use Rattle.session.proofs.session.Session.next.Goals as goal

pub returns-in_err-hear-clause-extends : goal.returns-in_err-hear-clause-extends
returns-in_err-hear-clause-extends g c =
    let s = c.args.self.now in
    let w = g.F.Filter.wants c.args.filter.now in
    let row = c.args.row.now in
    let m = length row in
    let f = c.in_err-hear.field-0.0 in
    let e = first_refuses (closed s.stage) (unless (leb s.walk.longest m) Room ∷ []) f (refused_by (closed s.stage) tt _ c.hear.ensures f c.in_err-hear.was) in
    exits_refused g.K.Kind.order (λ (r : Result _ Refusal). says_next r row) s (law.Next w m) f c.from_residual.result refl c.from_residual.ensures.1 (λ h st. next_refused g.K.Kind.order s h st w m ∙ e)

pub returns-then-row-longest-clause-extends : goal.returns-then-row-longest-clause-extends
returns-then-row-longest-clause-extends g c =
    let s = c.args.self.now in
    let w = g.F.Filter.wants c.args.filter.now in
    let m = length c.args.row.now in
    let on = passed_by (closed s.stage) tt _ c.hear.ensures _ c.in_ok-hear.was in
    let e = room_off s m on (omega (arith, c.longest.ensures, c.if-row-longest.true)) in
    refuses g.K.Kind.order s (law.Next w m) Room (λ h st. next_refused g.K.Kind.order s h st w m ∙ e)

pub returns-in-Ended-clause-extends : goal.returns-in-Ended-clause-extends
returns-in-Ended-clause-extends g c h st =
    let s = c.args.self.now in
    let w = g.F.Filter.wants c.args.filter.now in
    let m = length c.args.row.now in
    let on = passed_by (closed s.stage) tt _ c.hear.ensures _ c.in_ok-hear.was in
    let e = room_on s m on (omega (arith, c.longest.ensures, c.if-row-longest.false)) in
    follows g.K.Kind.order s s h st (law.Ended w m)
    (next_refused g.K.Kind.order s h st w m ∙ e, inl (sym st.remembers.stage ∙ c.in-Ended.is))
    (record {
      under = st.remembers.under;
      stage = c.in-Ended.is;
      latest = st.remembers.latest;
      skipped = st.remembers.skipped;
      threshold = st.remembers.threshold;
      count = st.remembers.count;
    })
    st.sound

pub returns-in_default-next_pattern : goal.returns-in_default-next_pattern
returns-in_default-next_pattern g c =
    let order = g.K.Kind.order in
    let s = c.args.self.now in
    let walk = c.next_pattern.new.self in
    let w = g.F.Filter.wants c.args.filter.now in
    let m = length c.args.row.now in
    let on = passed_by (closed s.stage) tt _ c.hear.ensures _ c.in_ok-hear.was in
    let e = room_on s m on (omega (arith, c.longest.ensures, c.if-row-longest.false)) in
    let going = c.in_default.not-Ended in
    let same = c.in_default-next_pattern.ensures.same in
    let finds = c.in_default-next_pattern.ensures.finds in
    let sounds = c.in_default-next_pattern.ensures.sound in
    record {
      refused = sym e;
      after = (record { rows = same; stage = refl; threshold = refl; skipped = refl; count = refl }, λ n. absurd (going n));
      row_after = refl;
      means = λ sound. (sounds sound, λ n. finds sound);
      extends = λ h st.
          let o = open_over order s h st on in
          follows order s _ h st (law.Ended w m) (
            next_refused order s h st w m ∙ e,
            inr (held (law.opening h) (λ (x : Opening _). (q : List ℕ) → Eligible (world order) x h w q → ⊥) o.0 o.1
                (ends (world order) o.0 h w (limits_of s.walk s.threshold) (walks.support_of order s.walk) (walks.wants_of w s.walk) (at s.walk) s.skipped
                o.2.longest (ap length o.2.lexicon) (same_support order s.walk o.0 o.2) (same_wants order w s.walk o.0 o.2)
                st.remembers.threshold (st.remembers.latest going) (st.remembers.skipped going) (at walk) (finds st.sound))),
          )
          (record {
            under = (o.0, o.1, same_over s.walk walk o.0 same o.2);
            stage = refl;
            latest = λ n. absurd (n refl);
            skipped = λ n. absurd (n refl);
            threshold = st.remembers.threshold;
            count = st.remembers.count;
          })
          (sounds st.sound);
    }

pub returns : goal.returns
returns g c =
    let order = g.K.Kind.order in
    let s = c.args.self.now in
    let walk = c.next_pattern.new.self in
    let w = g.F.Filter.wants c.args.filter.now in
    let row = c.args.row.now in
    let m = length row in
    let n = c.in-Some.support in
    let on = passed_by (closed s.stage) tt _ c.hear.ensures _ c.in_ok-hear.was in
    let e = room_on s m on (omega (arith, c.longest.ensures, c.if-row-longest.false)) in
    let going = c.in_default.not-Ended in
    let same = c.in-Some.ensures.same in
    let finds = c.in-Some.ensures.finds in
    let sounds = c.in-Some.ensures.sound in
    let list = c.places-places.ensures.list in
    let laid : c.copy_from_slice.new.self ++ drop (length c.places-places.result.now) row ≡ at walk ++ drop (length (at walk)) row =
    ap (λ (l : List ℕ). l ++ drop (length c.places-places.result.now) row) c.copy_from_slice.ensures.after ∙ ap (λ (p : List ℕ). p ++ drop (length p) row) list in
    let count : length c.places-places.result.now ≡ length (at walk) = ap length list in
    let t : Session _ = record { walk = walk; stage = stages.Listing; threshold = s.threshold; skipped = false; count = c.saturating_add-self.result } in
    record {
      refused = sym e;
      after = (record { rows = same; stage = refl; threshold = refl; skipped = refl; count = omega (arith, c.saturating_add-self.ensures) }, count);
      row_after = laid;
      means = λ sound. (sounds sound, λ n. finds sound);
      extends = λ h st.
          let o = open_over order s h st on in
          subst (λ (p : List ℕ). Follows order (law.Next w m) (law.pattern p n) t h) (sym (front_of (at walk) row _ _ count laid))
          (follows order s t h st (law.Gave w m (at walk) n) (
            next_refused order s h st w m ∙ e,
            (λ x. going (st.remembers.stage ∙ x)),
            held (law.opening h) (λ (x : Opening _). IsFirst (Eligible (world order) x h w) (at walk) × (n ≡ support_of (world order) x (at walk))) o.0 o.1
                (gives (world order) o.0 h w (limits_of s.walk s.threshold) (walks.support_of order s.walk) (walks.wants_of w s.walk) (at s.walk) s.skipped
                o.2.longest (ap length o.2.lexicon) (same_support order s.walk o.0 o.2) (same_wants order w s.walk o.0 o.2)
                st.remembers.threshold (st.remembers.latest going) (st.remembers.skipped going) (at walk) n (finds st.sound)),
          )
          (record {
            under = (o.0, o.1, same_over s.walk walk o.0 same o.2);
            stage = refl;
            latest = λ x. refl;
            skipped = λ x. refl;
            threshold = st.remembers.threshold;
            count = omega (arith, c.saturating_add-self.ensures, st.remembers.count);
          })
          (sounds st.sound));
    }
