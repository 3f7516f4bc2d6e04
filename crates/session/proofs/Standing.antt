-- How a session that stands for a transcript goes on.
use Rattle.std.proofs.Common.{◌≡◌, ℕ, ◌<◌, ◌≤◌, Bool, leb, List, [], ◌∷◌, ◌++◌, length, take, drop, IsErrAnd, Some, None, Err, Option, Result, sym, refl, ap, ◌∙◌, subst, arith}
use Rattle.std.proofs.lemmas.Bool.{le-leb, lt-leb}
use Rattle.std.proofs.lemmas.List.{length-append, take-append-le, take_at}
use Rattle.event.specs.declared.order.Order.{Order}
use Rattle.event.specs.declared.refusal.Refusal.{Refusal}
use Rattle.event.specs.declared.refusal.Refusal.TheVariants.{Threshold, Room}
use Rattle.bundle.specs.declared.tape.Tapes.{Tapes}
use Rattle.bundle.specs.Tapes.{tapes}
use Rattle.matching.specs.Checks.{or_refused, unless, first_wrong}
use Rattle.matching.specs.Picks.{picked}
use Rattle.matching.specs.Support.{support}
use Rattle.trail.specs.Sound.{tapes_of}
use Rattle.law.specs.declared.stage.Stage.{Stage}
use Rattle.law.specs.declared.stage.Stage.TheVariants as stages
use Rattle.law.specs.declared.stage.Ask.{Ask}
use Rattle.law.specs.declared.stage.Ask.TheVariants as asks
use Rattle.law.specs.Openings as law
use Rattle.law.specs.Openings.{world}
use Rattle.law.specs.Rules.{World, Rule, Answered, Held, closed, stage_refusal, may_raise, refused, standing, longest_of, support_of, events_of}
use Rattle.law.specs.States.{State, state_of, after}
use Rattle.law.specs.Transcripts.{Call, Next, Raise, Answer, refusing, Exchange, Besides, Refused, call_of, answer_of, stage, opening}
use Rattle.law.proofs.States.{states_follow}
use Rattle.search.specs.Walks as walks
use Rattle.search.specs.Walks.{at, lexicon_of, Sound, SameRows, Unmoved}
use Rattle.search.specs.declared.walk.Walk.{Walk}
use Rattle.session.specs.declared.session.Session.{Session}
use Rattle.session.specs.Sessions.{Over, Under, Remembers, Stands, Follows, Extends}
use Rattle.session.specs.Calls.{next_refusal, raise_refusal}
use Rattle.session.proofs.Refusing.{exits, refused_by, some_none, first_passes, last_decides}

-- what holds of the opening that there is
pub held : {A : Type 0} (x : Option A) (P : A → Type 0) (a : A) → x ≡ Some a → P a → Held x P
held x P a e p = subst (λ (y : Option _). Held y P) (sym e) p

-- a call that some stage allows finds the session opened
pub skip_open : (g : Stage) → stage_refusal g asks.Skip ≡ None → g ≡ stages.Listing
skip_open stages.Made e = absurd (some_none _ e)
skip_open stages.Opened e = absurd (some_none _ e)
skip_open stages.Listing e = refl
skip_open stages.Ended e = absurd (some_none _ e)

pub probe_open : (g : Stage) → stage_refusal g asks.Probe ≡ None → (closed g ≡ None) × (g ≡ stages.Ended → ⊥)
probe_open stages.Made e = absurd (some_none _ e)
probe_open stages.Opened e = (refl, λ f. some_none _ (ap (λ (g : Stage). stage_refusal g asks.Probe) (sym f)))
probe_open stages.Listing e = (refl, λ f. some_none _ (ap (λ (g : Stage). stage_refusal g asks.Probe) (sym f)))
probe_open stages.Ended e = absurd (some_none _ e)

module _ {K : Type 0} (s : Session K) (m : ℕ) (on : closed s.stage ≡ None) where
  -- an opened session has room for a next, or not
  by_room : next_refusal s m ≡ unless (leb s.walk.longest m) Room
  by_room = first_passes (closed s.stage) (unless (leb s.walk.longest m) Room ∷ []) on ∙ last_decides (unless (leb s.walk.longest m) Room)

  pub room_on : s.walk.longest ≤ m → next_refusal s m ≡ None
  room_on l = by_room ∙ ap (λ (b : Bool). unless b Room) (le-leb s.walk.longest m l)

  pub room_off : m < s.walk.longest → next_refusal s m ≡ Some Room
  room_off l = by_room ∙ ap (λ (b : Bool). unless b Room) (lt-leb s.walk.longest m l)

module _ {K : Type 0} where
  -- a walk goes over the same opening after a move
  pub same_over : (before after : Walk K) (o : law.Opening K) → SameRows before after → Over before o → Over after o
  same_over before after o same over =
      record {
        events = ap (λ (t : Tapes K). t.events.now) same.tapes ∙ over.events;
        offsets = ap (λ (t : Tapes K). t.offsets.now) same.tapes ∙ over.offsets;
        lexicon = ap (λ x. x.now) same.lexicon ∙ over.lexicon;
        longest = same.longest ∙ over.longest;
      }

  pub same_under : (before after : Walk K) (g : Stage) (o : Option (law.Opening K)) → SameRows before after → Under before g o → Under after g o
  same_under before after stages.Made o same u = u
  same_under before after stages.Opened o same u = (u.0, u.1, same_over before after u.0 same u.2)
  same_under before after stages.Listing o same u = (u.0, u.1, same_over before after u.0 same u.2)
  same_under before after stages.Ended o same u = (u.0, u.1, same_over before after u.0 same u.2)

  pub unmoved_same : (before after : Walk K) → Unmoved before after → SameRows before after
  unmoved_same before after u =
      record { tapes = u.same.tapes; lexicon = u.same.lexicon; longest = u.longest }

  pub unmoved_at : (before after : Walk K) → Unmoved before after → at after ≡ at before
  unmoved_at before after u = ap (λ (n : ℕ). take n after.trail.list) u.trail.depth ∙ ap (take before.trail.depth) u.trail.list

  -- the session is opened at every stage but made
  pub under_open : (walk : Walk K) (g : Stage) (o : Option (law.Opening K)) → closed g ≡ None → Under walk g o → (x : law.Opening K) × (o ≡ Some x) × Over walk x
  under_open walk stages.Made o e u = absurd (some_none _ e)
  under_open walk stages.Opened o e u = u
  under_open walk stages.Listing o e u = u
  under_open walk stages.Ended o e u = u

module _ {K : Type 0} (order : K → K → Order) where
  abbrev W : World (law.Opening K) K
  W = world order

  -- a session that remembers the next state stands for the transcript with the exchange
  pub follows :
      (s t : Session K) (h : List (Exchange (law.Opening K) K)) →
      Stands order s h →
      (x : Exchange (law.Opening K) K) →
      Rule W h x →
      Remembers t (after W (state_of W h) x) →
      Sound order t.walk →
      Follows order (call_of x) (answer_of x) t h
  follows s t h st x rule remembers sound =
      let told : Answered W (x ∷ h) = (rule, st.answered) in
      record {
        said = x;
        asks = refl;
        gets = refl;
        stands =
            record {
              answered = told;
              remembers = subst (λ (g : State (law.Opening K)). Remembers t g) (sym (states_follow W h x told)) remembers;
              sound = sound;
            };
      }

  -- a refused call changes nothing
  pub refuses :
      (s : Session K) (c : Call (law.Opening K) K) (f : Refusal) →
      ((h : List (Exchange (law.Opening K) K)) → Stands order s h → refused W h c ≡ Some f) →
      Extends order c (refusing f) s s
  refuses s c f e h st = follows s s h st (Besides (Refused c f)) (e h st) st.remembers st.sound

  -- so it is where a `?` ends the call
  pub exits_refused :
      {X : Type 0} (says : Result X Refusal → Answer) (s : Session K) (c : Call (law.Opening K) K) (f : Refusal) (r : Result X Refusal) →
      says (Err f) ≡ refusing f →
      IsErrAnd r (λ y. y ≡ f) →
      ((h : List (Exchange (law.Opening K) K)) → Stands order s h → refused W h c ≡ Some f) →
      Extends order c (says r) s s
  exits_refused says s c f r is out e =
      subst (λ (a : Answer). Extends order c a s s) (sym (ap says (exits r f out) ∙ is)) (refuses s c f e)

  module _ (s : Session K) (h : List (Exchange (law.Opening K) K)) (st : Stands order s h) where
    pub by_stage : (ask : Ask) → stage_refusal (stage h) ask ≡ stage_refusal s.stage ask
    by_stage ask = ap (λ (g : Stage). stage_refusal g ask) (sym st.remembers.stage)

    pub raise_refused : (t : ℕ) → refused W h (Raise t) ≡ raise_refusal s t
    raise_refused t =
        ap (λ (o : Option Refusal). first_wrong (o ∷ unless (may_raise (standing W h) t) Threshold ∷ [])) (by_stage asks.Raise)
        ∙ ap (λ (n : ℕ). first_wrong (stage_refusal s.stage asks.Raise ∷ unless (may_raise n t) Threshold ∷ [])) (sym st.remembers.threshold)

    pub open_over : closed s.stage ≡ None → (x : law.Opening K) × (opening h ≡ Some x) × Over s.walk x
    open_over e = under_open s.walk s.stage (opening h) e st.remembers.under

  -- and so it is where the stage refuses the call
  pub unheard :
      {X : Type 0} (says : Result X Refusal → Answer) (s : Session K) (c : Call (law.Opening K) K) (ask : Ask) (f : Refusal) (heard : Result (Unit {0}) Refusal) (r : Result X Refusal) →
      ((h : List (Exchange (law.Opening K) K)) → refused W h c ≡ stage_refusal (stage h) ask) →
      says (Err f) ≡ refusing f →
      heard ≡ or_refused (stage_refusal s.stage ask) tt →
      heard ≡ Err f →
      IsErrAnd r (λ y. y ≡ f) →
      Extends order c (says r) s s
  unheard says s c ask f heard r decides is answered was out =
      exits_refused says s c f r is out
      (λ h st. decides h ∙ by_stage s h st ask ∙ refused_by (stage_refusal s.stage ask) tt heard answered f was)

  room_by : (walk : Walk K) (o : Option (law.Opening K)) (m : ℕ) → (x : law.Opening K) × (o ≡ Some x) × Over walk x → first_wrong (unless (leb (longest_of W o) m) Room ∷ []) ≡ first_wrong (unless (leb walk.longest m) Room ∷ [])
  room_by walk o m u =
      ap (λ (n : ℕ). first_wrong (unless (leb n m) Room ∷ [])) (ap (longest_of W) u.1 ∙ sym u.2.longest)

  -- the longest length matters only once the session is opened
  same_room : (walk : Walk K) (g : Stage) (o : Option (law.Opening K)) (m : ℕ) → Under walk g o → first_wrong (stage_refusal g asks.Next ∷ unless (leb (longest_of W o) m) Room ∷ []) ≡ first_wrong (stage_refusal g asks.Next ∷ unless (leb walk.longest m) Room ∷ [])
  same_room walk stages.Made o m u = refl
  same_room walk stages.Opened o m u = room_by walk o m u
  same_room walk stages.Listing o m u = room_by walk o m u
  same_room walk stages.Ended o m u = room_by walk o m u

  pub next_refused : (s : Session K) (h : List (Exchange (law.Opening K) K)) → Stands order s h → (w : List K → Bool) (m : ℕ) → refused W h (Next w m) ≡ next_refusal s m
  next_refused s h st w m =
      ap (λ (g : Stage). first_wrong (stage_refusal g asks.Next ∷ unless (leb (longest_of W (opening h)) m) Room ∷ [])) (sym st.remembers.stage)
      ∙ same_room s.walk s.stage (opening h) m st.remembers.under

  -- the support that a walk means is that of the opening
  pub same_support : (walk : Walk K) (o : law.Opening K) → Over walk o → walks.support_of order walk ≡ support_of W o
  same_support walk o over i p =
      support order (tapes (over.events i) (over.offsets i)) (picked (over.lexicon i) p)

  pub same_wants : (wants : List K → Bool) (walk : Walk K) (o : law.Opening K) → Over walk o → walks.wants_of wants walk ≡ (λ (p : List ℕ). wants (events_of W o p))
  same_wants wants walk o over i p = wants (picked (over.lexicon i) p)

  -- with an event behind the latest pattern
  pub probed_support : (walk : Walk K) (o : law.Opening K) → Over walk o → (p : List ℕ) (e : K) → at walk ≡ p → support order (tapes_of walk.trail) (picked (lexicon_of walk) (at walk) ++ (e ∷ [])) ≡ W.support o (events_of W o p ++ (e ∷ []))
  probed_support walk o over p e is i =
      support order (tapes (over.events i) (over.offsets i)) (picked (over.lexicon i) (is i) ++ (e ∷ []))

-- the front of a row at which a list was laid
pub front_of : (p row row' : List ℕ) (n : ℕ) → n ≡ length p → row' ≡ p ++ drop (length p) row → take n row' ≡ p
front_of p row row' n e laid = ap (take n) laid ∙ ap (λ (k : ℕ). take k (p ++ drop (length p) row)) e ∙ take_at p (drop (length p) row) (length p) refl

-- nor does what stands behind the row matter
pub front_before : (p row row' rest : List ℕ) (n : ℕ) → n ≡ length p → row' ≡ p ++ drop (length p) row → take n row' ≡ take n (row' ++ rest)
front_before p row row' rest n e laid =
    sym (take-append-le n row' rest (omega (arith, e, ap length laid, length-append p (drop (length p) row))))
