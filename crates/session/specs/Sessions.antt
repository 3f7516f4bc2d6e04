-- Openings and sessions, in the words of the law.
use Rattle.std.specs.Prelude.{◌≡◌, min, ◌≢◌, List, ◌∷◌, Some, None, Option}
use Rattle.event.specs.declared.order.Order.{Order}
use Rattle.law.specs.declared.stage.Stage.{Stage}
use Rattle.law.specs.declared.stage.Stage.TheVariants as stages
use Rattle.law.specs.Openings as law
use Rattle.law.specs.Openings.{world}
use Rattle.law.specs.Rules.{Answered, most_counted}
use Rattle.law.specs.States.{State, state_of}
use Rattle.law.specs.Transcripts.{Call, Answer, Exchange, call_of, answer_of}
use Rattle.search.specs.Walks.{at, Sound}
use Rattle.search.specs.declared.walk.Walk.{Walk}
use Rattle.session.specs.declared.opening.Opening.{Opening}
use Rattle.session.specs.declared.session.Session.{Session}

-- an opening's rows and numbers
abbrev pub opening_of : {K : Type 0} → Opening K → law.Opening K
opening_of o =
    record {
      events = o.tapes.events.now;
      offsets = o.tapes.offsets.now;
      lexicon = o.lexicon.now;
      threshold = o.threshold;
      longest = o.longest;
    }

-- a walk goes over an opening's rows, up to its longest length
pub record Over {K : Type 0} (walk : Walk K) (o : law.Opening K) : Type 0 where
  pub events : walk.trail.tapes.events.now ≡ o.events
  pub offsets : walk.trail.tapes.offsets.now ≡ o.offsets
  pub lexicon : walk.trail.lexicon.now ≡ o.lexicon
  pub longest : walk.longest ≡ o.longest

-- at a stage there is no opening yet, or the walk goes over it
abbrev pub Under : {K : Type 0} → Walk K → Stage → Option (law.Opening K) → Type 0
Under walk stages.Made o = o ≡ None
Under walk stages.Opened o = (x : law.Opening _) × (o ≡ Some x) × Over walk x
Under walk stages.Listing o = (x : law.Opening _) × (o ≡ Some x) × Over walk x
Under walk stages.Ended o = (x : law.Opening _) × (o ≡ Some x) × Over walk x

-- a session remembers a state; once ended, neither the latest pattern nor whether it was skipped
pub record Remembers {K : Type 0} (s : Session K) (g : State (law.Opening K)) : Type 0 where
  pub under : Under s.walk s.stage g.under
  pub stage : s.stage ≡ g.at
  pub latest : s.stage ≢ stages.Ended → at s.walk ≡ g.last
  pub skipped : s.stage ≢ stages.Ended → s.skipped ≡ g.cut
  pub threshold : s.threshold ≡ g.least
  pub count : s.count ≡ min g.count most_counted

module _ {K : Type 0} (order : K → K → Order) where
  -- a session stands for a transcript: every call was answered as the rules say, and the session remembers the state that it leads to
  pub record Stands (s : Session K) (h : List (Exchange (law.Opening K) K)) : Type 0 where
    pub answered : Answered (world order) h
    pub remembers : Remembers s (state_of (world order) h)
    pub sound : Sound order s.walk

  -- a session stands for a transcript with one more exchange, of this call and this answer
  pub record Follows (c : Call (law.Opening K) K) (a : Answer) (s : Session K) (h : List (Exchange (law.Opening K) K)) : Type 0 where
    pub said : Exchange (law.Opening K) K
    pub asks : call_of said ≡ c
    pub gets : answer_of said ≡ a
    pub stands : Stands s (said ∷ h)

  -- a call with this answer leads from a session to a later one: whatever transcript the first stands for, the later stands for it with this exchange
  abbrev pub Extends : Call (law.Opening K) K → Answer → Session K → Session K → Type 0
  Extends c a before after = (h : List (Exchange (law.Opening K) K)) → Stands before h → Follows c a after h
