-- What each call answers and leaves.
use Rattle.std.specs.Prelude.{◌≡◌, ℕ, ◌+◌, min, Bool, true, false, List, [], ◌∷◌, ◌++◌, length, take, drop, Some, None, Ok, Err, Option, Result, ◌≢◌, nat_le}
use Rattle.event.specs.declared.order.Order.{Order}
use Rattle.event.specs.declared.refusal.Refusal.{Refusal}
use Rattle.event.specs.declared.refusal.Refusal.TheVariants.{Threshold, Room}
use Rattle.matching.specs.Checks.{unless, first_wrong}
use Rattle.law.specs.declared.stage.Stage.TheVariants as stages
use Rattle.law.specs.declared.stage.Ask.TheVariants as asks
use Rattle.law.specs.Rules.{stage_refusal, may_raise, most_counted}
use Rattle.law.specs.Transcripts.{Answer, refusing, accepted, pattern, end, counted, told}
use Rattle.search.specs.Walks.{at, SameRows, Unmoved, FindsOver}
use Rattle.session.specs.declared.opening.Opening.{Opening}
use Rattle.session.specs.declared.session.Session.{Session}

-- why a call was refused, if it was
abbrev pub refusal_in : {X : Type 0} → Result X Refusal → Option Refusal
refusal_in (Ok x) = None
refusal_in (Err r) = Some r

-- a refused call leaves the session as it was; of an accepted one, what it leaves is told
abbrev pub Leaves : {X K : Type 0} → Result X Refusal → Session K → Session K → (X → Type 0) → Type 0
Leaves (Ok x) before after left = left x
Leaves (Err r) before after left = after ≡ before

-- why a next with a row of so many places is refused, if it is
abbrev pub next_refusal : {K : Type 0} → Session K → ℕ → Option Refusal
next_refusal s room =
    first_wrong (stage_refusal s.stage asks.Next ∷ unless (nat_le s.walk.longest room) Room ∷ [])

-- why a raise is refused, if it is
abbrev pub raise_refusal : {K : Type 0} → Session K → ℕ → Option Refusal
raise_refusal s t = first_wrong (stage_refusal s.stage asks.Raise ∷ unless (may_raise s.threshold t) Threshold ∷ [])

module _ {K : Type 0} (before after : Session K) where
  -- an opening forgets what went before
  pub record OpenedBy (o : Opening K) : Type 0 where
    pub tapes : after.walk.trail.tapes ≡ o.tapes
    pub lexicon : after.walk.trail.lexicon ≡ o.lexicon
    pub longest : after.walk.longest ≡ o.longest
    pub latest : at after.walk ≡ []
    pub stage : after.stage ≡ stages.Opened
    pub threshold : after.threshold ≡ o.threshold
    pub skipped : after.skipped ≡ false
    pub count : after.count ≡ 0

  -- a pattern was handed out
  pub record HandedOut : Type 0 where
    pub rows : SameRows before.walk after.walk
    pub stage : after.stage ≡ stages.Listing
    pub threshold : after.threshold ≡ before.threshold
    pub skipped : after.skipped ≡ false
    pub count : after.count ≡ min (before.count + 1) most_counted

  -- END was given
  pub record AtEnd : Type 0 where
    pub rows : SameRows before.walk after.walk
    pub stage : after.stage ≡ stages.Ended
    pub threshold : after.threshold ≡ before.threshold
    pub skipped : after.skipped ≡ before.skipped
    pub count : after.count ≡ before.count

  -- the latest pattern was marked as skipped
  pub record MarkedLatest : Type 0 where
    pub walk : after.walk ≡ before.walk
    pub stage : after.stage ≡ before.stage
    pub threshold : after.threshold ≡ before.threshold
    pub skipped : after.skipped ≡ true
    pub count : after.count ≡ before.count

  -- the threshold was raised
  pub record RaisedTo (t : ℕ) : Type 0 where
    pub walk : after.walk ≡ before.walk
    pub stage : after.stage ≡ before.stage
    pub threshold : after.threshold ≡ t
    pub skipped : after.skipped ≡ before.skipped
    pub count : after.count ≡ before.count

  -- a probe changes nothing but what lies behind the live levels of the trail
  pub record Probed : Type 0 where
    pub walk : Unmoved before.walk after.walk
    pub stage : after.stage ≡ before.stage
    pub threshold : after.threshold ≡ before.threshold
    pub skipped : after.skipped ≡ before.skipped
    pub count : after.count ≡ before.count

  -- what an accepted next leaves: once ended, the session as it was
  abbrev pub AfterNext : Option (ℕ × ℕ) → Type 0
  AfterNext (Some found) = HandedOut × (found.0 ≡ length (at after.walk))
  AfterNext None = AtEnd × (before.stage ≡ stages.Ended → after ≡ before)

-- the row after a next: the places of a pattern that was handed out at its front, and else as it was
abbrev pub row_after : Result (Option (ℕ × ℕ)) Refusal → List ℕ → List ℕ → List ℕ
row_after (Ok (Some found)) places row = places ++ drop (length places) row
row_after (Ok None) places row = row
row_after (Err r) places row = row

-- the support in an answer of the search
abbrev pub support_in : Option (ℕ × ℕ) → Option ℕ
support_in (Some found) = Some found.1
support_in None = None

-- what an accepted next means: unless the list has ended, it finds the first pattern after the latest one, and after that one's extensions if that was skipped, that the filter wants and whose support reaches the threshold; or there is none
abbrev pub NextMeans : {K : Type 0} → (K → K → Order) → (List K → Bool) → Session K → Session K → Option (ℕ × ℕ) → Type 0
NextMeans order wants before after found =
    (before.stage ≢ stages.Ended) →
    FindsOver order wants before.threshold before.walk after.walk before.skipped (support_in found)

-- each answer, in the words of the law: of a next, with the row afterwards
abbrev pub says_done : {X : Type 0} → Result X Refusal → Answer
says_done (Ok x) = accepted
says_done (Err r) = refusing r

abbrev pub says_next : Result (Option (ℕ × ℕ)) Refusal → List ℕ → Answer
says_next (Ok (Some found)) row = pattern (take found.0 row) found.1
says_next (Ok None) row = end
says_next (Err r) row = refusing r

abbrev pub says_support : Result ℕ Refusal → Answer
says_support (Ok s) = counted s
says_support (Err r) = refusing r

abbrev pub says_told : Result (ℕ × ℕ) Refusal → Answer
says_told (Ok x) = told x.0 x.1
says_told (Err r) = refusing r
