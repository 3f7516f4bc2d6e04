-- The rules by which each call is answered.
use Rattle.std.specs.Prelude.{◌≡◌, ℕ, ◌≤◌, min, Bool, true, ◌&&◌, ◌≢◌, ◌⊎◌, List, [], ◌∷◌, ◌++◌, length, Some, None, Option, nat_le}
use Rattle.event.specs.declared.refusal.Refusal.{Refusal}
use Rattle.event.specs.declared.refusal.Refusal.TheVariants.{Closed, Nothing, Threshold, Room}
use Rattle.matching.specs.Checks.{unless, first_wrong}
use Rattle.matching.specs.Picks.{picked}
use Rattle.law.specs.declared.stage.Stage.{Stage}
use Rattle.law.specs.declared.stage.Stage.TheVariants as stages
use Rattle.law.specs.declared.stage.Ask.{Ask}
use Rattle.law.specs.declared.stage.Ask.TheVariants as asks
use Rattle.law.specs.Order.{Precedes, UpTo, Begins, IsPattern, IsFirst}
use Rattle.law.specs.Transcripts.{Call, Open, Next, Skip, Raise, Probe, Tell, Aside, Refused, Counted, Told, Exchange, Opened, Gave, Ended, Marked, Raised, Besides, Among, stage, opening, handed_out, latest, skipped, Passed}

-- What openings O stand for: why one is refused, if it is; its lexicon; its longest length; its threshold; and the support of a list of events.
pub record World (O K : Type 0) : Type 0 where
  pub refusal : O → Option Refusal
  pub lexicon : O → List K
  pub longest : O → ℕ
  pub threshold : O → ℕ
  pub support : O → List K → ℕ

-- CLOSED if the session was never opened
abbrev pub closed : Stage → Option Refusal
closed stages.Made = Some Closed
closed stages.Opened = None
closed stages.Listing = None
closed stages.Ended = None

-- why a call is refused by the stage alone, if it is
abbrev pub stage_refusal : Stage → Ask → Option Refusal
stage_refusal at asks.Open = None
stage_refusal at asks.Next = closed at
stage_refusal at asks.Skip =
    elim at [ stages.Made ↦ Some Closed | stages.Opened ↦ Some Nothing | stages.Listing ↦ None | stages.Ended ↦ Some Nothing ]
stage_refusal at asks.Raise = closed at
stage_refusal at asks.Probe =
    elim at [ stages.Made ↦ Some Closed | stages.Opened ↦ None | stages.Listing ↦ None | stages.Ended ↦ Some Nothing ]
stage_refusal at asks.Tell = closed at

-- whether the threshold may be raised from one number to another
abbrev pub may_raise : ℕ → ℕ → Bool
may_raise from to = nat_le 1 to && (nat_le to 512 && nat_le from to)

-- the most patterns that are counted
abbrev pub most_counted : ℕ
most_counted = 4294967295

-- P of what the option holds
abbrev pub Held : {A : Type 0} → Option A → (A → Type 0) → Type 0
Held None P = ⊥
Held (Some a) P = P a

module _ {O K : Type 0} (W : World O K) where
  -- the longest length of an opening, 0 if there is none
  abbrev pub longest_of : Option O → ℕ
  longest_of None = 0
  longest_of (Some o) = W.longest o

  -- the events at a list of places
  abbrev pub events_of : O → List ℕ → List K
  events_of o p = picked (W.lexicon o) p

  -- the support of a list of places
  abbrev pub support_of : O → List ℕ → ℕ
  support_of o p = W.support o (events_of o p)

  -- a pattern of an opening
  abbrev pub PatternOf : O → List ℕ → Type 0
  PatternOf o p = IsPattern (length (W.lexicon o)) (W.longest o) p

  -- the threshold standing: that of the latest accepted opening or raise
  abbrev pub standing : List (Exchange O K) → ℕ
  standing [] = 0
  standing (Opened o ∷ h) = W.threshold o
  standing (Gave w m p s ∷ h) = standing h
  standing (Ended w m ∷ h) = standing h
  standing (Marked ∷ h) = standing h
  standing (Raised t ∷ h) = t
  standing (Besides a ∷ h) = standing h

  -- the next that passed q first had a filter that wants w, and the threshold t stood
  abbrev pub PassedAt : (List K → Bool) → ℕ → List (Exchange O K) → List ℕ → Type 0
  PassedAt w t [] q = ⊥
  PassedAt w t (Opened o ∷ h) q = ⊥
  PassedAt w t (Gave v m p s ∷ h) q = PassedAt w t h q ⊎ ((Passed h q → ⊥) × UpTo q p × (w ≡ v) × (t ≡ standing h))
  PassedAt w t (Ended v m ∷ h) q = PassedAt w t h q ⊎ ((Passed h q → ⊥) × (w ≡ v) × (t ≡ standing h))
  PassedAt w t (Marked ∷ h) q = PassedAt w t h q
  PassedAt w t (Raised u ∷ h) q = PassedAt w t h q
  PassedAt w t (Besides a ∷ h) q = PassedAt w t h q

  -- why a call is refused, if it is
  abbrev pub refused : List (Exchange O K) → Call O K → Option Refusal
  refused h (Open o) = W.refusal o
  refused h (Next w m) =
      first_wrong (stage_refusal (stage h) asks.Next ∷ unless (nat_le (longest_of (opening h)) m) Room ∷ [])
  refused h Skip = stage_refusal (stage h) asks.Skip
  refused h (Raise t) = first_wrong (stage_refusal (stage h) asks.Raise ∷ unless (may_raise (standing h) t) Threshold ∷ [])
  refused h (Probe e) = stage_refusal (stage h) asks.Probe
  refused h Tell = stage_refusal (stage h) asks.Tell

  -- q may be handed out next to a filter that wants w: it is a pattern after the latest one, no extension of that if that was skipped, the
  -- filter wants it, and its support reaches the threshold
  pub record Eligible (o : O) (h : List (Exchange O K)) (w : List K → Bool) (q : List ℕ) : Type 0 where
    pub pattern : PatternOf o q
    pub after : Precedes (latest h) q
    pub free : Among (latest h) (skipped h) → Begins (latest h) q → ⊥
    pub wanted : w (events_of o q) ≡ true
    pub reached : standing h ≤ support_of o q

  -- a call that changes nothing is answered so
  abbrev pub RuleAside : List (Exchange O K) → Aside O K → Type 0
  RuleAside h (Refused c r) = refused h c ≡ Some r
  RuleAside h (Counted e s) =
      (refused h (Probe e) ≡ None) × Held (opening h) (λ o. s ≡ W.support o (events_of o (latest h) ++ (e ∷ [])))
  RuleAside h (Told t n) = (refused h Tell ≡ None) × (t ≡ standing h) × (n ≡ min (length (handed_out h)) most_counted)

  -- the exchange may follow the transcript
  abbrev pub Rule : List (Exchange O K) → Exchange O K → Type 0
  Rule h (Opened o) = refused h (Open o) ≡ None
  Rule h (Gave w m p s) =
      (refused h (Next w m) ≡ None)
      × (stage h ≢ stages.Ended)
      × Held (opening h) (λ o. IsFirst (Eligible o h w) p × (s ≡ support_of o p))
  Rule h (Ended w m) =
      (refused h (Next w m) ≡ None)
      × ((stage h ≡ stages.Ended) ⊎ Held (opening h) (λ o. (q : List ℕ) → Eligible o h w q → ⊥))
  Rule h Marked = refused h Skip ≡ None
  Rule h (Raised t) = refused h (Raise t) ≡ None
  Rule h (Besides a) = RuleAside h a

  -- every call was answered as the rules say
  abbrev pub Answered : List (Exchange O K) → Type 0
  Answered [] = Unit {0}
  Answered (x ∷ h) = Rule h x × Answered h
