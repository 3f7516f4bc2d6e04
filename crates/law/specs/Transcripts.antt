-- What is said to a session and what it answers: transcripts, and what stands in them.
use Rattle.std.specs.Prelude.{◌≡◌, ℕ, Bool, ◌⊎◌, List, [], ◌∷◌, map, Some, None, Option}
use Rattle.event.specs.declared.refusal.Refusal.{Refusal}
use Rattle.law.specs.declared.stage.Stage.{Stage}
use Rattle.law.specs.declared.stage.Stage.TheVariants as stages
use Rattle.law.specs.Order.{Precedes, UpTo}

-- A call: an opening O; a next with the lists of events that its filter wants and the length of its row; a skip; a raise to a threshold;
-- a probe with an event K; a tell.
pub data Call (O K : Type 0) : Type 0 where
  Open : O → Call O K
  Next : (List K → Bool) → ℕ → Call O K
  Skip : Call O K
  Raise : ℕ → Call O K
  Probe : K → Call O K
  Tell : Call O K

-- An exchange is a call with its answer. These change nothing: a call that is refused; a probe and the support that it gives; a tell, and
-- the threshold and the count that it gives.
pub data Aside (O K : Type 0) : Type 0 where
  Refused : Call O K → Refusal → Aside O K
  Counted : K → ℕ → Aside O K
  Told : ℕ → ℕ → Aside O K

-- And these are the other calls that are accepted: an opening; a next that hands out a pattern and returns a support; a next that gives END;
-- a skip; a raise.
pub data Exchange (O K : Type 0) : Type 0 where
  Opened : O → Exchange O K
  Gave : (List K → Bool) → ℕ → List ℕ → ℕ → Exchange O K
  Ended : (List K → Bool) → ℕ → Exchange O K
  Marked : Exchange O K
  Raised : ℕ → Exchange O K
  Besides : Aside O K → Exchange O K

-- An answer: a refusal; accepted (an opening, a skip, a raise); a pattern with a support; END; a support; a threshold and a count.
pub data Answer : Type 0 where
  refusing : Refusal → Answer
  accepted : Answer
  pattern : List ℕ → ℕ → Answer
  end : Answer
  counted : ℕ → Answer
  told : ℕ → ℕ → Answer

-- the call of an exchange
abbrev pub asked : {O K : Type 0} → Aside O K → Call O K
asked (Refused c r) = c
asked (Counted e s) = Probe e
asked (Told t n) = Tell

abbrev pub call_of : {O K : Type 0} → Exchange O K → Call O K
call_of (Opened o) = Open o
call_of (Gave w m p s) = Next w m
call_of (Ended w m) = Next w m
call_of Marked = Skip
call_of (Raised t) = Raise t
call_of (Besides a) = asked a

-- and its answer
abbrev pub answered : {O K : Type 0} → Aside O K → Answer
answered (Refused c r) = refusing r
answered (Counted e s) = counted s
answered (Told t n) = told t n

abbrev pub answer_of : {O K : Type 0} → Exchange O K → Answer
answer_of (Opened o) = accepted
answer_of (Gave w m p s) = pattern p s
answer_of (Ended w m) = end
answer_of Marked = accepted
answer_of (Raised t) = accepted
answer_of (Besides a) = answered a

-- an exchange is no more than its call and its answer
abbrev pub ExchangesArePairs : Type 0 → Type 0 → Type 0
ExchangesArePairs O K = (x y : Exchange O K) → call_of x ≡ call_of y → answer_of x ≡ answer_of y → x ≡ y

-- the list has q
abbrev pub Among : {A : Type 0} → A → List A → Type 0
Among q [] = ⊥
Among q (p ∷ ps) = (q ≡ p) ⊎ Among q ps

-- the first of some lists, or the empty list
abbrev pub newest : List (List ℕ) → List ℕ
newest [] = []
newest (p ∷ ps) = p

-- each comes after all that stand behind it
abbrev pub Descending : List (List ℕ) → Type 0
Descending [] = Unit {0}
Descending (p ∷ ps) = ((q : List ℕ) → Among q ps → Precedes q p) × Descending ps

-- A transcript is the list of the exchanges so far, the newest first.
module _ {O K : Type 0} where
  -- the stage: made, opened after an opening, listing after a pattern, ended after END
  abbrev pub stage : List (Exchange O K) → Stage
  stage [] = stages.Made
  stage (Opened o ∷ h) = stages.Opened
  stage (Gave w m p s ∷ h) = stages.Listing
  stage (Ended w m ∷ h) = stages.Ended
  stage (Marked ∷ h) = stage h
  stage (Raised t ∷ h) = stage h
  stage (Besides a ∷ h) = stage h

  -- the latest accepted opening
  abbrev pub opening : List (Exchange O K) → Option O
  opening [] = None
  opening (Opened o ∷ h) = Some o
  opening (Gave w m p s ∷ h) = opening h
  opening (Ended w m ∷ h) = opening h
  opening (Marked ∷ h) = opening h
  opening (Raised t ∷ h) = opening h
  opening (Besides a ∷ h) = opening h

  -- the patterns handed out since then, each with the support that was returned with it, the newest first
  abbrev pub returned : List (Exchange O K) → List (List ℕ × ℕ)
  returned [] = []
  returned (Opened o ∷ h) = []
  returned (Gave w m p s ∷ h) = (p, s) ∷ returned h
  returned (Ended w m ∷ h) = returned h
  returned (Marked ∷ h) = returned h
  returned (Raised t ∷ h) = returned h
  returned (Besides a ∷ h) = returned h

  abbrev pub handed_out : List (Exchange O K) → List (List ℕ)
  handed_out h = map (λ x. x.0) (returned h)

  -- the latest of them, or the empty list, which comes before every pattern, if there is none yet
  abbrev pub latest : List (Exchange O K) → List ℕ
  latest h = newest (handed_out h)

  -- the patterns skipped since the opening: each was the latest at an accepted skip
  abbrev pub skipped : List (Exchange O K) → List (List ℕ)
  skipped [] = []
  skipped (Opened o ∷ h) = []
  skipped (Gave w m p s ∷ h) = skipped h
  skipped (Ended w m ∷ h) = skipped h
  skipped (Marked ∷ h) = latest h ∷ skipped h
  skipped (Raised t ∷ h) = skipped h
  skipped (Besides a ∷ h) = skipped h

  -- q was passed since the opening: a next passes the pattern that it hands out and all earlier ones, and at END all that there are
  abbrev pub Passed : List (Exchange O K) → List ℕ → Type 0
  Passed [] q = ⊥
  Passed (Opened o ∷ h) q = ⊥
  Passed (Gave w m p s ∷ h) q = UpTo q p ⊎ Passed h q
  Passed (Ended w m ∷ h) q = Unit {0}
  Passed (Marked ∷ h) q = Passed h q
  Passed (Raised t ∷ h) q = Passed h q
  Passed (Besides a ∷ h) q = Passed h q
