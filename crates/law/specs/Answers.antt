-- The rules, computed: which answer each call has.
use Rattle.std.specs.Prelude.{◌≡◌, ℕ, zero, suc, min, Bool, true, false, cond, not, ◌&&◌, ◌||◌, List, [], ◌∷◌, ◌++◌, map, length, Some, None, Option, ◌==◌, nat_le, nat_lt}
use Rattle.event.specs.declared.refusal.Refusal.{Refusal}
use Rattle.law.specs.declared.stage.Stage.{Stage}
use Rattle.law.specs.declared.stage.Stage.TheVariants as stages
use Rattle.law.specs.Transcripts.{Call, Open, Next, Skip, Raise, Probe, Tell, Refused, Counted, Told, Exchange, Opened, Gave, Ended, Marked, Raised, Besides, call_of, stage, opening, handed_out, latest, skipped}
use Rattle.law.specs.Rules.{World, most_counted, events_of, support_of, standing, refused, Answered}

-- k, k + 1, .., n of them
abbrev pub count_from : ℕ → ℕ → List ℕ
count_from k zero = []
count_from k (suc n) = k ∷ count_from (suc k) n

-- each list behind each place
abbrev pub spread : List ℕ → List (List ℕ) → List (List ℕ)
spread [] ps = []
spread (e ∷ es) ps = map (λ p. e ∷ p) ps ++ spread es ps

-- every pattern over n places of at most l events, in rising order
abbrev pub patterns : ℕ → ℕ → List (List ℕ)
patterns n zero = []
patterns n (suc l) = spread (count_from 0 n) ([] ∷ patterns n l)

-- the first of which a test is true
abbrev pub first : (List ℕ → Bool) → List (List ℕ) → Option (List ℕ)
first f [] = None
first f (p ∷ ps) = let r = first f ps in cond (f p) (Some p) r

-- whether p comes before q
abbrev pub precedes : List ℕ → List ℕ → Bool
precedes p [] = false
precedes [] (y ∷ q) = true
precedes (x ∷ p) (y ∷ q) = nat_lt x y || (x == y && precedes p q)

-- whether p is shorter than q and begins it
abbrev pub begins : List ℕ → List ℕ → Bool
begins p [] = false
begins [] (y ∷ q) = true
begins (x ∷ p) (y ∷ q) = x == y && begins p q

-- whether two lists are the same
abbrev pub same : List ℕ → List ℕ → Bool
same [] [] = true
same [] (y ∷ q) = false
same (x ∷ p) [] = false
same (x ∷ p) (y ∷ q) = x == y && same p q

-- whether some lists have q
abbrev pub among : List ℕ → List (List ℕ) → Bool
among q [] = false
among q (p ∷ ps) = same q p || among q ps

module _ {O K : Type 0} (W : World O K) where
  -- whether q, a pattern, may be handed out next
  abbrev pub eligible : O → List (Exchange O K) → (List K → Bool) → List ℕ → Bool
  eligible o h w q =
      precedes (latest h) q
      && (not (among (latest h) (skipped h) && begins (latest h) q)
      && (w (events_of W o q)
      && nat_le (standing W h) (support_of W o q)))

  -- the pattern that comes next
  abbrev pub next_of : O → List (Exchange O K) → (List K → Bool) → Option (List ℕ)
  next_of o h w = first (eligible o h w) (patterns (length (W.lexicon o)) (W.longest o))

  -- the pattern that a next hands out, if it does: none once ended
  abbrev pub upcoming : Stage → Option O → List (Exchange O K) → (List K → Bool) → Option (List ℕ)
  upcoming at None h w = None
  upcoming at (Some o) h w =
      elim at [
        | stages.Made ↦ next_of o h w
        | stages.Opened ↦ next_of o h w
        | stages.Listing ↦ next_of o h w
        | stages.Ended ↦ None
      ]

  -- the support of some events in an opening, 0 if there is none
  abbrev pub support_in : Option O → (O → List K) → ℕ
  support_in None events = 0
  support_in (Some o) events = W.support o (events o)

  -- the exchange of a next that is not refused
  abbrev pub give : Option O → (List K → Bool) → ℕ → Option (List ℕ) → Exchange O K
  give x w m None = Ended w m
  give x w m (Some p) = Gave w m p (support_in x (λ o. events_of W o p))

  -- the exchange of a call that is not refused
  abbrev pub accepted : List (Exchange O K) → Call O K → Exchange O K
  accepted h (Open o) = Opened o
  accepted h (Next w m) = give (opening h) w m (upcoming (stage h) (opening h) h w)
  accepted h Skip = Marked
  accepted h (Raise t) = Raised t
  accepted h (Probe e) = Besides (Counted e (support_in (opening h) (λ o. events_of W o (latest h) ++ (e ∷ []))))
  accepted h Tell = Besides (Told (standing W h) (min (length (handed_out h)) most_counted))

  abbrev pub answered_by : Option Refusal → List (Exchange O K) → Call O K → Exchange O K
  answered_by None h c = accepted h c
  answered_by (Some r) h c = Besides (Refused c r)

  -- the exchange that a call makes
  abbrev pub answer_to : List (Exchange O K) → Call O K → Exchange O K
  answer_to h c = answered_by (refused W h c) h c

  -- the transcript of some calls, of both the newest first
  abbrev pub run : List (Call O K) → List (Exchange O K)
  run [] = []
  run (c ∷ cs) = let h = run cs in answer_to h c ∷ h

  -- each call has just one answer by the rules, which is this one: the transcripts that keep the rules are the runs
  pub record AnswersAreDetermined : Type 0 where
    pub kept : (cs : List (Call O K)) → Answered W (run cs) × (map call_of (run cs) ≡ cs)
    pub only : (h : List (Exchange O K)) → Answered W h → h ≡ run (map call_of h)
