-- A list that is read to END, with one filter and without a skip or a raise.
use Rattle.std.specs.Prelude.{◌≡◌, ℕ, ◌≤◌, Bool, true, ◌&&◌, ◌↔◌, List, [], ◌∷◌, map, reverse, length, filter, nat_le}
use Rattle.law.specs.declared.stage.Stage.TheVariants as stages
use Rattle.law.specs.Order.{Precedes}
use Rattle.law.specs.Transcripts.{Exchange, Opened, Gave, Ended, Marked, Raised, Besides, Among, stage, returned}
use Rattle.law.specs.Rules.{World, events_of, support_of, PatternOf, Answered}
use Rattle.law.specs.Answers.{patterns, precedes}

-- each comes before all that stand behind it
abbrev pub Ascending : List (List ℕ) → Type 0
Ascending [] = Unit {0}
Ascending (p ∷ ps) = ((q : List ℕ) → Among q ps → Precedes p q) × Ascending ps

-- how many patterns, over n places and of at most l events, come after p
abbrev pub remaining : ℕ → ℕ → List ℕ → ℕ
remaining n l p = length (filter (precedes p) (patterns n l))

-- the transcript reads a list of the opening o from there on, with a filter that wants w and without a skip or a raise
abbrev pub Reads : {O K : Type 0} → (List K → Bool) → O → List (Exchange O K) → Type 0
Reads w o [] = ⊥
Reads w o (Opened p ∷ h) = p ≡ o
Reads w o (Gave v m p s ∷ h) = (v ≡ w) × Reads w o h
Reads w o (Ended v m ∷ h) = (v ≡ w) × Reads w o h
Reads w o (Marked ∷ h) = ⊥
Reads w o (Raised t ∷ h) = ⊥
Reads w o (Besides a ∷ h) = Reads w o h

module _ {O K : Type 0} (W : World O K) where
  -- the patterns of an opening, in rising order, that a filter which wants w wants, and whose support reaches the opening's threshold
  abbrev pub deserving : O → (List K → Bool) → List (List ℕ)
  deserving o w =
      filter (λ q. w (events_of W o q) && nat_le (W.threshold o) (support_of W o q))
      (patterns (length (W.lexicon o)) (W.longest o))

  -- that it is these patterns, each once and in rising order
  pub record DeservingStands : Type 0 where
    pub members :
        (o : O) (w : List K → Bool) (q : List ℕ) →
        Among q (deserving o w) ↔ (PatternOf W o q × (w (events_of W o q) ≡ true) × (W.threshold o ≤ support_of W o q))
    pub rising : (o : O) (w : List K → Bool) → Ascending (deserving o w)

  -- a list read to END is whole: it is exactly the patterns that deserve it, in rising order, each with its support
  abbrev pub ListIsWhole : Type 0
  ListIsWhole =
      (h : List (Exchange O K)) (w : List K → Bool) (o : O) →
      Answered W h →
      Reads w o h →
      stage h ≡ stages.Ended →
      reverse (returned h) ≡ map (λ q. (q, support_of W o q)) (deserving o w)
