-- The law of a session's list.
use Rattle.std.specs.Prelude.{◌≡◌, ℕ, ◌≤◌, Bool, true, ◌≢◌, ◌↔◌, List, [], ◌∷◌, ◌++◌, Some}
use Rattle.law.specs.declared.stage.Stage.TheVariants as stages
use Rattle.law.specs.Order.{Begins, IsFirst}
use Rattle.law.specs.Transcripts.{Exchange, Opened, Gave, Ended, Marked, Raised, Besides, Among, Descending, stage, opening, returned, handed_out, skipped, Passed}
use Rattle.law.specs.Rules.{World, support_of, events_of, PatternOf, PassedAt, Eligible, Answered}

-- every next of a transcript had a filter that wants w
abbrev pub AllAsk : {O K : Type 0} → (List K → Bool) → List (Exchange O K) → Type 0
AllAsk w [] = Unit {0}
AllAsk w (Opened o ∷ h) = AllAsk w h
AllAsk w (Gave v m p s ∷ h) = (v ≡ w) × AllAsk w h
AllAsk w (Ended v m ∷ h) = (v ≡ w) × AllAsk w h
AllAsk w (Marked ∷ h) = AllAsk w h
AllAsk w (Raised t ∷ h) = AllAsk w h
AllAsk w (Besides a ∷ h) = AllAsk w h

module _ {O K : Type 0} (W : World O K) where
  -- q deserves to be handed out to a filter that wants w, where rs are skipped and the threshold t stands: the filter wants it, no shorter
  -- pattern of rs begins it, and its support reaches t
  pub record Deserves (o : O) (rs : List (List ℕ)) (w : List K → Bool) (t : ℕ) (q : List ℕ) : Type 0 where
    pub wanted : w (events_of W o q) ≡ true
    pub free : (r : List ℕ) → Among r rs → Begins r q → ⊥
    pub reached : t ≤ support_of W o q

  -- The law of a transcript whose latest accepted opening is o, of what was since.
  pub record Lawful (o : O) (h : List (Exchange O K)) : Type 0 where
    -- the patterns handed out stand in strictly rising order (the newest is first here)
    pub rising : Descending (handed_out h)
    -- each was returned with its support
    pub supports : (p : List ℕ) (s : ℕ) → Among (p, s) (returned h) → s ≡ support_of W o p
    -- each is a pattern, which was passed
    pub passed : (q : List ℕ) → Among q (handed_out h) → PatternOf W o q × Passed h q
    -- a pattern that was passed was first passed by some next, with its filter and the threshold that stood
    pub timed : (q : List ℕ) → PatternOf W o q → Passed h q → (w : List K → Bool) × ((t : ℕ) × PassedAt W w t h q)
    -- it was handed out exactly when it deserved that, by the filter and the threshold standing as it was passed
    pub exact :
        (q : List ℕ) →
        PatternOf W o q →
        (w : List K → Bool) (t : ℕ) →
        PassedAt W w t h q →
        Among q (handed_out h) ↔ Deserves o (skipped h) w t q
    -- once END is given, every pattern was passed
    pub whole : stage h ≡ stages.Ended → (q : List ℕ) → PatternOf W o q → Passed h q

  -- each part h of a transcript, from its start on, keeps the law, if every call was answered as the rules say
  abbrev pub EveryRunIsLawful : Type 0
  EveryRunIsLawful =
      (later h : List (Exchange O K)) → Answered W (later ++ h) → (o : O) → opening h ≡ Some o → Lawful o h

  -- and the law leaves a next no other answer: whatever it gives, the law holds then only if that is what the rules say
  abbrev pub OnlyTheRulesAreLawful : Type 0
  OnlyTheRulesAreLawful =
      (h : List (Exchange O K)) →
      Answered W h →
      stage h ≢ stages.Ended →
      (o : O) →
      opening h ≡ Some o →
      (w : List K → Bool) (m : ℕ) →
      ((p : List ℕ) (s : ℕ) → Lawful o (Gave w m p s ∷ h) → IsFirst (Eligible W o h w) p × (s ≡ support_of W o p))
      × (Lawful o (Ended w m ∷ h) → (q : List ℕ) → Eligible W o h w q → ⊥)

  -- where every next had a filter that wants w, what was passed was passed by such a filter
  abbrev pub OneFilter : Type 0
  OneFilter =
      (w : List K → Bool) (h : List (Exchange O K)) →
      AllAsk w h →
      (v : List K → Bool) (t : ℕ) (q : List ℕ) →
      PassedAt W v t h q →
      v ≡ w
