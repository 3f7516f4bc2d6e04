-- What a session has to remember of a transcript: the answers depend on no more.
use Rattle.std.specs.Prelude.{◌≡◌, ℕ, suc, Bool, true, false, List, [], ◌∷◌, length, Some, Option}
use Rattle.law.specs.declared.stage.Stage.{Stage}
use Rattle.law.specs.declared.stage.Stage.TheVariants as stages
use Rattle.law.specs.Transcripts.{Exchange, Opened, Gave, Ended, Marked, Raised, Besides, stage, opening, handed_out, latest, skipped}
use Rattle.law.specs.Rules.{World, standing, Answered}
use Rattle.law.specs.Answers.{among}

-- the opening, the stage, the latest pattern, whether it was skipped, the threshold standing, and how many patterns were handed out
pub record State (O : Type 0) : Type 0 where
  pub under : Option O
  pub at : Stage
  pub last : List ℕ
  pub cut : Bool
  pub least : ℕ
  pub count : ℕ

module _ {O K : Type 0} (W : World O K) where
  -- the state that a transcript leads to
  abbrev pub state_of : List (Exchange O K) → State O
  state_of h =
      record {
        under = opening h;
        at = stage h;
        last = latest h;
        cut = among (latest h) (skipped h);
        least = standing W h;
        count = length (handed_out h);
      }

  -- the state after one more exchange
  abbrev pub after : State O → Exchange O K → State O
  after g (Opened o) =
      record { under = Some o; at = stages.Opened; last = []; cut = false; least = W.threshold o; count = 0 }
  after g (Gave w m p s) =
      record { under = g.under; at = stages.Listing; last = p; cut = false; least = g.least; count = suc g.count }
  after g (Ended w m) =
      record { under = g.under; at = stages.Ended; last = g.last; cut = g.cut; least = g.least; count = g.count }
  after g Marked =
      record { under = g.under; at = g.at; last = g.last; cut = true; least = g.least; count = g.count }
  after g (Raised t) =
      record { under = g.under; at = g.at; last = g.last; cut = g.cut; least = t; count = g.count }
  after g (Besides a) = g

  -- the state follows from exchange to exchange
  abbrev pub StatesFollow : Type 0
  StatesFollow = (h : List (Exchange O K)) (x : Exchange O K) → Answered W (x ∷ h) → state_of (x ∷ h) ≡ after (state_of h) x
