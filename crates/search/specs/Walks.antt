-- What a walk stands at, what it goes over, and how its calls move it.
use Rattle.std.specs.Prelude.{◌≡◌, ℕ, ◌<◌, ◌≤◌, Bool, List, [], ◌∷◌, ◌++◌, length, Some, None, Option}
use Rattle.std.specs.Borrow.{Bor}
use Rattle.event.specs.declared.order.Order.{Order}
use Rattle.bundle.specs.declared.tape.Tapes.{Tapes}
use Rattle.matching.specs.Picks.{picked}
use Rattle.matching.specs.Support as matching
use Rattle.trail.specs.Moves as moves
use Rattle.trail.specs.Sound as trails
use Rattle.search.specs.declared.walk.Walk.{Walk}
use Rattle.search.specs.declared.turn.Turn.{Turn}
use Rattle.search.specs.Turns.{Limits, Turned, Reached, Finds}

module _ {K : Type 0} where
  -- the list at which a walk stands, as places of its lexicon
  abbrev pub at : Walk K → List ℕ
  at walk = moves.stands_at walk.trail

  -- the lexicon of a walk
  abbrev pub lexicon_of : Walk K → List K
  lexicon_of walk = walk.trail.lexicon.now

  -- the walk's trail is sound
  abbrev pub Sound : (K → K → Order) → Walk K → Type 0
  Sound order walk = trails.Sound order walk.trail

  -- the support of a list of places
  abbrev pub support_of : (K → K → Order) → Walk K → List ℕ → ℕ
  support_of order walk p = matching.support order (trails.tapes_of walk.trail) (picked (lexicon_of walk) p)

  -- whether a list of places is wanted, where so are lists of events
  abbrev pub wants_of : (List K → Bool) → Walk K → List ℕ → Bool
  wants_of wants walk p = wants (picked (lexicon_of walk) p)

  -- what bounds a search over a walk
  abbrev pub limits_of : Walk K → ℕ → Limits
  limits_of walk need = record { places = length (lexicon_of walk); longest = walk.longest; need = need }

  -- what a walk goes over stays, and its longest length
  pub record SameRows (before after : Walk K) : Type 0 where
    pub tapes : after.trail.tapes ≡ before.trail.tapes
    pub lexicon : after.trail.lexicon ≡ before.trail.lexicon
    pub longest : after.longest ≡ before.longest

  -- a walk stands where it stood
  pub record Unmoved (before after : Walk K) : Type 0 where
    pub same : moves.Same before.trail after.trail
    pub trail : moves.Unmoved before.trail after.trail
    pub room : after.room ≡ before.room
    pub longest : after.longest ≡ before.longest

  -- a walk that was opened over these tapes and this lexicon stands at the empty list
  pub record Opened (tapes : Tapes K) (lexicon : Bor (List K)) (longest : ℕ) (walk : Walk K) : Type 0 where
    pub tapes_are : walk.trail.tapes ≡ tapes
    pub lexicon_is : walk.trail.lexicon ≡ lexicon
    pub longest_is : walk.longest ≡ longest
    pub stands : at walk ≡ []

  -- a fresh walk stands at the empty list, over no tapes and no lexicon
  pub record Fresh (order : K → K → Order) (walk : Walk K) : Type 0 where
    pub tapes : trails.tapes_of walk.trail ≡ []
    pub lexicon : lexicon_of walk ≡ []
    pub longest : walk.longest ≡ 0
    pub stands : at walk ≡ []
    pub sound : Sound order walk

-- a search over a walk, for what a filter wants with the support that it needs, which came from the walk before to the one after
module _ {K : Type 0} (order : K → K → Order) (wants : List K → Bool) (need : ℕ) (before after : Walk K) where
  -- by a turn that tried the child i
  abbrev pub TurnedOver : ℕ → Turn → Type 0
  TurnedOver i turn =
      Turned (limits_of before need) (support_of order before) (wants_of wants before) (at before) i (at after) turn

  -- by all turns so far, the last of which came to this
  abbrev pub ReachedOver : Bool → Turn → Type 0
  ReachedOver skip turn =
      Reached (limits_of before need) (support_of order before) (wants_of wants before) (at before) skip (at after) turn

  -- by what it found
  abbrev pub FindsOver : Bool → Option ℕ → Type 0
  FindsOver skip found =
      Finds (limits_of before need) (support_of order before) (wants_of wants before) (at before) skip (at after) found

-- how a walk at p goes deeper: where it answers, to the child, whose count reaches what is needed; and else it stays
abbrev pub Deeper : List ℕ → ℕ → ℕ → Option ℕ → List ℕ → Type 0
Deeper p place need (Some count) p' = (p' ≡ p ++ (place ∷ [])) × (need ≤ count)
Deeper p place need None p' = p' ≡ p

-- what going deeper answers: the support of the child, or that it is below what is needed, and so is that of all that extends the child
abbrev pub DeeperMeans : (List ℕ → ℕ) → List ℕ → ℕ → ℕ → Option ℕ → Type 0
DeeperMeans support p place need (Some count) = count ≡ support (p ++ (place ∷ []))
DeeperMeans support p place need None = (more : List ℕ) → support (p ++ (place ∷ more)) < need

-- how a walk goes back: to the parent, and answers the place that it left; or it is at the empty list
abbrev pub Back : List ℕ → Option ℕ → List ℕ → Type 0
Back p (Some x) p' = p ≡ p' ++ (x ∷ [])
Back p None p' = (p ≡ []) × (p' ≡ [])
