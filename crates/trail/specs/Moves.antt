-- What a trail stands at, and how its calls move it.
use Rattle.std.specs.Prelude.{◌≡◌, ℕ, ◌+◌, ◌-◌, ◌<◌, ◌≤◌, Bool, true, false, List, [], ◌∷◌, ◌++◌, length, take, Some, None, Option, slice_index, slice_set}
use Rattle.std.specs.Borrow.{Bor}
use Rattle.bundle.specs.declared.tape.Tapes.{Tapes}
use Rattle.trail.specs.declared.level.Head.{Head}
use Rattle.trail.specs.declared.trail.Trail.{Trail}
use Rattle.trail.specs.Levels.{end, Kept}
use Rattle.trail.specs.Trials.{behind}

-- the list that a trail stands at, as places of its lexicon
abbrev pub stands_at : {K : Type 0} → Trail K → List ℕ
stands_at trail = take trail.depth trail.list

-- the head of a trail's level k
abbrev pub head_at : {K : Type 0} → Trail K → ℕ → Head
head_at trail k =
    record { start = slice_index trail.bounds k; count = slice_index trail.bounds (k + 1) - slice_index trail.bounds k }

module _ {K : Type 0} (before after : Trail K) where
  -- what a trail was opened over stays
  pub record Same : Type 0 where
    pub tapes : after.tapes ≡ before.tapes
    pub lexicon : after.lexicon ≡ before.lexicon

  -- a trail stands where it stood: at most what lies behind its levels in the rows has changed
  pub record Unmoved : Type 0 where
    pub head : after.head ≡ before.head
    pub bounds : after.bounds ≡ before.bounds
    pub list : after.list ≡ before.list
    pub depth : after.depth ≡ before.depth
    pub rows : Kept (end before.head) before.rows after.rows

  -- a trail went deeper by a place, to a level of so many entries, which reach what is needed
  pub record Deepened (place need count : ℕ) : Type 0 where
    pub room : before.depth < 16
    pub known : place < length before.lexicon.now
    pub reached : need ≤ count
    pub head : after.head ≡ behind before.head count
    pub bounds : after.bounds ≡ slice_set before.bounds (before.depth + 1 + 1) (end before.head + count)
    pub list : after.list ≡ slice_set before.list before.depth place
    pub depth : after.depth ≡ before.depth + 1
    pub rows : Kept (end before.head) before.rows after.rows
    pub stands : stands_at after ≡ stands_at before ++ place ∷ []

  -- a trail went back by one place
  pub record Shortened : Type 0 where
    pub rows : after.rows ≡ before.rows
    pub head : after.head ≡ head_at before after.depth
    pub bounds : after.bounds ≡ before.bounds
    pub list : after.list ≡ before.list
    pub depth : after.depth + 1 ≡ before.depth
    pub stands : stands_at after ≡ take after.depth (stands_at before)

-- how a trail goes deeper: where it answers it does, and else it stands where it stood
abbrev pub Deeper : {K : Type 0} → Trail K → ℕ → ℕ → Option ℕ → Trail K → Type 0
Deeper before place need (Some count) after = Deepened before after place need count
Deeper before place need None after = Unmoved before after

-- how a trail goes back: by one place, unless its list is empty
abbrev pub Back : {K : Type 0} → Trail K → Bool → Trail K → Type 0
Back before true after = Shortened before after
Back before false after = (before.depth ≡ 0) × (after ≡ before)

-- a trail that was opened over these tapes and this lexicon stands at the empty list
pub record Opened {K : Type 0} (tapes : Tapes K) (lexicon : Bor (List K)) (trail : Trail K) : Type 0 where
  pub tapes_are : trail.tapes ≡ tapes
  pub lexicon_is : trail.lexicon ≡ lexicon
  pub head : trail.head ≡ record { start = 0; count = length tapes.offsets.now - 1 }
  pub depth : trail.depth ≡ 0
  pub stands : stands_at trail ≡ []
