-- That the levels of a trail are the projections of its list, and what its answers then mean.
use Rattle.std.specs.Prelude.{◌≡◌, ℕ, ◌<◌, ◌≤◌, List, [], ◌∷◌, ◌++◌, length, take, Some, None, Option}
use Rattle.event.specs.declared.order.Order.{Order}
use Rattle.bundle.specs.Tapes.{all_tapes}
use Rattle.matching.specs.Picks.{picked}
use Rattle.matching.specs.Support.{support}
use Rattle.trail.specs.declared.trail.Trail.{Trail}
use Rattle.trail.specs.Projection.{projection}
use Rattle.trail.specs.Levels.{level}
use Rattle.trail.specs.Moves.{stands_at, head_at}

-- the tapes that a trail goes over
abbrev pub tapes_of : {K : Type 0} → Trail K → List (List K)
tapes_of trail = all_tapes trail.tapes

-- the events of the list that a trail stands at
abbrev pub list_of : {K : Type 0} → Trail K → List K
list_of trail = picked trail.lexicon.now (stands_at trail)

-- a trail's level k, tape numbers and places, is the projection of the list's first k events
abbrev pub LevelStands : {K : Type 0} → (K → K → Order) → Trail K → ℕ → Type 0
LevelStands order trail k =
    level trail.rows (head_at trail k) ≡ projection order (tapes_of trail) (picked trail.lexicon.now (take k trail.list))

-- every live level of a trail does
pub record Sound {K : Type 0} (order : K → K → Order) (trail : Trail K) : Type 0 where
  pub levels : (k : ℕ) → k ≤ trail.depth → LevelStands order trail k

-- the support of the list that a trail stands at with more events behind it
abbrev pub support_with : {K : Type 0} → (K → K → Order) → Trail K → List K → ℕ
support_with order trail more = support order (tapes_of trail) (list_of trail ++ more)

-- what going deeper answers: the support of the list with the place behind it, or that it is below what is needed where the place could be gone to
abbrev pub DeeperMeans : {K : Type 0} → (K → K → Order) → Trail K → ℕ → ℕ → Option ℕ → Type 0
DeeperMeans order before place need (Some count) =
    count ≡ support_with order before (picked before.lexicon.now (place ∷ []))
DeeperMeans order before place need None =
    before.depth < 16 → place < length before.lexicon.now → support_with order before (picked before.lexicon.now (place ∷ [])) < need
