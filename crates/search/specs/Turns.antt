-- The turns of the search for the next pattern, and what it finds.
use Rattle.std.specs.Prelude.{◌≡◌, ℕ, zero, suc, pred, ◌+◌, ◌-◌, ◌*◌, ◌<◌, ◌≤◌, Bool, true, List, [], ◌∷◌, ◌++◌, length, Some, None, Option}
use Rattle.law.specs.Order.{Precedes, UpTo, Begins, AllBelow, IsPattern, IsFirst}
use Rattle.search.specs.declared.turn.Turn.{Turn}
use Rattle.search.specs.declared.turn.Turn.TheVariants.{Found, Go, End}

-- how many places there are, how long a pattern may be, and the support that it needs
pub record Limits : Type 0 where
  pub places : ℕ
  pub longest : ℕ
  pub need : ℕ

-- q comes after the latest, and does not extend it if that is skipped
abbrev pub Beyond : List ℕ → Bool → List ℕ → Type 0
Beyond latest skip q = Precedes latest q × (skip ≡ true → Begins latest q → ⊥)

-- at most so many turns go to a child and all below it, where each list has n children down to depth d
unfoldable pub cost : ℕ → ℕ → ℕ
cost n zero = 2
cost n (suc d) = n * cost n d + 2

-- at most so many turns are left at a list, from its child i on, with its parents' later children
unfoldable pub left : ℕ → ℕ → List ℕ → ℕ → ℕ
left n d [] i = (n - i) * cost n d
left n d (x ∷ p) i = (n - suc x) * cost n d + 1 + left n (pred d) p i

-- at most so many turns are left at p, after a turn that came to this
abbrev pub turns : Limits → List ℕ → Turn → ℕ
turns l p (Found s) = 0
turns l p (Go i) = left l.places l.longest p i + 1
turns l p End = 0

-- the search is at p, and may go on to its children
pub record Stands (l : Limits) (p : List ℕ) : Type 0 where
  pub short : length p < l.longest
  pub within : AllBelow l.places p

-- the search left p for its parent p', and goes on with the next sibling of p; at the empty list it ends
abbrev pub Left : List ℕ → List ℕ → Turn → Type 0
Left p p' (Found s) = ⊥
Left p p' (Go j) = (x : ℕ) × (p ≡ p' ++ (x ∷ [])) × (j ≡ x + 1)
Left p p' End = (p ≡ []) × (p' ≡ [])

-- where a turn leaves the search: at a pattern that it found, where it may go on, or at the empty list
abbrev pub Rests : Limits → List ℕ → Turn → Type 0
Rests l p (Found s) = IsPattern l.places l.longest p
Rests l p (Go i) = Stands l p
Rests l p End = p ≡ []

-- a turn that tried the child i of p left the search so at p', with fewer turns left
pub record Moves (l : Limits) (p : List ℕ) (i : ℕ) (p' : List ℕ) (turn : Turn) : Type 0 where
  pub rests : Rests l p' turn
  pub fewer : turns l p' turn < turns l p (Go i)

-- where the search stops: at a pattern, or at the empty list where it answers none
abbrev pub Stops : Limits → List ℕ → Option ℕ → Type 0
Stops l p (Some s) = IsPattern l.places l.longest p
Stops l p None = p ≡ []

module _ (l : Limits) (support : List ℕ → ℕ) (wants : List ℕ → Bool) where
  -- q is a pattern that the filter wants, with enough support
  pub record Good (q : List ℕ) : Type 0 where
    pub pattern : IsPattern l.places l.longest q
    pub wanted : wants q ≡ true
    pub reached : l.need ≤ support q

  -- a turn that tried the child i of p, and came to p': it passed over nothing good
  abbrev pub Turned : List ℕ → ℕ → List ℕ → Turn → Type 0
  Turned p i p' (Found s) = (p' ≡ p ++ (i ∷ [])) × Good p' × (s ≡ support p')
  Turned p i p' (Go j) =
      Precedes (p ++ (i ∷ [])) (p' ++ (j ∷ []))
      × ((q : List ℕ) → Good q → UpTo (p ++ (i ∷ [])) q → UpTo (p' ++ (j ∷ [])) q)
  Turned p i p' End = (q : List ℕ) → Good q → UpTo (p ++ (i ∷ [])) q → ⊥

  -- what may be found after the latest: a pattern that comes after it, does not extend it if that is skipped, is wanted and has enough support
  pub record Eligible (latest : List ℕ) (skip : Bool) (q : List ℕ) : Type 0 where
    pub pattern : IsPattern l.places l.longest q
    pub after : Precedes latest q
    pub free : skip ≡ true → Begins latest q → ⊥
    pub wanted : wants q ≡ true
    pub reached : l.need ≤ support q

  -- how far the search has come, where a turn left it at p
  abbrev pub Reached : List ℕ → Bool → List ℕ → Turn → Type 0
  Reached latest skip p (Found s) = IsFirst (Eligible latest skip) p × (s ≡ support p)
  Reached latest skip p (Go i) =
      Beyond latest skip (p ++ (i ∷ [])) × ((q : List ℕ) → Eligible latest skip q → UpTo (p ++ (i ∷ [])) q)
  Reached latest skip p End = (q : List ℕ) → Eligible latest skip q → ⊥

  -- what the search finds: it stops at the first that is eligible and answers its support, or at the empty list where nothing is
  abbrev pub Finds : List ℕ → Bool → List ℕ → Option ℕ → Type 0
  Finds latest skip p (Some s) = IsFirst (Eligible latest skip) p × (s ≡ support p)
  Finds latest skip p None = (p ≡ []) × ((q : List ℕ) → Eligible latest skip q → ⊥)
