-- Patterns and their order. A pattern is a list of places in the lexicon.
use Rattle.std.specs.Prelude.{◌≡◌, ℕ, ◌<◌, ◌≤◌, ◌⊎◌, ◌↔◌, List, [], ◌∷◌, ◌++◌, length}
use Rattle.event.specs.declared.order.Order.{Order}
use Rattle.event.specs.declared.order.Order.TheVariants.{Before, Alike}
use Rattle.matching.specs.Lexicons.{Rising}
use Rattle.matching.specs.Picks.{picked}

-- p comes before q: a list comes before its extensions, and otherwise the first place where the two differ decides
abbrev pub Precedes : List ℕ → List ℕ → Type 0
Precedes p [] = ⊥
Precedes [] (y ∷ q) = Unit {0}
Precedes (x ∷ p) (y ∷ q) = (x < y) ⊎ ((x ≡ y) × Precedes p q)

-- q is p, or comes before it
abbrev pub UpTo : List ℕ → List ℕ → Type 0
UpTo q p = Precedes q p ⊎ (q ≡ p)

-- p is shorter than q and begins it: q is an extension of p
abbrev pub Begins : List ℕ → List ℕ → Type 0
Begins p q = (e : ℕ) × (r : List ℕ) × (q ≡ p ++ (e ∷ r))

-- each place of a list is below n
abbrev pub AllBelow : ℕ → List ℕ → Type 0
AllBelow n [] = Unit {0}
AllBelow n (x ∷ p) = (x < n) × AllBelow n p

-- a pattern over a lexicon of n events, of 1 to l events
abbrev pub IsPattern : ℕ → ℕ → List ℕ → Type 0
IsPattern n l p = (1 ≤ length p) × (length p ≤ l) × AllBelow n p

-- p is the first, in this order, of which P holds
abbrev pub IsFirst : (List ℕ → Type 0) → List ℕ → Type 0
IsFirst P p = P p × ((q : List ℕ) → Precedes q p → P q → ⊥)

-- the same order of lists of events: a list comes before its extensions, and otherwise the first differing event decides
abbrev pub EventsPrecede : {K : Type 0} → (K → K → Order) → List K → List K → Type 0
EventsPrecede order p [] = ⊥
EventsPrecede order [] (y ∷ q) = Unit {0}
EventsPrecede order (x ∷ p) (y ∷ q) = (order x y ≡ Before) ⊎ ((order x y ≡ Alike) × EventsPrecede order p q)

-- no list comes before itself, the order carries over a middle list, and of two lists that differ one comes before the other
pub record IsStrictOrder : Type 0 where
  pub strict : (p : List ℕ) → Precedes p p → ⊥
  pub carried : (p q r : List ℕ) → Precedes p q → Precedes q r → Precedes p r
  pub total : (p q : List ℕ) → Precedes p q ⊎ ((p ≡ q) ⊎ Precedes q p)

-- over a strictly rising lexicon, the order of lists of places is the order of their events
abbrev pub IsOrderOfEvents : {K : Type 0} → (K → K → Order) → Type 0
IsOrderOfEvents {K} order =
    (lexicon : List K) →
    Rising order lexicon →
    (p q : List ℕ) →
    AllBelow (length lexicon) p →
    AllBelow (length lexicon) q →
    Precedes p q ↔ EventsPrecede order (picked lexicon p) (picked lexicon q)
