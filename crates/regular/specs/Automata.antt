-- The automaton of an expression: its places are the leaves, numbered in reading order from 0.
use Rattle.std.specs.Prelude.{◌≡◌, ℕ, zero, suc, ◌+◌, Bool, true, false, not, ◌&&◌, ◌||◌, List, [], ◌∷◌, ◌++◌, ◌==◌}
use Rattle.regular.specs.Regex.{Regex, one, seq, alt, star, plus, opt}

-- the leaves in reading order
abbrev pub leaves : {A : Type 0} → Regex A → List A
leaves (one a) = a ∷ []
leaves (seq s t) = leaves s ++ leaves t
leaves (alt s t) = leaves s ++ leaves t
leaves (star s) = leaves s
leaves (plus s) = leaves s
leaves (opt s) = leaves s

-- how many leaves there are
abbrev pub size : {A : Type 0} → Regex A → ℕ
size (one a) = 1
size (seq s t) = size s + size t
size (alt s t) = size s + size t
size (star s) = size s
size (plus s) = size s
size (opt s) = size s

-- the expression with the places for its leaves, the first of them k
abbrev pub number : {A : Type 0} → ℕ → Regex A → Regex ℕ
number k (one a) = one k
number k (seq s t) = seq (number k s) (number (k + size s) t)
number k (alt s t) = alt (number k s) (number (k + size s) t)
number k (star s) = star (number k s)
number k (plus s) = plus (number k s)
number k (opt s) = opt (number k s)

-- the event meets what stands at the place
abbrev pub fits : {A K : Type 0} → (A → K → Bool) → List A → ℕ → K → Bool
fits m [] p e = false
fits m (a ∷ rest) zero e = m a e
fits m (a ∷ rest) (suc p) e = fits m rest p e

-- the leaves of an expression over places, in reading order, are the numbers from lo up to but not including hi
abbrev pub Numbered : Regex ℕ → ℕ → ℕ → Type 0
Numbered (one p) lo hi = (p ≡ lo) × (hi ≡ lo + 1)
Numbered (seq s t) lo hi = (mid : ℕ) × Numbered s lo mid × Numbered t mid hi
Numbered (alt s t) lo hi = (mid : ℕ) × Numbered s lo mid × Numbered t mid hi
Numbered (star s) lo hi = Numbered s lo hi
Numbered (plus s) lo hi = Numbered s lo hi
Numbered (opt s) lo hi = Numbered s lo hi

-- the same as a test, of the numbers from lo on
abbrev pub is_numbered : Regex ℕ → ℕ → Bool
is_numbered (one p) lo = p == lo
is_numbered (seq s t) lo = is_numbered s lo && is_numbered t (lo + size s)
is_numbered (alt s t) lo = is_numbered s lo && is_numbered t (lo + size s)
is_numbered (star s) lo = is_numbered s lo
is_numbered (plus s) lo = is_numbered s lo
is_numbered (opt s) lo = is_numbered s lo

-- the empty list is in the language
abbrev pub takes_empty : {A : Type 0} → Regex A → Bool
takes_empty (one a) = false
takes_empty (seq s t) = takes_empty s && takes_empty t
takes_empty (alt s t) = takes_empty s || takes_empty t
takes_empty (star s) = true
takes_empty (plus s) = takes_empty s
takes_empty (opt s) = true

-- a list of the language may begin at the place
abbrev pub is_first : Regex ℕ → ℕ → Bool
is_first (one a) p = a == p
is_first (seq s t) p = is_first s p || (takes_empty s && is_first t p)
is_first (alt s t) p = is_first s p || is_first t p
is_first (star s) p = is_first s p
is_first (plus s) p = is_first s p
is_first (opt s) p = is_first s p

-- a list of the language may end at the place
abbrev pub is_last : Regex ℕ → ℕ → Bool
is_last (one a) p = a == p
is_last (seq s t) p = is_last t p || (takes_empty t && is_last s p)
is_last (alt s t) p = is_last s p || is_last t p
is_last (star s) p = is_last s p
is_last (plus s) p = is_last s p
is_last (opt s) p = is_last s p

-- the place q may stand right behind the place p
abbrev pub is_follow : Regex ℕ → ℕ → ℕ → Bool
is_follow (one a) p q = false
is_follow (seq s t) p q = is_follow s p q || (is_follow t p q || (is_last s p && is_first t q))
is_follow (alt s t) p q = is_follow s p q || is_follow t p q
is_follow (star s) p q = is_follow s p q || (is_last s p && is_first s q)
is_follow (plus s) p q = is_follow s p q || (is_last s p && is_first s q)
is_follow (opt s) p q = is_follow s p q

-- f holds of some number below n
abbrev pub any_below : (ℕ → Bool) → ℕ → Bool
any_below f zero = false
any_below f (suc n) = f n || any_below f n

-- nothing was read yet, or these are the places that what was read may have ended at
pub data State : Type 0 where
  unread : State
  at : (ℕ → Bool) → State

-- The automaton of the expression t with n places, where m p e is whether the event e meets the place p.
module _ {K : Type 0} (m : ℕ → K → Bool) (t : Regex ℕ) (n : ℕ) where
  -- the places that may come next
  abbrev pub ahead_of : State → ℕ → Bool
  ahead_of unread q = is_first t q
  ahead_of (at S) q = any_below (λ p. S p && is_follow t p q) n

  -- what was read is in the language
  abbrev pub ended_of : State → Bool
  ended_of unread = takes_empty t
  ended_of (at S) = any_below (λ p. S p && is_last t p) n

  -- the state after one event more
  abbrev pub stepped : State → K → State
  stepped x e = at (λ q. ahead_of x q && m q e)

  -- the state after some events more
  abbrev pub ran : State → List K → State
  ran x [] = x
  ran x (e ∷ w) = ran (stepped x e) w

  -- the state after a list
  abbrev pub after : List K → State
  after w = ran unread w

  -- nothing may come next
  abbrev pub stuck : State → Bool
  stuck x = not (any_below (ahead_of x) n)

-- nothing may come behind the list, in the automaton of the expression t with a place for each leaf
abbrev pub sticks : {K : Type 0} → (ℕ → K → Bool) → Regex ℕ → List K → Bool
sticks m t w = stuck m t (size t) (after m t (size t) w)
