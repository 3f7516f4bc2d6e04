-- What the sets of an automaton hold, and those of what was read.
use Rattle.std.specs.Prelude.{◌≡◌, ℕ, ◌<◌, Bool, ◌&&◌, length, vec_items}
use Rattle.regular.specs.Regex.{Regex}
use Rattle.regular.specs.Automata.{takes_empty, is_first, is_last, is_follow, any_below, State, ahead_of, ended_of}
use Rattle.regular.specs.Members.{member, behind}
use Rattle.regular.specs.declared.automaton.Automaton.{Automaton}
use Rattle.regular.specs.declared.reading.Reading.{Reading}

-- the sets are those of the expression t with n places
pub record Made (t : Regex ℕ) (n : ℕ) (a : Automaton) : Type 0 where
  pub each : length (vec_items a.follow) ≡ n
  pub firsts : (p : ℕ) → member a.first p ≡ is_first t p
  pub lasts : (p : ℕ) → member a.last p ≡ is_last t p
  pub empties : a.empty ≡ takes_empty t
  pub follows : (p q : ℕ) → p < n → behind (vec_items a.follow) p q ≡ is_follow t p q

-- the places ahead, and whether what was read is in the language, are those of the state x
pub record Reads {K : Type 0} (m : ℕ → K → Bool) (t : Regex ℕ) (n : ℕ) (x : State) (r : Reading) : Type 0 where
  pub places : (q : ℕ) → member r.ahead q ≡ ahead_of m t n x q
  pub over : r.ended ≡ ended_of m t n x

-- the automaton a with n places goes on from r to r' by an event, where f p is whether it meets the place p
pub record Steps (a : Automaton) (n : ℕ) (f : ℕ → Bool) (r r' : Reading) : Type 0 where
  pub places : (q : ℕ) → member r'.ahead q ≡ any_below (λ p. (member r.ahead p && f p) && behind (vec_items a.follow) p q) n
  pub over : r'.ended ≡ any_below (λ p. (member r.ahead p && f p) && member a.last p) n
