-- The language, its test and its automaton are one.
use Rattle.std.specs.Prelude.{◌≡◌, ℕ, ◌<◌, Bool, true, ◌↔◌, List}
use Rattle.event.specs.declared.order.Order.{Order}
use Rattle.regular.specs.Regex.{Regex, In, Barren}
use Rattle.regular.specs.Accepts.{accepts}
use Rattle.regular.specs.Automata.{Numbered, leaves, size, number, fits, ended_of, after, stuck}
use Rattle.regular.specs.Labels.{suits}
use Rattle.regular.specs.declared.label.Label.{Label}

-- the test is the language
abbrev pub AcceptsTheLanguage : (A K : Type 0) → Type 0
AcceptsTheLanguage A K = (m : A → K → Bool) (r : Regex A) (w : List K) → (accepts m r w ≡ true) ↔ In m r w

-- the automaton takes the language
abbrev pub AutomatonTakes : (K : Type 0) → Type 0
AutomatonTakes K =
    (m : ℕ → K → Bool) (t : Regex ℕ) (n : ℕ) →
    Numbered t 0 n →
    (w : List K) →
    In m t w ↔ (ended_of m t n (after m t n w) ≡ true)

-- the automaton is stuck exactly where no extension is in the language, if each place is met by an event
abbrev pub AutomatonSticks : (K : Type 0) → Type 0
AutomatonSticks K =
    (m : ℕ → K → Bool) (t : Regex ℕ) (n : ℕ) →
    Numbered t 0 n →
    ((p : ℕ) → p < n → (e : K) × (m p e ≡ true)) →
    (w : List K) →
    Barren m t w ↔ (stuck m t n (after m t n w) ≡ true)

-- the same of an expression with labels and dots at its leaves, read by their numbers
abbrev pub LabelsTaken : {K : Type 0} → (K → K → Order) → Type 0
LabelsTaken {K} order =
    (r : Regex (Label K)) (w : List K) →
    In (suits order) r w
    ↔ (ended_of (fits (suits order) (leaves r)) (number 0 r) (size r) (after (fits (suits order) (leaves r)) (number 0 r) (size r) w) ≡ true)

-- and of the lists with no extension in the language, where the kind has an event
abbrev pub LabelsStick : {K : Type 0} → (K → K → Order) → Type 0
LabelsStick {K} order =
    K → (r : Regex (Label K)) (w : List K) → Barren (suits order) r w ↔ (stuck (fits (suits order) (leaves r)) (number 0 r) (size r) (after (fits (suits order) (leaves r)) (number 0 r) (size r) w) ≡ true)
