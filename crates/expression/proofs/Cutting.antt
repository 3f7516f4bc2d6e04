-- What a loop has gathered, with one more.
use Rattle.std.proofs.Common.{◌≡◌, ℕ, ◌+◌, ◌<◌, List, ◌++◌, length, get_or, drop, Option, Ok, Result, MatchResult, sym, ap, ◌∙◌, append_assoc}
use Rattle.std.specs.Option.{option_to_list}
use Rattle.std.specs.Iterator.{Yields, Drains}
use Rattle.std.specs.Iterator.Adapters.{once_item, once_steps}
use Rattle.std.specs.declared.iter.Once.{Once}
use Rattle.std.proofs.lemmas.Iterator.Adapters.{fact_from_extend, YieldsList-from_once}
use Rattle.std.proofs.lemmas.List.{drop_more, map-id}
use Rattle.std.proofs.lemmas.Result.{IfOk-at_ok}
use Rattle.event.specs.declared.span.Span.{Span}
use Rattle.expression.specs.Cuts.{next_begun, ended, alone, spans_from}

-- after `extend` by one span or none
pub extended : {E : Type 0} {B : Once Span → Type 0} {P : List Span → Type 0} (o : Option Span) (old new : List Span) (r : Result (Unit {0}) E) (u : Unit {0})
    → ((it : Once Span) → B it → once_item it ≡ o) → ((xs : List Span) → P xs → new ≡ old ++ xs)
    → ((it : Once Span) × (xs : List Span) × B it × P xs × MatchResult r (λ _. Drains once_steps it xs) (λ _. (t : Once Span) × Yields once_steps it xs t))
    → r ≡ Ok u → new ≡ old ++ option_to_list o
extended o old new r u b p ran e =
    IfOk-at_ok (λ _. new ≡ old ++ option_to_list o) e
    (fact_from_extend (λ x. x) r ran (λ it h. YieldsList-from_once {s = it} o (b it h)) (λ xs q h. p xs h ∙ ap (λ (l : List Span). old ++ l) (sym (map-id xs) ∙ q)))

-- two more parts of what is left
parted : {X : Type 0} (xs ys zs a b r w : List X) → ys ≡ xs ++ a → zs ≡ ys ++ b → xs ++ (a ++ (b ++ r)) ≡ w → zs ++ r ≡ w
parted xs ys zs a b r w e f h =
    ap (λ (l : List _). l ++ r) (f ∙ ap (λ (l : List _). l ++ b) e)
    ∙ append_assoc (xs ++ a) b r ∙ append_assoc xs a (b ++ r) ∙ h

module _ (text : List ℕ) (at : ℕ) (begun : Option ℕ) (xs : List Span) (whole : List Span) (so : xs ++ spans_from at begun (drop at text) ≡ whole) where
  -- behind one more byte
  pub cut_more : (ys zs : List Span) (p q : Option Span) (next : Option ℕ) → at < length text → ys ≡ xs ++ option_to_list p → zs ≡ ys ++ option_to_list q → p ≡ ended begun at (get_or text at 0) → q ≡ alone begun at (get_or text at 0) → next ≡ next_begun begun at (get_or text at 0) → zs ++ spans_from (at + 1) next (drop (at + 1) text) ≡ whole
  cut_more ys zs p q next lt e f ep eq en =
      let b = get_or text at 0 in
      ap (λ (o : Option ℕ). zs ++ spans_from (at + 1) o (drop (at + 1) text)) en
      ∙ parted xs ys zs (option_to_list (ended begun at b)) (option_to_list (alone begun at b)) (spans_from (at + 1) (next_begun begun at b) (drop (at + 1) text)) whole
      (e ∙ ap (λ (o : Option Span). xs ++ option_to_list o) ep) (f ∙ ap (λ (o : Option Span). ys ++ option_to_list o) eq)
      (ap (λ (l : List ℕ). xs ++ spans_from at begun l) (sym (drop_more text at 0 lt)) ∙ so)
