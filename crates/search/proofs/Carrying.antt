-- What the search carries on from its first turn.
use Rattle.std.proofs.Common.{◌≡◌, ℕ, Bool, List, sym, ◌∙◌, subst}
use Rattle.event.specs.declared.order.Order.{Order}
use Rattle.search.specs.declared.turn.Turn.{Turn}
use Rattle.search.specs.declared.turn.Turn.TheVariants.{Go}
use Rattle.search.specs.declared.walk.Walk.{Walk}
use Rattle.search.specs.Turns.{Limits, Rests, Moves, Turned, Reached}
use Rattle.search.specs.Walks.{at, Sound, support_of, wants_of, limits_of, SameRows}
use Rattle.search.proofs.Passed.{reached_more, turned_same}
use Rattle.search.proofs.Walking.{same_more, same_support, same_wants, same_limits}

module _ {K : Type 0} (order : K → K → Order) (wanted : List K → Bool) (need : ℕ) where
  -- from where the loop began to here: whatever the latest was, how far the search had come then it has come here
  pub record Carries (begun : Walk K) (first : Turn) (here : Walk K) (turn : Turn) : Type 0 where
    pub same : SameRows begun here
    pub sound : Sound order begun → Sound order here
    pub rests : (limits : Limits) → limits ≡ limits_of begun need → Rests limits (at begun) first → Rests limits (at here) turn
    pub reached :
        Sound order begun →
        (limits : Limits) (support : List ℕ → ℕ) (wants : List ℕ → Bool) (latest : List ℕ) (skip : Bool) →
        limits ≡ limits_of begun need →
        support ≡ support_of order begun →
        wants ≡ wants_of wanted begun →
        Reached limits support wants latest skip (at begun) first →
        Reached limits support wants latest skip (at here) turn

  -- one turn more
  pub carries_more : (begun here next : Walk K) (first turn r : Turn) (i : ℕ) → turn ≡ Go i → Carries begun first here turn → SameRows here next → (Sound order here → Sound order next) → Moves (limits_of here need) (at here) i (at next) r → (Sound order here → Turned (limits_of here need) (support_of order here) (wants_of wanted here) (at here) i (at next) r) → Carries begun first next r
  carries_more begun here next first turn r i is carries same sound moves turned =
      let s = carries.same in
      let bounds = same_limits begun here s need in
      record {
        same = same_more begun here next s same;
        sound = λ begins. sound (carries.sound begins);
        rests = λ limits e rests. subst (λ (l : Limits). Rests l (at next) r) (bounds ∙ sym e) moves.rests;
        reached = λ begins limits support wants latest skip e f h reached.
            reached_more limits support wants latest skip (at here) i (at next) r
            (subst (Reached limits support wants latest skip (at here)) is (carries.reached begins limits support wants latest skip e f h reached))
            (turned_same (limits_of here need) limits (support_of order here) support (wants_of wanted here) wants (at here) i (at next) r (bounds ∙ sym e) (same_support begun here s order ∙ sym f) (same_wants begun here s wanted ∙ sym h) (turned (carries.sound begins)));
      }

  -- where a turn has come to
  module _ (walk begun here : Walk K) (first turn r : Turn) (same : SameRows walk begun) (carries : Carries begun first here turn) (is : turn ≡ r) where
    pub rests_here : Rests (limits_of walk need) (at begun) first → Rests (limits_of walk need) (at here) r
    rests_here rests =
        subst (Rests (limits_of walk need) (at here)) is (carries.rests (limits_of walk need) (sym (same_limits walk begun same need)) rests)

    pub reached_here : (skip : Bool) → Sound order begun → Reached (limits_of walk need) (support_of order walk) (wants_of wanted walk) (at walk) skip (at begun) first → Reached (limits_of walk need) (support_of order walk) (wants_of wanted walk) (at walk) skip (at here) r
    reached_here skip sound reached =
        subst (Reached (limits_of walk need) (support_of order walk) (wants_of wanted walk) (at walk) skip (at here)) is
        (carries.reached sound (limits_of walk need) (support_of order walk) (wants_of wanted walk) (at walk) skip (sym (same_limits walk begun same need)) (sym (same_support walk begun same order)) (sym (same_wants walk begun same wanted)) reached)
