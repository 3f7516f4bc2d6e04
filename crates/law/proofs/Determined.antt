-- The answers computed are those of the rules, and there are no others.
use Rattle.std.proofs.Common.{◌≡◌, ℕ, Bool, ◌≢◌, ◌⊎◌, List, [], ◌∷◌, ◌++◌, map, Some, None, Option, sym, refl, ap, ◌∙◌, subst, inl, inr}
use Rattle.event.specs.declared.refusal.Refusal.{Refusal}
use Rattle.event.specs.declared.refusal.Refusal.TheVariants.{Closed}
use Rattle.matching.specs.Checks.{first_wrong}
use Rattle.law.specs.declared.stage.Stage.{Stage}
use Rattle.law.specs.declared.stage.Stage.TheVariants as stages
use Rattle.law.specs.declared.stage.Ask.{Ask}
use Rattle.law.specs.declared.stage.Ask.TheVariants as asks
use Rattle.law.specs.Order.{IsFirst}
use Rattle.law.specs.Transcripts.{Call, Open, Next, Skip, Raise, Probe, Tell, Refused, Counted, Told, Exchange, Opened, Gave, Ended, Marked, Raised, Besides, call_of, stage, opening, latest}
use Rattle.law.specs.Rules.{World, Held, stage_refusal, events_of, support_of, refused, Eligible, Rule, Answered}
use Rattle.law.specs.Answers.{next_of, upcoming, support_in, give, accepted, answered_by, answer_to, run, AnswersAreDetermined}
use Rattle.law.proofs.Held.{some_not_none, hold, Over}
use Rattle.law.proofs.Finding.{next_first, next_none, first_next, none_next}

-- the first of several checks that all pass, passes
passes : (x : Option Refusal) (xs : List (Option Refusal)) → first_wrong (x ∷ xs) ≡ None → x ≡ None
passes None xs e = refl
passes (Some r) xs e = absurd (some_not_none r e)

-- the option holds something
abbrev HoldsOne : {A : Type 0} → Option A → Type 0
HoldsOne {A} x = (a : A) × (x ≡ Some a)

one_held : {A : Type 0} (x : Option A) (P : A → Type 0) → Held x P → HoldsOne x
one_held None P p = absurd p
one_held (Some a) P p = (a, refl)

module _ {O K : Type 0} (W : World O K) where
  -- a call that is refused before any opening is accepted only under one
  opened_for : (h : List (Exchange O K)) (ask : Ask) → stage_refusal stages.Made ask ≡ Some Closed → stage_refusal (stage h) ask ≡ None → (stage h ≡ stages.Made) ⊎ HoldsOne (opening h) → HoldsOne (opening h)
  opened_for h ask c r (inl e) =
      absurd (some_not_none Closed (sym c ∙ ap (λ (s : Stage). stage_refusal s ask) (sym e) ∙ r))
  opened_for h ask c r (inr k) = k

  -- from the first accepted opening on there is one that stands
  opened_by : (h : List (Exchange O K)) → Answered W h → (stage h ≡ stages.Made) ⊎ HoldsOne (opening h)
  opened_by [] a = inl refl
  opened_by (Opened o ∷ h) a = inr (o, refl)
  opened_by (Gave w m p s ∷ h) a = inr (one_held (opening h) _ a.0.2)
  opened_by (Ended w m ∷ h) a = inr (opened_for h asks.Next refl (passes _ _ a.0.0) (opened_by h a.1))
  opened_by (Marked ∷ h) a = opened_by h a.1
  opened_by (Raised t ∷ h) a = opened_by h a.1
  opened_by (Besides x ∷ h) a = opened_by h a.1

  hold_support : (x : Option O) (events : O → List K) → HoldsOne x → Held x (λ o. support_in W x events ≡ W.support o (events o))
  hold_support None events k = absurd (some_not_none k.0 (sym k.1))
  hold_support (Some o) events k = refl

  support_held : (x : Option O) (events : O → List K) (s : ℕ) → Held x (λ o. s ≡ W.support o (events o)) → s ≡ support_in W x events
  support_held None events s k = absurd k
  support_held (Some o) events s k = k

  module _ (h : List (Exchange O K)) (w : List K → Bool) (m : ℕ) where
    -- a next is answered by the rules
    given : refused W h (Next w m) ≡ None → stage h ≢ stages.Ended → (o : O) → opening h ≡ Some o → (x : Option (List ℕ)) → next_of W o h w ≡ x → Rule W h (give W (Some o) w m x)
    given r n o e None f = (r, inr (hold (opening h) _ o e (next_none W o h w f)))
    given r n o e (Some p) f = (r, n, hold (opening h) _ o e (next_first W o h w p f, refl))

    give_rule : refused W h (Next w m) ≡ None → (o : O) → opening h ≡ Some o → (g : Stage) → stage h ≡ g → Rule W h (give W (Some o) w m (upcoming W g (Some o) h w))
    give_rule r o e stages.Made f = given r (λ y. subst Over (sym y ∙ f) tt) o e (next_of W o h w) refl
    give_rule r o e stages.Opened f = given r (λ y. subst Over (sym y ∙ f) tt) o e (next_of W o h w) refl
    give_rule r o e stages.Listing f = given r (λ y. subst Over (sym y ∙ f) tt) o e (next_of W o h w) refl
    give_rule r o e stages.Ended f = (r, inl f)

    next_rule : refused W h (Next w m) ≡ None → HoldsOne (opening h) → Rule W h (give W (opening h) w m (upcoming W (stage h) (opening h) h w))
    next_rule r k =
        subst (λ (y : Option O). Rule W h (give W y w m (upcoming W (stage h) y h w))) (sym k.1)
        (give_rule r k.0 k.1 (stage h) refl)

    give_call : (x : Option O) (p : Option (List ℕ)) → call_of (give W x w m p) ≡ Next w m
    give_call x None = refl
    give_call x (Some p) = refl

    -- and in no other way
    gave_is : (p : List ℕ) (s : ℕ) (x : Option O) (g : Stage) → g ≢ stages.Ended → Held x (λ o. IsFirst (Eligible W o h w) p × (s ≡ support_of W o p)) → Gave w m p s ≡ give W x w m (upcoming W g x h w)
    gave_is p s None g n k = absurd k
    gave_is p s (Some o) stages.Made n k = rw (first_next W o h w p k.0, k.1)
    gave_is p s (Some o) stages.Opened n k = rw (first_next W o h w p k.0, k.1)
    gave_is p s (Some o) stages.Listing n k = rw (first_next W o h w p k.0, k.1)
    gave_is p s (Some o) stages.Ended n k = absurd (n refl)

    ended_is : (x : Option O) (g : Stage) → (g ≡ stages.Ended) ⊎ Held x (λ o. (q : List ℕ) → Eligible W o h w q → ⊥) → Ended w m ≡ give W x w m (upcoming W g x h w)
    ended_is None g k = refl
    ended_is (Some o) g (inl e) = rw e
    ended_is (Some o) stages.Made (inr k) = rw (none_next W o h w k)
    ended_is (Some o) stages.Opened (inr k) = rw (none_next W o h w k)
    ended_is (Some o) stages.Listing (inr k) = rw (none_next W o h w k)
    ended_is (Some o) stages.Ended (inr k) = refl

  accepted_rule : (h : List (Exchange O K)) → Answered W h → (c : Call O K) → refused W h c ≡ None → Rule W h (accepted W h c) × (call_of (accepted W h c) ≡ c)
  accepted_rule h a (Open o) r = (r, refl)
  accepted_rule h a (Next w m) r = (
    next_rule h w m r (opened_for h asks.Next refl (passes _ _ r) (opened_by h a)),
    give_call h w m (opening h) (upcoming W (stage h) (opening h) h w),
  )
  accepted_rule h a Skip r = (r, refl)
  accepted_rule h a (Raise t) r = (r, refl)
  accepted_rule h a (Probe e) r =
      ((r, hold_support (opening h) (λ o. events_of W o (latest h) ++ (e ∷ [])) (opened_for h asks.Probe refl r (opened_by h a))), refl)
  accepted_rule h a Tell r = ((r, refl, refl), refl)

  answer_rule : (h : List (Exchange O K)) → Answered W h → (c : Call O K) → Rule W h (answer_to W h c) × (call_of (answer_to W h c) ≡ c)
  answer_rule h a c = go (refused W h c) refl
    where
      go : (x : Option Refusal) → refused W h c ≡ x → Rule W h (answered_by W x h c) × (call_of (answered_by W x h c) ≡ c)
      go None e = accepted_rule h a c e
      go (Some r) e = (e, refl)

  settled : (h : List (Exchange O K)) (c : Call O K) → refused W h c ≡ None → accepted W h c ≡ answer_to W h c
  settled h c r = subst (λ (x : Option Refusal). accepted W h c ≡ answered_by W x h c) (sym r) refl

  unique : (h : List (Exchange O K)) (x : Exchange O K) → Rule W h x → x ≡ answer_to W h (call_of x)
  unique h (Opened o) r = settled h (Open o) r
  unique h (Gave w m p s) r = gave_is h w m p s (opening h) (stage h) r.1 r.2 ∙ settled h (Next w m) r.0
  unique h (Ended w m) r = ended_is h w m (opening h) (stage h) r.1 ∙ settled h (Next w m) r.0
  unique h Marked r = settled h Skip r
  unique h (Raised t) r = settled h (Raise t) r
  unique h (Besides (Refused c k)) r =
      subst (λ (x : Option Refusal). Besides (Refused c k) ≡ answered_by W x h c) (sym r) refl
  unique h (Besides (Counted e s)) r =
      ap (λ (z : ℕ). Besides (Counted e z)) (support_held (opening h) (λ o. events_of W o (latest h) ++ (e ∷ [])) s r.1)
      ∙ settled h (Probe e) r.0
  unique h (Besides (Told t n)) r = let z = settled h Tell r.0 in let a = r.1 in let b = r.2 in cc

  kept : (cs : List (Call O K)) → Answered W (run W cs) × (map call_of (run W cs) ≡ cs)
  kept [] = (tt, refl)
  kept (c ∷ cs) =
      let ih = kept cs in
      let x = answer_rule (run W cs) ih.0 c in
      let e = x.1 in
      let f = ih.1 in
      ((x.0, ih.0), cc)

  only : (h : List (Exchange O K)) → Answered W h → h ≡ run W (map call_of h)
  only [] a = refl
  only (x ∷ h) a = rw (← only h a.1) (ap (λ (y : Exchange O K). y ∷ h) (unique h x a.0))

  pub answers_are_determined : AnswersAreDetermined W
  answers_are_determined = record { kept = kept; only = only }
