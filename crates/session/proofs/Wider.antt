-- A next is answered alike with a row of another length, if it is refused alike.
use Rattle.std.proofs.Common.{◌≡◌, ℕ, ◌<◌, ◌≤◌, min, Bool, true, leb, ◌⊎◌, List, [], ◌∷◌, length, take, replicate, sym, refl, ap, ◌∙◌, subst, inl, inr, arith}
use Rattle.std.proofs.lemmas.List.{length-take-le}
use Rattle.std.proofs.lemmas.Bool.{le-leb, lt-leb, cases_lt}
use Rattle.event.specs.declared.order.Order.{Order}
use Rattle.event.specs.declared.refusal.Refusal.TheVariants.{Room}
use Rattle.matching.specs.Checks.{unless, first_wrong}
use Rattle.law.specs.declared.stage.Ask.TheVariants as asks
use Rattle.law.specs.Openings.{Opening, world}
use Rattle.law.specs.Rules.{World, Rule, stage_refusal, refused}
use Rattle.law.specs.States.{State, state_of}
use Rattle.law.specs.Transcripts.{Call, Open, Next, Skip, Raise, Probe, Tell, Answer, Exchange, Opened, Gave, Ended, Marked, Raised, Besides, Refused, Counted, Told, call_of, answer_of}
use Rattle.session.specs.declared.session.Session.{Session}
use Rattle.session.specs.Calls.{next_refusal}
use Rattle.session.specs.Sessions.{Remembers, Extends}
use Rattle.session.proofs.Standing.{next_refused}

module _ {O K : Type 0} where
  abbrev IsNext : Call O K → Type 0
  IsNext (Open o) = ⊥
  IsNext (Next w m) = Unit {0}
  IsNext Skip = ⊥
  IsNext (Raise t) = ⊥
  IsNext (Probe e) = ⊥
  IsNext Tell = ⊥

  abbrev filter_of : Call O K → List K → Bool
  filter_of (Open o) = λ q. true
  filter_of (Next w m) = w
  filter_of Skip = λ q. true
  filter_of (Raise t) = λ q. true
  filter_of (Probe e) = λ q. true
  filter_of Tell = λ q. true

  abbrev room_of : Call O K → ℕ
  room_of (Open o) = 0
  room_of (Next w m) = m
  room_of Skip = 0
  room_of (Raise t) = 0
  room_of (Probe e) = 0
  room_of Tell = 0

  module _ (W : World O K) (h : List (Exchange O K)) (w : List K → Bool) (m n : ℕ) (alike : refused W h (Next w n) ≡ refused W h (Next w m)) where
    -- the exchange with the other row
    abbrev Other : Exchange O K → Type 0
    Other x = (y : Exchange O K) × (call_of y ≡ Next w n) × (answer_of y ≡ answer_of x) × Rule W h y × (state_of W (y ∷ h) ≡ state_of W (x ∷ h))

    never : (c : Call O K) → c ≡ Next w m → (IsNext c → ⊥) → ⊥
    never c e not = not (subst IsNext (sym e) tt)

    other : (x : Exchange O K) → call_of x ≡ Next w m → Rule W h x → Other x
    other (Opened o) e r = absurd (never (Open o) e (λ x. x))
    other (Gave v k p s) e r = (
      Gave v n p s,
      ap (λ (u : List K → Bool). Next u n) (ap filter_of e),
      refl,
      (alike ∙ sym (ap (λ (i : ℕ). refused W h (Next v i)) (ap room_of e)) ∙ r.0, r.1, r.2),
      refl,
    )
    other (Ended v k) e r = (
      Ended v n,
      ap (λ (u : List K → Bool). Next u n) (ap filter_of e),
      refl,
      (alike ∙ sym (ap (λ (i : ℕ). refused W h (Next v i)) (ap room_of e)) ∙ r.0, r.1),
      refl,
    )
    other Marked e r = absurd (never Skip e (λ x. x))
    other (Raised t) e r = absurd (never (Raise t) e (λ x. x))
    other (Besides (Refused c f)) e r = (Besides (Refused (Next w n) f), refl, refl, alike ∙ sym (ap (refused W h) e) ∙ r, refl)
    other (Besides (Counted a s)) e r = absurd (never (Probe a) e (λ x. x))
    other (Besides (Told t k)) e r = absurd (never Tell e (λ x. x))

-- a row of 16 places, and the part of it that is handed over
abbrev pub zeros : List ℕ
zeros = replicate 16 0

abbrev pub part : ℕ → List ℕ
part k = take k zeros

part_length : (k m : ℕ) → k ≡ min m 16 → length (part k) ≡ min m 16
part_length k m e = length-take-le k zeros (omega (arith, e)) ∙ omega (arith, e)

module _ {K : Type 0} (order : K → K → Order) (s t : Session K) where
  -- a row that is longer than the longest length can be gets the same answer as one that is just so long
  same_leb : (l m n : ℕ) → l ≤ 16 → n ≡ min m 16 → leb l m ≡ leb l n
  same_leb l m n short e = by (cases_lt m l)
    where
      by : (m < l) ⊎ (l ≤ m) → leb l m ≡ leb l n
      by (inl lt) = lt-leb l m lt ∙ sym (lt-leb l n (omega (arith, e)))
      by (inr le) = le-leb l m le ∙ sym (le-leb l n (omega (arith, e)))

  wider : (w : List K → Bool) (m n : ℕ) (a : Answer) → n ≡ min m 16 → Extends order (Next w n) a s t → Extends order (Next w m) a s t
  wider w m n a e ext h st =
      let f = ext h st in
      let same : next_refusal s m ≡ next_refusal s n =
      ap (λ (b : Bool). first_wrong (stage_refusal s.stage asks.Next ∷ unless b Room ∷ [])) (same_leb s.walk.longest m n s.walk.short e) in
      let y = other (world order) h w n m (next_refused order s h st w m ∙ same ∙ sym (next_refused order s h st w n)) f.said f.asks f.stands.answered.0 in
      record {
        said = y.0;
        asks = y.1;
        gets = y.2 ∙ f.gets;
        stands =
            record {
              answered = (y.3, st.answered);
              remembers = subst (λ (g : State (Opening K)). Remembers t g) (sym y.4) f.stands.remembers;
              sound = f.stands.sound;
            };
      }

  -- so does the part of a row of 16
  pub wider_part : (w : List K → Bool) (m k : ℕ) (a : Answer) → k ≡ min m 16 → Extends order (Next w (length (part k))) a s t → Extends order (Next w m) a s t
  wider_part w m k a e = wider w m (length (part k)) a (part_length k m e)
