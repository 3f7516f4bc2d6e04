-- A tape includes a pattern exactly if it stands at strictly rising places.
use Rattle.std.proofs.Common.{◌≡◌, ℕ, zero, suc, ◌+◌, ◌-◌, ◌<◌, ◌≤◌, true, List, [], ◌∷◌, length, get_or, is_some, Some, None, Option, refl, ap, ⊎_elim, arith}
use Rattle.std.proofs.lemmas.Bool.{cases_lt}
use Rattle.event.specs.declared.order.Order.{Order}
use Rattle.event.specs.declared.order.Order.TheVariants.{Alike}
use Rattle.matching.specs.Inclusion.{place_after, reach_from, InclusionIsEmbedding}
use Rattle.matching.proofs.Reaching.{reach_none}
use Rattle.matching.proofs.Searching.{Next, next_after, none_after}

module _ {K : Type 0} (order : K → K → Order) (tape : List K) where
  -- a pattern stands at these places, from a place on
  record Stands (from : ℕ) (pattern : List K) (places : List ℕ) : Type 0 where
    each : length places ≡ length pattern
    low : (i : ℕ) → i < length places → from ≤ get_or places i 0
    rise : (i j : ℕ) → i < j → j < length places → get_or places i 0 < get_or places j 0
    within : (i : ℕ) → i < length places → get_or places i 0 < length tape
    same : (i : ℕ) (d : K) → i < length places → order (get_or tape (get_or places i 0) d) (get_or pattern i d) ≡ Alike

  nothing : (from : ℕ) → Stands from [] []
  nothing from =
      record {
        each = refl;
        low = λ i b. absurd (omega arith);
        rise = λ i j a b. absurd (omega arith);
        within = λ i b. absurd (omega arith);
        same = λ i d b. absurd (omega arith);
      }

  -- one more event in front
  in_front : (from place : ℕ) (e : K) (es : List K) (ps : List ℕ) → Next order tape from e place → Stands place es ps → Stands from (e ∷ es) ((place - 1) ∷ ps)
  in_front from place e es ps n f = record { each = ap suc f.each; low = low; rise = rise; within = within; same = same }
    where
      low : (i : ℕ) → i < suc (length ps) → from ≤ get_or ((place - 1) ∷ ps) i 0
      low zero h = omega (arith, n.past)
      low (suc i) h = omega (arith, n.past, f.low i (omega arith))

      rise : (i j : ℕ) → i < j → j < suc (length ps) → get_or ((place - 1) ∷ ps) i 0 < get_or ((place - 1) ∷ ps) j 0
      rise zero zero a b = absurd (omega arith)
      rise zero (suc j) a b = omega (arith, n.past, f.low j (omega arith))
      rise (suc i) zero a b = absurd (omega arith)
      rise (suc i) (suc j) a b = f.rise i j (omega arith) (omega arith)

      within : (i : ℕ) → i < suc (length ps) → get_or ((place - 1) ∷ ps) i 0 < length tape
      within zero h = omega (arith, n.past, n.inside)
      within (suc i) h = f.within i (omega arith)

      same : (i : ℕ) (d : K) → i < suc (length ps) → order (get_or tape (get_or ((place - 1) ∷ ps) i 0) d) (get_or (e ∷ es) i d) ≡ Alike
      same zero d h = n.same d
      same (suc i) d h = f.same i d (omega arith)

  found_from : (from : ℕ) (pattern : List K) → is_some (reach_from order tape (Some from) pattern) ≡ true → (places : List ℕ) × Stands from pattern places
  found_from from [] h = ([], nothing from)
  found_from from (e ∷ es) h = by_place (place_after order tape from e) refl h (λ place. found_from place es)
    where
      by_place : (o : Option ℕ) → place_after order tape from e ≡ o → is_some (reach_from order tape o es) ≡ true → ((place : ℕ) → is_some (reach_from order tape (Some place) es) ≡ true → (places : List ℕ) × Stands place es places) → (places : List ℕ) × Stands from (e ∷ es) places
      by_place (Some place) is k later =
          let f = later place k in ((place - 1) ∷ f.0, in_front from place e es f.0 (next_after order tape from e place is) f.1)
      by_place None is k later =
          absurd (let r = ap is_some (reach_none order tape es) in let z : ◌≡◌ {A = ℕ} 0 1 = cc in omega arith)

  -- what is behind the first place, from a place on that is not behind it
  behind : (from place : ℕ) (e : K) (es : List K) (q : ℕ) (qs : List ℕ) → Stands from (e ∷ es) (q ∷ qs) → place ≤ q + 1 → Stands place es qs
  behind from place e es q qs f h =
      record {
        each = omega (arith, f.each);
        low = λ i b. omega (arith, f.rise 0 (suc i) (omega arith) (omega arith));
        rise = λ i j a b. f.rise (suc i) (suc j) (omega arith) (omega arith);
        within = λ i b. f.within (suc i) (omega arith);
        same = λ i d b. f.same (suc i) d (omega arith);
      }

  placed_from : (from : ℕ) (pattern : List K) (places : List ℕ) → Stands from pattern places → is_some (reach_from order tape (Some from) pattern) ≡ true
  placed_from from [] places f = refl
  placed_from from (e ∷ es) [] f = absurd (omega (arith, f.each))
  placed_from from (e ∷ es) (q ∷ qs) f = by_place (place_after order tape from e) refl (λ place s. placed_from place es qs s)
    where
      low : from ≤ q
      low = f.low 0 (omega arith)

      by_place : (o : Option ℕ) → place_after order tape from e ≡ o → ((place : ℕ) → Stands place es qs → is_some (reach_from order tape (Some place) es) ≡ true) → is_some (reach_from order tape o es) ≡ true
      by_place (Some place) is later =
          later place (behind from place e es q qs f (⊎_elim (λ (h : q + 1 < place). absurd ((next_after order tape from e place is).first q e low h (f.same 0 e (omega arith)))) (λ (h : place ≤ q + 1). h) (cases_lt (q + 1) place)))
      by_place None is later = absurd (none_after order tape from e is q e low (f.within 0 (omega arith)) (f.same 0 e (omega arith)))

pub inclusion_is_embedding : {K : Type 0} (order : K → K → Order) → InclusionIsEmbedding order
inclusion_is_embedding order =
    record {
      found = λ tape pattern h.
          let f = found_from order tape 0 pattern h in
          record { places = f.0; each = f.1.each; rise = f.1.rise; within = f.1.within; same = f.1.same };
      placed = λ tape pattern s.
          placed_from order tape 0 pattern s.places (record { each = s.each; low = λ i b. omega arith; rise = s.rise; within = s.within; same = s.same });
    }
