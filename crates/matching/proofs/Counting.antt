-- The support of a pattern: tape by tape, and under a longer pattern.
use Rattle.std.specs.List.{filter, range_with_len}
use Rattle.std.proofs.Common.{◌≡◌, ℕ, zero, suc, ◌+◌, ◌<◌, ◌≤◌, Bool, true, false, cond, List, [], ◌∷◌, ◌++◌, length, get_or, drop, sym, refl, ap, ◌∙◌, arith}
use Rattle.std.proofs.lemmas.List.{at_drop_more, at_drop_all}
use Rattle.std.proofs.lemmas.Bool.{false≢true}
use Rattle.event.specs.declared.order.Order.{Order}
use Rattle.matching.specs.Inclusion.{includes}
use Rattle.matching.specs.Support.{support, SupportFalls}
use Rattle.matching.proofs.Reaching.{begins}

-- one tape counts at most once, and no more than a test that holds where its own does
once : (b : Bool) → cond b 1 0 ≤ 1
once true = omega arith
once false = omega arith

no_more : (b c : Bool) → (b ≡ true → c ≡ true) → cond b 1 0 ≤ cond c 1 0
no_more true true h = omega arith
no_more true false h = absurd (false≢true (h refl))
no_more false true h = omega arith
no_more false false h = omega arith

module _ {K : Type 0} (order : K → K → Order) where
  falls : (tapes : List (List K)) (pattern more : List K) → support order tapes (pattern ++ more) ≤ support order tapes pattern
  falls [] pattern more = omega arith
  falls (tape ∷ tapes) pattern more =
      let h = no_more (includes order tape (pattern ++ more)) (includes order tape pattern) (begins order tape pattern more) in
      let i = falls tapes pattern more in
      omega arith

  pub bounded : (tapes : List (List K)) (pattern : List K) → support order tapes pattern ≤ length tapes
  bounded [] pattern = omega arith
  bounded (tape ∷ tapes) pattern = let h = once (includes order tape pattern) in let i = bounded tapes pattern in omega arith

  pub support_falls : SupportFalls order
  support_falls = record { begins = begins order; falls = falls; bounded = bounded }

  -- one turn, and the end
  support_more : (tapes : List (List K)) (pattern : List K) (i : ℕ) (tape : List K) → i < length tapes → tape ≡ get_or tapes i [] → support order (drop i tapes) pattern ≡ cond (includes order tape pattern) 1 0 + support order (drop (i + 1) tapes) pattern
  support_more tapes pattern i tape h is =
      at_drop_more (λ (ts : List (List K)). support order ts pattern) tapes i [] h
      ∙ ap (λ (t : List K). cond (includes order t pattern) 1 0 + support order (drop (i + 1) tapes) pattern) (sym is)

  support_all : (tapes : List (List K)) (pattern : List K) (i : ℕ) → length tapes ≤ i → support order (drop i tapes) pattern ≡ 0
  support_all tapes pattern i h = at_drop_all (λ (ts : List (List K)). support order ts pattern) tapes i h

  -- the count over the numbers of the tapes
  module _ (tapes : List (List K)) (pattern : List K) where
    abbrev including : ℕ → ℕ → List ℕ
    including i n = filter (λ number. includes order (get_or tapes number []) pattern) (range_with_len i n)

    support_from : (i n : ℕ) → i + n ≡ length tapes → length (including i n) ≡ support order (drop i tapes) pattern
    support_from i zero h = sym (support_all tapes pattern i (omega arith))
    support_from i (suc n) h =
        by_test (includes order (get_or tapes i []) pattern) (support_from (i + 1) n (omega arith))
        ∙ sym (support_more tapes pattern i (get_or tapes i []) (omega arith) refl)
      where
        by_test : (t : Bool) → length (including (i + 1) n) ≡ support order (drop (i + 1) tapes) pattern → length (cond t (i ∷ including (i + 1) n) (including (i + 1) n)) ≡ cond t 1 0 + support order (drop (i + 1) tapes) pattern
        by_test true e = omega arith
        by_test false e = omega arith

    pub support_counted : (n : ℕ) → n ≡ length tapes → length (including 0 n) ≡ support order tapes pattern
    support_counted n h = support_from 0 n (omega arith)
