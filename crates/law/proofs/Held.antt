-- What an option holds, and stages told apart.
use Rattle.std.proofs.Common.{◌≡◌, ℕ, ◌≢◌, ◌⊎◌, Some, None, Option, sym, refl, subst, inl, inr, arith}
use Rattle.law.specs.declared.stage.Stage.{Stage}
use Rattle.law.specs.declared.stage.Stage.TheVariants as stages
use Rattle.law.specs.Rules.{Held}

module _ {A : Type 0} where
  pub some_not_none : (a : A) → Some a ≡ None → ⊥
  some_not_none a e = let z : ◌≡◌ {A = ℕ} 0 1 = cc in omega arith

  -- P of what the option is known to hold
  pub held : (x : Option A) (P : A → Type 0) (a : A) → x ≡ Some a → Held x P → P a
  held x P a e p = subst (λ (y : Option A). Held y P) e p

  pub hold : (x : Option A) (P : A → Type 0) (a : A) → x ≡ Some a → P a → Held x P
  hold x P a e p = subst (λ (y : Option A). Held y P) (sym e) p

  -- what follows from P of anything
  pub held_any : (x : Option A) (P : A → Type 0) (Q : Type 0) → ((a : A) → P a → Q) → Held x P → Q
  held_any None P Q f p = absurd p
  held_any (Some a) P Q f p = f a p

-- the list has ended
abbrev pub Over : Stage → Type 0
Over stages.Made = ⊥
Over stages.Opened = ⊥
Over stages.Listing = ⊥
Over stages.Ended = Unit {0}

pub over_or_not : (s : Stage) → (s ≡ stages.Ended) ⊎ (s ≢ stages.Ended)
over_or_not stages.Made = inr (λ e. subst Over (sym e) tt)
over_or_not stages.Opened = inr (λ e. subst Over (sym e) tt)
over_or_not stages.Listing = inr (λ e. subst Over (sym e) tt)
over_or_not stages.Ended = inl refl
