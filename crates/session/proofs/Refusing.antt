-- Checks that refuse or pass, and the exit of a `?`.
use Rattle.std.proofs.Common.{◌≡◌, Bool, true, false, List, [], ◌∷◌, IsErrAnd, Some, None, Ok, Err, Option, Result, sym, refl, ap, ◌∙◌, subst}
use Rattle.std.proofs.lemmas.Result.{err_from_is_err_and}
use Rattle.event.specs.declared.refusal.Refusal.{Refusal}
use Rattle.matching.specs.Checks.{or_refused, unless, first_wrong}
use Rattle.session.specs.Calls.{refusal_in}

-- the exit of a `?`
pub exits : {X : Type 0} (r : Result X Refusal) (f : Refusal) → IsErrAnd r (λ y. y ≡ f) → r ≡ Err f
exits r f h = let p = err_from_is_err_and r h in p.1 ∙ ap Err p.2

refusal_or : {X : Type 0} (o : Option Refusal) (x : X) → refusal_in (or_refused o x) ≡ o
refusal_or None x = refl
refusal_or (Some r) x = refl

-- a check that answered a refusal found it, and one that answered else found none
pub refused_by : {X : Type 0} (o : Option Refusal) (x : X) (r : Result X Refusal) → r ≡ or_refused o x → (f : Refusal) → r ≡ Err f → o ≡ Some f
refused_by o x r e f h = sym (refusal_or o x) ∙ ap refusal_in (sym e ∙ h)

pub passed_by : {X : Type 0} (o : Option Refusal) (x : X) (r : Result X Refusal) → r ≡ or_refused o x → (y : X) → r ≡ Ok y → o ≡ None
passed_by o x r e y h = sym (refusal_or o x) ∙ ap refusal_in (sym e ∙ h)

-- of some checks, the first refuses, or the others decide
pub first_refuses : (a : Option Refusal) (more : List (Option Refusal)) (f : Refusal) → a ≡ Some f → first_wrong (a ∷ more) ≡ Some f
first_refuses a more f e = ap (λ (o : Option Refusal). first_wrong (o ∷ more)) e

pub first_passes : (a : Option Refusal) (more : List (Option Refusal)) → a ≡ None → first_wrong (a ∷ more) ≡ first_wrong more
first_passes a more e = ap (λ (o : Option Refusal). first_wrong (o ∷ more)) e

pub last_decides : (a : Option Refusal) → first_wrong (a ∷ []) ≡ a
last_decides None = refl
last_decides (Some f) = refl

abbrev IsNone : Option Refusal → Type 0
IsNone None = Unit {0}
IsNone (Some f) = ⊥

pub some_none : (f : Refusal) → Some f ≡ None → ⊥
some_none f e = subst IsNone (sym e) tt

-- of three checks that pass, each does
pub all_pass : (a b c : Option Refusal) → first_wrong (a ∷ b ∷ c ∷ []) ≡ None → (a ≡ None) × (b ≡ None) × (c ≡ None)
all_pass None None None e = (refl, refl, refl)
all_pass None None (Some f) e = absurd (some_none f e)
all_pass None (Some f) c e = absurd (some_none f e)
all_pass (Some f) b c e = absurd (some_none f e)

-- a check that passes was true
pub passes : (b : Bool) (f : Refusal) → unless b f ≡ None → b ≡ true
passes true f e = refl
passes false f e = absurd (some_none f e)
