-- What the answer of a check tells.
use Rattle.std.proofs.Common.{◌≡◌, ℕ, Some, None, Err, Option, arith}
use Rattle.bundle.specs.declared.fault.BundleFault.{BundleFault}
use Rattle.bundle.specs.Bundles.{or_fault}

-- what an answer tells of the check
pub some_of_err : {X : Type 0} (o : Option BundleFault) (x : X) (f : BundleFault) → Err f ≡ or_fault o x → o ≡ Some f
some_of_err (Some e) x f h = cc
some_of_err None x f h = absurd (let z : ◌≡◌ {A = ℕ} 0 1 = cc in omega arith)
