-- What is listed of a query and a bundle with its lexicon.
use Rattle.std.specs.Prelude.{ℕ, List, Some, None, Option}
use Rattle.event.specs.declared.order.Order.{Order}
use Rattle.event.specs.declared.refusal.Refusal.{Refusal}
use Rattle.bundle.specs.declared.fault.BundleFault.{BundleFault}
use Rattle.query.specs.declared.line.Query.{Query}
use Rattle.report.specs.declared.fault.ListerFault.{ListerFault}
use Rattle.report.specs.declared.fault.ListerFault.TheVariants as lister

-- of every kind of event, by its order and its labels
pub record Listed : Type 1 where
  -- why nothing is listed, if so
  pub refusal : {K : Type 0} → (K → K → Order) → Query → (offsets : List ℕ) → (events lexicon : List K) → Option Refusal
  -- the lines that are
  pub lines : {K : Type 0} → (K → K → Order) → (K → List ℕ) → Query → (offsets : List ℕ) → (events lexicon : List K) → List ℕ

-- the fault of the bundle, else a refusal of what comes after
abbrev pub then_session : Option BundleFault → Option Refusal → Option ListerFault
then_session (Some f) r = Some (lister.Bundle f)
then_session None (Some r) = Some (lister.Session r)
then_session None None = None
