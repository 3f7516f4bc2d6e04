-- A session's list as it is read and written.
use Rattle.std.specs.Prelude.{◌≡◌, ℕ, List, ◌++◌, reverse}
use Rattle.std.specs.List.{flat_map}
use Rattle.event.specs.declared.order.Order.{Order}
use Rattle.matching.specs.Picks.{picked}
use Rattle.filter.specs.Filters.{all_wants}
use Rattle.law.specs.declared.stage.Stage.TheVariants as stages
use Rattle.law.specs.Lists.{Reads}
use Rattle.law.specs.Openings.{Opening}
use Rattle.law.specs.Transcripts.{Exchange, stage, returned}
use Rattle.session.specs.declared.session.Session.{Session}
use Rattle.session.specs.Sessions.{Stands}
use Rattle.report.specs.Texts.{pattern_text}

-- the line of a pattern, given by its places in a lexicon, and the support that was returned with it
abbrev pub returned_text : {K : Type 0} → (K → List ℕ) → List K → List ℕ × ℕ → List ℕ
returned_text label lexicon x = pattern_text label x.1 (picked lexicon x.0)

module _ {K : Type 0} (order : K → K → Order) (label : K → List ℕ) (o : Opening K) (s : Session K) (was is : List ℕ) where
  -- the session reads a list of the opening, every pattern of which is wanted, and what it returned so far was appended to a text
  pub record ReadSoFar : Type 0 where
    pub transcript : List (Exchange (Opening K) K)
    pub stands : Stands order s transcript
    pub reads : Reads all_wants o transcript
    pub text : is ≡ was ++ flat_map (returned_text label o.lexicon) (reverse (returned transcript))

  -- and it came to END
  pub record ReadToEnd : Type 0 where
    pub list : ReadSoFar
    pub ended : stage list.transcript ≡ stages.Ended
