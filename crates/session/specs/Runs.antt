-- Runs: some calls with their answers, as a transcript, and what it keeps.
use Rattle.std.specs.Prelude.{◌≡◌, ℕ, Bool, List, ◌++◌, map, reverse, take, Some, Ok, Err, Result}
use Rattle.event.specs.declared.order.Order.{Order}
use Rattle.event.specs.declared.refusal.Refusal.{Refusal}
use Rattle.law.specs.Law.{Lawful}
use Rattle.law.specs.Openings.{world}
use Rattle.law.specs.Openings as openings
use Rattle.law.specs.Rules.{Answered, PassedAt}
use Rattle.law.specs.Transcripts as law
use Rattle.law.specs.Transcripts.{Exchange, call_of, answer_of, opening}
use Rattle.session.specs.declared.call.Call.{Call}
use Rattle.session.specs.declared.call.Call.TheVariants as calls
use Rattle.session.specs.declared.call.Given.{Given}
use Rattle.session.specs.declared.call.Given.TheVariants as givens
use Rattle.session.specs.declared.places.Places.{Places}
use Rattle.session.specs.Sessions.{opening_of}

-- the places of a list
abbrev pub places_in : Places → List ℕ
places_in places = take places.length places.row

-- a call, where each next has a filter that wants these lists
abbrev pub law_call : {K : Type 0} → (List K → Bool) → Call K → law.Call (openings.Opening K) K
law_call wants (calls.Open opening) = law.Open (opening_of opening)
law_call wants (calls.Next room) = law.Next wants room
law_call wants calls.Skip = law.Skip
law_call wants (calls.Raise threshold) = law.Raise threshold
law_call wants (calls.Probe event) = law.Probe event.now
law_call wants calls.Tell = law.Tell

-- an answer
abbrev pub says : Result Given Refusal → law.Answer
says (Ok givens.Accepted) = law.accepted
says (Ok (givens.Pattern places support)) = law.pattern (places_in places) support
says (Ok givens.End) = law.end
says (Ok (givens.Support support)) = law.counted support
says (Ok (givens.Told threshold count)) = law.told threshold count
says (Err refusal) = law.refusing refusal

-- h is the transcript of the calls and their answers, the newest first
pub record Transcript {K : Type 0} (wants : List K → Bool) (calls : List (Call K)) (answers : List (Result Given Refusal)) (h : List (Exchange (openings.Opening K) K)) : Type 0 where
  pub asked : map call_of (reverse h) ≡ map (law_call wants) calls
  pub given : map answer_of (reverse h) ≡ map says answers

-- the whole law of a run, over the order of the events and what the filter wants
pub record Ran {K : Type 0} (order : K → K → Order) (wants : List K → Bool) (calls : List (Call K)) (answers : List (Result Given Refusal)) : Type 0 where
  -- the calls with these answers are a transcript
  pub transcript : List (Exchange (openings.Opening K) K)
  pub told : Transcript wants calls answers transcript
  -- each call was accepted or refused, and answered, as the rules decide
  pub answered : Answered (world order) transcript
  -- after each answer the law holds of what was since the latest accepted opening
  pub lawful :
      (later h : List (Exchange (openings.Opening K) K)) →
      transcript ≡ later ++ h →
      (o : openings.Opening K) →
      opening h ≡ Some o →
      Lawful (world order) o h
  -- where the law speaks of the filter by which a pattern was passed, that is the filter of the run
  pub filtered :
      (later h : List (Exchange (openings.Opening K) K)) →
      transcript ≡ later ++ h →
      (w : List K → Bool) (t : ℕ) (q : List ℕ) →
      PassedAt (world order) w t h q →
      w ≡ wants
