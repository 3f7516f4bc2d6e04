-- A run's transcript grows with each call.
use Rattle.std.proofs.Common.{◌≡◌, ℕ, ◌+◌, ◌<◌, ◌≤◌, Bool, List, [], ◌∷◌, ◌++◌, map, reverse, length, get_or, take, Result, sym, refl, ap, ◌∙◌, subst}
use mathlib.Core.List.{reverse-cons}
use Rattle.std.proofs.lemmas.List.{take_more, take_all, map_push}
use Rattle.event.specs.declared.order.Order.{Order}
use Rattle.event.specs.declared.refusal.Refusal.{Refusal}
use Rattle.law.specs.Law.{AllAsk}
use Rattle.law.specs.Openings.{Opening, world}
use Rattle.law.specs.Rules.{Answered}
use Rattle.law.specs.Transcripts as law
use Rattle.law.specs.Transcripts.{Exchange, Opened, Gave, Ended, Marked, Raised, Besides, call_of, answer_of}
use Rattle.law.proofs.Filters.{one_filter}
use Rattle.law.proofs.Lawful.{every_run_is_lawful}
use Rattle.session.specs.declared.call.Call.{Call}
use Rattle.session.specs.declared.call.Call.TheVariants as calls
use Rattle.session.specs.declared.call.Given.{Given}
use Rattle.session.specs.declared.session.Session.{Session}
use Rattle.session.specs.Runs.{law_call, says, Transcript, Ran}
use Rattle.session.specs.Sessions.{Stands}

-- one more, at the end of the list and at the head of the transcript
more : {E X Y : Type 0} (f : E → Y) (g : X → Y) (x : E) (h : List E) (xs : List X) (a : X) → map f (reverse h) ≡ map g xs → f x ≡ g a → map f (reverse (x ∷ h)) ≡ map g (xs ++ (a ∷ []))
more f g x h xs a e here =
    ap (map f) (reverse-cons x h) ∙ map_push f (reverse h) x
    ∙ ap (λ (l : List _). l ++ (f x ∷ [])) e
    ∙ ap (λ (y : _). map g xs ++ (y ∷ [])) here
    ∙ sym (map_push g xs a)

module _ {K : Type 0} (wants : List K → Bool) where
  -- a call that asks for no other filter
  abbrev Asks : law.Call (Opening K) K → Type 0
  Asks (law.Open o) = Unit {0}
  Asks (law.Next w m) = w ≡ wants
  Asks law.Skip = Unit {0}
  Asks (law.Raise t) = Unit {0}
  Asks (law.Probe e) = Unit {0}
  Asks law.Tell = Unit {0}

  asks_so : (c : Call K) → Asks (law_call wants c)
  asks_so (calls.Open o) = tt
  asks_so (calls.Next m) = refl
  asks_so calls.Skip = tt
  asks_so (calls.Raise t) = tt
  asks_so (calls.Probe e) = tt
  asks_so calls.Tell = tt

  pub ask_more : (x : Exchange (Opening K) K) (h : List (Exchange (Opening K) K)) (c : Call K) → call_of x ≡ law_call wants c → AllAsk wants h → AllAsk wants (x ∷ h)
  ask_more x h c e all = add x (subst Asks (sym e) (asks_so c))
    where
      add : (x : Exchange (Opening K) K) → Asks (call_of x) → AllAsk wants (x ∷ h)
      add (Opened o) a = all
      add (Gave w m p s) a = (a, all)
      add (Ended w m) a = (a, all)
      add Marked a = all
      add (Raised t) a = all
      add (Besides b) a = all

  -- a part of a transcript asks for no other filter
  ask_part : (later h : List (Exchange (Opening K) K)) → AllAsk wants (later ++ h) → AllAsk wants h
  ask_part [] h a = a
  ask_part (Opened o ∷ l) h a = ask_part l h a
  ask_part (Gave w m p s ∷ l) h a = ask_part l h a.1
  ask_part (Ended w m ∷ l) h a = ask_part l h a.1
  ask_part (Marked ∷ l) h a = ask_part l h a
  ask_part (Raised t ∷ l) h a = ask_part l h a
  ask_part (Besides b ∷ l) h a = ask_part l h a

  module _ (calls : List (Call K)) (i : ℕ) (said : List (Result Given Refusal)) (h : List (Exchange (Opening K) K)) (told : Transcript wants (take i calls) said h) where
    pub told_more : (c : Call K) (a : Result Given Refusal) (x : Exchange (Opening K) K) (later : List (Result Given Refusal)) → i < length calls → c ≡ get_or calls i c → later ≡ said ++ (a ∷ []) → call_of x ≡ law_call wants c → answer_of x ≡ says a → Transcript wants (take (i + 1) calls) later (x ∷ h)
    told_more c a x later lt is pushed e e' =
        let front : take (i + 1) calls ≡ take i calls ++ (c ∷ []) = take_more calls i c lt ∙ ap (λ (d : Call K). take i calls ++ (d ∷ [])) (sym is) in
        record {
          asked = more call_of (law_call wants) x h (take i calls) c told.asked e ∙ ap (map (law_call wants)) (sym front);
          given = more answer_of says x h said a told.given e' ∙ ap (map says) (sym pushed);
        }

    pub ran : (order : K → K → Order) (s : Session K) → Stands order s h → AllAsk wants h → length calls ≤ i → Ran order wants calls said
    ran order s st all le =
        record {
          transcript = h;
          told = subst (λ (cs : List (Call K)). Transcript wants cs said h) (take_all i calls le) told;
          answered = st.answered;
          lawful = λ later part e o is. every_run_is_lawful (world order) later part (subst (λ (l : List (Exchange (Opening K) K)). Answered (world order) l) e st.answered) o is;
          filtered = λ later part e w t q x. one_filter (world order) wants part (ask_part later part (subst (λ (l : List (Exchange (Opening K) K)). AllAsk wants l) e all)) w t q x;
        }
