-- How a session reads its list: each next of it is answered, hands out a pattern of the opening's, and comes nearer to END.
use Rattle.std.proofs.Common.{◌≡◌, ℕ, zero, suc, ◌<◌, ◌≤◌, min, Bool, leb, List, [], ◌∷◌, ◌++◌, map, reverse, length, None, Ok, Option, Result, sym, refl, ap, ◌∙◌, subst, arith}
use mathlib.Core.List.{reverse-cons}
use Rattle.std.specs.List.{flat_map}
use Rattle.std.proofs.lemmas.List.{flat_map_more, length-map, length-reverse}
use Rattle.std.proofs.lemmas.Bool.{le-leb}
use Rattle.event.specs.declared.order.Order.{Order}
use Rattle.event.specs.declared.refusal.Refusal.{Refusal}
use Rattle.event.specs.declared.refusal.Refusal.TheVariants.{Room}
use Rattle.matching.specs.Checks.{unless, or_refused}
use Rattle.matching.specs.Picks.{Within}
use Rattle.filter.specs.Filters.{all_wants}
use Rattle.law.specs.declared.stage.Stage.{Stage}
use Rattle.law.specs.declared.stage.Ask.TheVariants as asks
use Rattle.law.specs.Lists.{remaining, Reads}
use Rattle.law.specs.Openings.{Opening, opening_refusal, world}
use Rattle.law.specs.Order.{AllBelow}
use Rattle.law.specs.Rules.{most_counted, closed, stage_refusal, longest_of, support_of, refused, Eligible, Answered}
use Rattle.law.specs.Transcripts.{Next, Refused, Exchange, Opened, Gave, Ended, Marked, Raised, Besides, refusing, pattern, end, stage, opening, returned, handed_out, latest}
use Rattle.law.proofs.Held.{held, Over}
use Rattle.law.proofs.Pairs.{exchanges_are_pairs}
use Rattle.law.proofs.Whole.{remaining_falls, reads_opening, list_is_whole}
use Rattle.search.specs.Walks.{at}
use Rattle.session.specs.declared.session.Session.{Session}
use Rattle.session.specs.Sessions.{Stands, Follows, Extends}
use Rattle.session.proofs.Limits.{fits}
use Rattle.session.proofs.Refusing.{first_passes, last_decides, some_none}
use Rattle.catalog.specs.Readings.{returned_text, ReadSoFar, ReadToEnd}
use Rattle.catalog.specs.Replies.{listed, listed_text}

joined_map : {X Y : Type 0} (f : Y → List ℕ) (g : X → Y) (xs : List X) → flat_map f (map g xs) ≡ flat_map (λ x. f (g x)) xs
joined_map f g [] = refl
joined_map f g (x ∷ xs) = ap (λ (l : List ℕ). f (g x) ++ l) (joined_map f g xs)

-- each place of a pattern is in the lexicon
pub within : (n : ℕ) (p : List ℕ) → AllBelow n p → Within p n
within n [] a k h = absurd (omega arith)
within n (x ∷ p) a zero h = a.0
within n (x ∷ p) a (suc k) h = within n p a.1 k (omega arith)

module _ {K : Type 0} (order : K → K → Order) (o : Opening K) where
  -- the opening whose list is read was not refused
  accepted : (h : List (Exchange (Opening K) K)) → Answered (world order) h → Reads all_wants o h → opening_refusal order o ≡ None
  accepted [] a r = absurd r
  accepted (Opened p ∷ h) a r = subst (λ (x : Opening K). opening_refusal order x ≡ None) r a.0
  accepted (Gave v m p s ∷ h) a r = accepted h a.1 r.1
  accepted (Ended v m ∷ h) a r = accepted h a.1 r.1
  accepted (Marked ∷ h) a r = absurd r
  accepted (Raised t ∷ h) a r = absurd r
  accepted (Besides x ∷ h) a r = accepted h a.1 r

  opened : (h : List (Exchange (Opening K) K)) → Reads all_wants o h → closed (stage h) ≡ None
  opened [] r = absurd r
  opened (Opened p ∷ h) r = refl
  opened (Gave v m p s ∷ h) r = refl
  opened (Ended v m ∷ h) r = refl
  opened (Marked ∷ h) r = absurd r
  opened (Raised t ∷ h) r = absurd r
  opened (Besides x ∷ h) r = opened h r

  module _ (s : Session K) (h : List (Exchange (Opening K) K)) (st : Stands order s h) (r : Reads all_wants o h) where
    pub short : o.longest ≤ 16
    short = (fits order o (accepted h st.answered r)).longest

    -- a next with a row of 16 places is not refused
    next_answered : (m : ℕ) → 16 ≤ m → refused (world order) h (Next all_wants m) ≡ None
    next_answered m l =
        let few : o.longest ≤ m = omega (arith, short) in
        let room = unless (leb (longest_of (world order) (opening h)) m) Room in
        first_passes (closed (stage h)) (room ∷ []) (opened h r)
        ∙ last_decides room
        ∙ ap (λ (b : Bool). unless b Room) (ap (λ (x : Option (Opening K)). leb (longest_of (world order) x) m) (reads_opening (world order) all_wants o h r) ∙ le-leb o.longest m few)

    module _ (t : Session K) (m : ℕ) where
      abbrev Goes : Exchange (Opening K) K → Type 0
      Goes x = Stands order t (x ∷ h)

      pub never_refused : 16 ≤ m → (f : Refusal) → Follows order (Next all_wants m) (refusing f) t h → ⊥
      never_refused l f x =
          let e = exchanges_are_pairs (Opening K) K x.said (Besides (Refused (Next all_wants m) f)) x.asks x.gets in
          some_none f (sym (subst Goes e x.stands).answered.0 ∙ next_answered m l)

      pub comes_to_end : Follows order (Next all_wants m) end t h → Stands order t (Ended all_wants m ∷ h)
      comes_to_end x = subst Goes (exchanges_are_pairs (Opening K) K x.said (Ended all_wants m) x.asks x.gets) x.stands

      module _ (p : List ℕ) (n : ℕ) (x : Follows order (Next all_wants m) (pattern p n) t h) where
        pub hands_out : Stands order t (Gave all_wants m p n ∷ h)
        hands_out = subst Goes (exchanges_are_pairs (Opening K) K x.said (Gave all_wants m p n) x.asks x.gets) x.stands

        pub eligible : Eligible (world order) o h all_wants p
        eligible = (held (opening h) _ o (reads_opening (world order) all_wants o h r) hands_out.answered.0.2).0.0

        -- the session stands at what it handed out
        pub stands_at : at t.walk ≡ p
        stands_at = hands_out.remembers.latest (λ e. subst Over (sym e ∙ hands_out.remembers.stage) tt)

        -- and fewer patterns come after it than before
        pub nearer : remaining (length o.lexicon) o.longest (at t.walk) < remaining (length o.lexicon) o.longest (at s.walk)
        nearer =
            let now-at = stands_at in
            let was-at : at s.walk ≡ latest h = st.remembers.latest (λ e. hands_out.answered.0.1 (sym st.remembers.stage ∙ e)) in
            let less = remaining_falls (length o.lexicon) o.longest (latest h) p eligible.pattern eligible.after in
            subst (λ (q : List ℕ). remaining (length o.lexicon) o.longest (at t.walk) < remaining (length o.lexicon) o.longest q) (sym was-at)
            (subst (λ (q : List ℕ). remaining (length o.lexicon) o.longest q < remaining (length o.lexicon) o.longest (latest h)) (sym now-at) less)

  module _ (label : K → List ℕ) where
    -- one more line for one more pattern
    pub read_more : (s t : Session K) (was is more : List ℕ) (x : ReadSoFar order label o s was is) (m : ℕ) (p : List ℕ) (n : ℕ) → Stands order t (Gave all_wants m p n ∷ x.transcript) → more ≡ is ++ returned_text label o.lexicon (p, n) → ReadSoFar order label o t was more
    read_more s t was is more x m p n st e =
        let f = returned_text label o.lexicon in
        let rs = returned x.transcript in
        record {
          transcript = Gave all_wants m p n ∷ x.transcript;
          stands = st;
          reads = (refl, x.reads);
          text =
              e
              ∙ ap (λ (l : List ℕ). l ++ f (p, n)) x.text
              ∙ flat_map_more f was (reverse rs) (p, n)
              ∙ ap (λ (l : List (List ℕ × ℕ)). was ++ flat_map f l) (sym (reverse-cons (p, n) rs));
        }

    -- no line for END
    pub read_to_end : (s t : Session K) (was is : List ℕ) → ReadSoFar order label o s was is → (m : ℕ) → Extends order (Next all_wants m) end s t → ReadToEnd order label o t was is
    read_to_end s t was is x m e =
        record {
          list =
              record {
                transcript = Ended all_wants m ∷ x.transcript;
                stands = comes_to_end s x.transcript x.stands x.reads t m (e x.transcript x.stands);
                reads = (refl, x.reads);
                text = x.text;
              };
          ended = refl;
        }

    module _ (s : Session K) (was is : List ℕ) (x : ReadToEnd order label o s was is) where
      whole : reverse (returned x.list.transcript) ≡ map (λ q. (q, support_of (world order) o q)) (listed order o)
      whole = list_is_whole (world order) x.list.transcript all_wants o x.list.stands.answered x.list.reads x.ended

      -- read to END, the text has the line of each pattern that is listed
      pub whole_text : is ≡ was ++ flat_map (listed_text order label o) (listed order o)
      whole_text =
          x.list.text
          ∙ ap (λ (l : List (List ℕ × ℕ)). was ++ flat_map (returned_text label o.lexicon) l) whole
          ∙ ap (λ (l : List ℕ). was ++ l) (joined_map (returned_text label o.lexicon) (λ q. (q, support_of (world order) o q)) (listed order o))

      -- and so many were handed out
      pub whole_count : length (handed_out x.list.transcript) ≡ length (listed order o)
      whole_count =
          let rs = returned x.list.transcript in
          length-map rs (λ y. y.0)
          ∙ sym (length-reverse rs)
          ∙ ap length whole
          ∙ length-map (listed order o) (λ q. (q, support_of (world order) o q))

      -- which is what the session tells
      pub whole_told : (r : Result (ℕ × ℕ) Refusal) → r ≡ or_refused (stage_refusal s.stage asks.Tell) (s.threshold, s.count) → r ≡ Ok (s.threshold, min (length (listed order o)) most_counted)
      whole_told r is =
          let st = x.list.stands.remembers in
          is
          ∙ ap (λ (g : Stage). or_refused (stage_refusal g asks.Tell) (s.threshold, s.count)) (st.stage ∙ x.ended)
          ∙ ap (λ (n : ℕ). Ok (s.threshold, n)) (st.count ∙ ap (λ (n : ℕ). min n most_counted) whole_count)
