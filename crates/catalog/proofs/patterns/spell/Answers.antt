use Rattle.std.proofs.Common.{◌≡◌, ℕ, ◌+◌, ◌<◌, List, [], ◌∷◌, ◌++◌, length, get_or, take, drop, sym, refl, ap, ◌∙◌, subst, append_assoc}
use Rattle.std.proofs.lemmas.List.{append-nil, take_more, drop_more}
use Rattle.matching.specs.Picks.{picked}
use Rattle.catalog.proofs.patterns.spell.Goals as goal

picked_append : {K : Type 0} (events : List K) (ps qs : List ℕ) → picked events (ps ++ qs) ≡ picked events ps ++ picked events qs
picked_append events [] qs = refl
picked_append events (p ∷ ps) qs =
    ap (λ (l : List _). take 1 (drop p events) ++ l) (picked_append events ps qs) ∙ sym (append_assoc (take 1 (drop p events)) (picked events ps) (picked events qs))

-- the events at one place more
picked_more : {K : Type 0} (events : List K) (places : List ℕ) (i : ℕ) (x : K) → i < length places → get_or places i 0 < length events → x ≡ get_or events (get_or places i 0) x → picked events (take (i + 1) places) ≡ picked events (take i places) ++ (x ∷ [])
picked_more {K} events places i x h in_bounds is =
    let p = get_or places i 0 in
    let one : take 1 (drop p events) ≡ x ∷ [] = ap (take 1) (drop_more events p x in_bounds) ∙ ap (λ (y : K). y ∷ []) (sym is) in
    ap (picked events) (take_more places i 0 h)
    ∙ picked_append events (take i places) (p ∷ [])
    ∙ ap (λ (l : List K). picked events (take i places) ++ l) (append-nil (take 1 (drop p events)) ∙ one)

pub loop-place-preserved : goal.loop-place-preserved
loop-place-preserved g c =
    let lexicon = c.args.lexicon.now in
    let places = c.args.places.now in
    let i = c.loop-place.place-index in
    let x = c.index-lexicon-from.result in
    let is = subst (λ (p : ℕ). x ≡ get_or lexicon p x) c.from.ensures c.index-lexicon-from.is in
    c.in_ok-push.ensures.items
    ∙ ap (λ (l : List _). l ++ (x ∷ [])) c.loop-place.invariant
    ∙ sym (picked_more lexicon places i x c.loop-place-test.true (c.requires i c.loop-place-test.true) is)
