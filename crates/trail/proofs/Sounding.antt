-- A trail whose levels are projections keeps so, and its counts are supports.
use Rattle.std.proofs.Common.{◌≡◌, ℕ, zero, suc, ◌+◌, ◌-◌, ◌<◌, ◌≤◌, ◌≢◌, List, [], ◌∷◌, ◌++◌, length, get_or, take, set, sym, ap, ◌∙◌, ⊎_elim, add-zero, arith, get_or-set_other}
use lib.Seq.{take-set-le}
use Rattle.std.proofs.lemmas.List.{drop_more, take_more_set}
use Rattle.std.proofs.lemmas.Bool.{cases_lt}
use Rattle.event.specs.declared.order.Order.{Order}
use Rattle.matching.specs.Support.{support}
use Rattle.trail.specs.declared.level.Head.{Head}
use Rattle.trail.specs.declared.level.Rows.{Rows}
use Rattle.trail.specs.declared.trail.Trail.{Trail}
use Rattle.trail.specs.Projection.{projection, grown}
use Rattle.trail.specs.Levels.{level, end, Kept, Steps}
use Rattle.trail.specs.Trials.{behind}
use Rattle.trail.specs.Moves.{stands_at, head_at, Same, Unmoved, Deepened}
use Rattle.matching.specs.Picks.{picked}
use Rattle.matching.proofs.Picking.{picked_append}
use Rattle.trail.specs.Sound.{tapes_of, list_of, LevelStands, Sound, support_with}
use Rattle.trail.proofs.Projections.{grows, counts}
use Rattle.trail.proofs.Growing.{entries_kept, length_entries}

module _ {K : Type 0} (lexicon : List K) where
  -- a place in the lexicon has one event
  pub picked_one : (place : ℕ) (d : K) → place < length lexicon → picked lexicon (place ∷ []) ≡ get_or lexicon place d ∷ []
  picked_one place d within = ap (λ (events : List K). take 1 events ++ []) (drop_more lexicon place d within)

  -- and so has the event that is read there
  pub picked_event : (place : ℕ) (event : K) → place < length lexicon → event ≡ get_or lexicon place event → picked lexicon (place ∷ []) ≡ event ∷ []
  picked_event place event within is = picked_one place event within ∙ ap (λ (e : K). e ∷ []) (sym is)

-- the bounds do not fall
rise : (bounds : List ℕ) (depth : ℕ) → Steps bounds depth → (k m : ℕ) → k + m ≤ depth + 1 → get_or bounds k 0 ≤ get_or bounds (k + m) 0
rise bounds depth steps k zero le = rw add-zero (omega arith)
rise bounds depth steps k (suc m) le =
    let r = rise bounds depth steps k m (omega arith) in
    let s = steps (k + m) (omega arith) in
    let z : k + suc m ≡ k + m + 1 = omega arith in
    rw z (omega (arith, s.0))

module _ {K : Type 0} (trail : Trail K) where
  -- the head is that of the deepest level
  head_deepest : head_at trail trail.depth ≡ trail.head
  head_deepest =
      let start = trail.starts in
      let count : get_or trail.bounds (trail.depth + 1) 0 - get_or trail.bounds trail.depth 0 ≡ trail.head.count = omega (arith, trail.starts, trail.ends) in
      ap (λ (n : ℕ). record { start = n; count = get_or trail.bounds (trail.depth + 1) 0 - get_or trail.bounds trail.depth 0 }) (sym start) ∙ ap (λ (n : ℕ). record { start = trail.head.start; count = n }) count

  -- every level ends where the deepest does or before
  live_end : (k : ℕ) → k ≤ trail.depth → end (head_at trail k) ≤ end trail.head
  live_end k le =
      let m : ℕ = trail.depth - k in
      let z : k + 1 + m ≡ trail.depth + 1 = omega arith in
      let r : get_or trail.bounds (k + 1) 0 ≤ get_or trail.bounds (trail.depth + 1) 0 = rw z at (rise trail.bounds trail.depth trail.steps (k + 1) m (omega arith)) in
      let s = trail.steps k le in
      omega (arith, s.0, trail.ends)

  -- what is written behind the levels leaves them
  live_kept : (later : Rows) → Kept (end trail.head) trail.rows later → (k : ℕ) → k ≤ trail.depth → level later (head_at trail k) ≡ level trail.rows (head_at trail k)
  live_kept later kept k le =
      entries_kept (end trail.head) trail.rows later kept (head_at trail k).start (head_at trail k).count (live_end k le)

module _ {K : Type 0} (before after : Trail K) where
  -- a trail that the code has moved by a place
  pub deepened : (place need count : ℕ) → before.depth < 16 → before.depth < length before.list → place < length before.lexicon.now → need ≤ count → after.head ≡ behind before.head count → after.bounds ≡ set before.bounds (before.depth + 1 + 1) (end after.head) → after.list ≡ set before.list before.depth place → after.depth ≡ before.depth + 1 → Kept (end before.head) before.rows after.rows → Deepened before after place need count
  deepened place need count room within known reached head bounds list depth rows =
      record {
        room = room;
        known = known;
        reached = reached;
        head = head;
        bounds = bounds ∙ ap (λ (h : Head). set before.bounds (before.depth + 1 + 1) (end h)) head;
        list = list;
        depth = depth;
        rows = rows;
        stands = rw (depth, list) (take_more_set before.list before.depth place within);
      }

module _ {K : Type 0} (order : K → K → Order) where
  -- the deepest level is the projection of the list
  deepest : (trail : Trail K) → Sound order trail → level trail.rows trail.head ≡ projection order (tapes_of trail) (list_of trail)
  deepest trail sound = ap (level trail.rows) (sym (head_deepest trail)) ∙ sound.levels trail.depth (omega arith)

  -- a trail is sound if its deepest level and those before it stand
  pub sound_from : (trail : Trail K) → ((k : ℕ) → k < trail.depth → LevelStands order trail k) → level trail.rows trail.head ≡ projection order (tapes_of trail) (list_of trail) → Sound order trail
  sound_from trail below here =
      record {
        levels = λ k le.
            ⊎_elim
            (below k)
            (λ (h : trail.depth ≤ k).
            let e : k ≡ trail.depth = omega arith in
            rw e (ap (level trail.rows) (head_deepest trail) ∙ here))
            (cases_lt k trail.depth);
      }

  pub sound_unmoved : (before after : Trail K) → Same before after → Unmoved before after → Sound order before → Sound order after
  sound_unmoved before after same un sound =
      record {
        levels = λ k le.
            let h : k ≤ before.depth = omega (arith, un.depth) in
            rw (same.tapes, same.lexicon, un.bounds, un.list) (live_kept before after.rows un.rows k h ∙ sound.levels k h);
      }

  -- the count of the list, and of the list with one more event
  pub counts_list : (trail : Trail K) → Sound order trail → trail.head.count ≡ support order (tapes_of trail) (list_of trail)
  counts_list trail sound =
      sym (length_entries trail.rows.tapes trail.rows.places trail.head.start trail.head.count)
      ∙ ap length (deepest trail sound)
      ∙ counts order (tapes_of trail) (list_of trail)

  pub counts_grown : (trail : Trail K) → Sound order trail → (event : K) (more : List K) → more ≡ event ∷ [] → length (grown order (tapes_of trail) event (level trail.rows trail.head)) ≡ support_with order trail more
  counts_grown trail sound event more one =
      ap (λ (entries : List (ℕ × ℕ)). length (grown order (tapes_of trail) event entries)) (deepest trail sound)
      ∙ ap length (sym (grows order (tapes_of trail) (list_of trail) event))
      ∙ counts order (tapes_of trail) (list_of trail ++ event ∷ [])
      ∙ ap (support_with order trail) (sym one)

  -- a trail that went deeper to the grown level
  pub sound_deeper : (before after : Trail K) (place need count : ℕ) (event : K) → picked before.lexicon.now (place ∷ []) ≡ event ∷ [] → Same before after → Deepened before after place need count → level after.rows (behind before.head count) ≡ grown order (tapes_of before) event (level before.rows before.head) → Sound order before → Sound order after
  sound_deeper before after place need count event one same deep laid sound = sound_from after below here
    where
      below : (k : ℕ) → k < after.depth → LevelStands order after k
      below k lt =
          let h : k ≤ before.depth = omega (arith, deep.depth) in
          let p : k ≢ before.depth + 1 + 1 = omega arith in
          let q : k + 1 ≢ before.depth + 1 + 1 = omega arith in
          rw (same.tapes, same.lexicon, deep.bounds, deep.list, get_or-set_other before.bounds (before.depth + 1 + 1) k, get_or-set_other before.bounds (before.depth + 1 + 1) (k + 1), take-set-le k before.list before.depth place) (live_kept before after.rows deep.rows k h ∙ sound.levels k h)

      longer : list_of before ++ event ∷ [] ≡ list_of after
      longer =
          ap (λ (more : List K). list_of before ++ more) (sym one)
          ∙ sym (picked_append before.lexicon.now (stands_at before) (place ∷ []))
          ∙ rw (same.lexicon, deep.stands)

      here : level after.rows after.head ≡ projection order (tapes_of after) (list_of after)
      here =
          ap (level after.rows) deep.head
          ∙ laid
          ∙ ap (grown order (tapes_of before) event) (deepest before sound)
          ∙ sym (grows order (tapes_of before) (list_of before) event)
          ∙ ap (projection order (tapes_of before)) longer
          ∙ rw same.tapes
