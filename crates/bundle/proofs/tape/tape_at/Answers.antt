use Rattle.std.proofs.Common.{◌≡◌, ℕ, ◌+◌, ◌<◌, ◌≤◌, ◌⊎◌, min, List, length, get_or, drop, sym, ap, ◌∙◌, ⊎_elim, arith}
use Rattle.std.proofs.lemmas.List.{take_rest, length-drop, get_or-drop}
use Rattle.bundle.proofs.Cuts.{tape_between, tape_past, between_within}
use Rattle.bundle.proofs.tape.tape_at.Goals as goal
use Rattle.bundle.proofs.tape.tape_at.Goals.{in_default-via-in-Some+then-get-lt2, in_default-via-in_default}

-- what begins at a place and goes to the end is missing only where the place is past the end
past_end : (from n : ℕ) → (n < from) ⊎ (n < n) → n < from
past_end from n e = ⊎_elim (λ (h : n < from). h) (λ (h : n < n). absurd (omega arith)) e

pub returns-in_default-clause-tape : goal.returns-in_default-clause-tape
returns-in_default-clause-tape g c =
    let past : length c.args.offsets.now ≤ c.args.number + 1 =
    elim c.in_default.branch [ in_default-via-in-Some+then-get-lt2 w ↦ grind (arith, c.get.ensures.lookup) | in_default-via-in_default w ↦ omega (arith, past_end c.args.number (length c.args.offsets.now) (rw w.in_default.is at c.get.ensures.lookup).0) ] in
    sym (tape_past c.args.events.now c.args.offsets.now c.args.number past)

pub returns-clause-tape : goal.returns-clause-tape
returns-clause-tape g c =
    let events = c.args.events.now in
    let os = c.args.offsets.now in
    let t = c.args.number in
    let rest = c.in-Some-len2-up.field-0.now in
    let behind : rest ≡ drop t os = c.in-Some-len2-up.ensures.lookup.0.2 ∙ take_rest os t in
    let from : get_or rest 0 0 ≡ get_or os t 0 =
    ap (λ (l : List ℕ). get_or l 0 0) behind ∙ get_or-drop t os 0 0 ∙ ap (λ (k : ℕ). get_or os k 0) (omega arith) in
    let to : get_or rest 1 0 ≡ get_or os (t + 1) 0 = ap (λ (l : List ℕ). get_or l 1 0) behind ∙ get_or-drop t os 1 0 in
    let within : t + 1 < length os = omega (arith, ap length behind, length-drop t os) in
    between_within events (get_or os t 0) (get_or os (t + 1) 0) c.min-from.result c.min-to.result (c.min-to.ensures ∙ ap (λ (n : ℕ). min n (length events)) to) (c.min-from.ensures ∙ ap (λ (n : ℕ). min n c.min-to.result) from)
    ∙ sym (tape_between events os t within)
