use Rattle.std.proofs.Common.{◌≡◌, ℕ, ◌-◌, ◌<◌, ◌≤◌, min, List, length, take, drop, sym, ap, ◌∙◌, ⊎_elim, arith}
use Rattle.std.proofs.lemmas.List.{take_all, drop_all, take_rest}
use Rattle.std.proofs.lemmas.Bool.{cases_lt}
use Rattle.event.proofs.span.part.Goals as goal

-- a cut at the end is as good as one past it
drop_min : (n : ℕ) (l : List ℕ) → drop (min n (length l)) l ≡ drop n l
drop_min n l =
    ⊎_elim (λ (h : n < length l). ap (λ (k : ℕ). drop k l) (omega arith)) (λ (h : length l ≤ n). drop_all (min n (length l)) l (omega arith) ∙ sym (drop_all n l h)) (cases_lt n (length l))

take_min : (n : ℕ) (l : List ℕ) → take (min n (length l)) l ≡ take n l
take_min n l =
    ⊎_elim (λ (h : n < length l). ap (λ (k : ℕ). take k l) (omega arith)) (λ (h : length l ≤ n). take_all (min n (length l)) l (omega arith) ∙ sym (take_all n l h)) (cases_lt n (length l))

clipped : (bytes : List ℕ) (start count a b : ℕ) → a ≡ min start (length bytes) → b ≡ min count (length (take (length bytes - a) (drop a bytes))) → take (b - 0) (take (length bytes - a) (drop a bytes)) ≡ take count (drop start bytes)
clipped bytes start count a b ea eb =
    let rest : take (length bytes - a) (drop a bytes) ≡ drop start bytes = take_rest bytes a ∙ ap (λ (n : ℕ). drop n bytes) ea ∙ drop_min start bytes in
    ap (λ (n : ℕ). take n (take (length bytes - a) (drop a bytes))) (let z : b - 0 ≡ min count (length (take (length bytes - a) (drop a bytes))) = omega arith in z)
    ∙ take_min count (take (length bytes - a) (drop a bytes))
    ∙ ap (take count) rest

pub returns : goal.returns
returns c = clipped c.args.bytes.now c.args.span.start c.args.span.length c.min.result c.min-2.result c.min.ensures c.min-2.ensures
