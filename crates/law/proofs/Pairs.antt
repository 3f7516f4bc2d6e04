-- An exchange is no more than its call and its answer.
use Rattle.std.proofs.Common.{◌≡◌, refl}
use Rattle.law.specs.Transcripts.{Call, Open, Next, Skip, Raise, Probe, Tell, Refused, Counted, Told, Exchange, Opened, Gave, Ended, Marked, Raised, Besides, Answer, refusing, accepted, pattern, end, counted, told, call_of, answer_of, ExchangesArePairs}

-- the exchange of a call and an answer, where they fit each other
abbrev paired : {O K : Type 0} → Call O K → Answer → Exchange O K
paired c (refusing r) = Besides (Refused c r)
paired c accepted =
    elim c [ Open o ↦ Opened o | Next w m ↦ Marked | Skip ↦ Marked | Raise t ↦ Raised t | Probe e ↦ Marked | Tell ↦ Marked ]
paired c (pattern p s) =
    elim c [ Open o ↦ Marked | Next w m ↦ Gave w m p s | Skip ↦ Marked | Raise t ↦ Marked | Probe e ↦ Marked | Tell ↦ Marked ]
paired c end =
    elim c [ Open o ↦ Marked | Next w m ↦ Ended w m | Skip ↦ Marked | Raise t ↦ Marked | Probe e ↦ Marked | Tell ↦ Marked ]
paired c (counted s) =
    elim c [ Open o ↦ Marked | Next w m ↦ Marked | Skip ↦ Marked | Raise t ↦ Marked | Probe e ↦ Besides (Counted e s) | Tell ↦ Marked ]
paired c (told t n) = Besides (Told t n)

paired_back : {O K : Type 0} (x : Exchange O K) → paired (call_of x) (answer_of x) ≡ x
paired_back (Opened o) = refl
paired_back (Gave w m p s) = refl
paired_back (Ended w m) = refl
paired_back Marked = refl
paired_back (Raised t) = refl
paired_back (Besides (Refused c r)) = refl
paired_back (Besides (Counted e s)) = refl
paired_back (Besides (Told t n)) = refl

pub exchanges_are_pairs : (O K : Type 0) → ExchangesArePairs O K
exchanges_are_pairs O K x y e f = let a = paired_back x in let b = paired_back y in cc
