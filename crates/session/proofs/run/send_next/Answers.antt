use Rattle.std.proofs.Common.{◌≡◌, ℕ, List, ◌++◌, length, drop, Ok, Option, Result, sym, subst}
use Rattle.event.specs.declared.refusal.Refusal.{Refusal}
use Rattle.law.specs.Transcripts as law
use Rattle.search.specs.Walks.{at}
use Rattle.session.specs.Calls.{AfterNext, row_after, says_next}
use Rattle.session.specs.Runs.{says}
use Rattle.session.specs.Sessions.{Extends}
use Rattle.session.proofs.Refusing.{exits}
use Rattle.session.proofs.Standing.{front_before}
use Rattle.session.proofs.Wider.{wider_part, part}
use Rattle.session.proofs.run.send_next.Goals as goal

pub returns-in_err-found : goal.returns-in_err-found
returns-in_err-found g c =
    let s = c.args.session.now in
    let t = c.next.new.self in
    let w = g.F.Filter.wants c.args.filter.now in
    let f = c.in_err-found.field-0.0 in
    let out = exits c.from_residual.result f c.from_residual.ensures.1 in
    subst (λ (r : Result _ Refusal). Extends g.K.Kind.order (law.Next w c.args.room) (says r) s t) (sym out)
    (wider_part g.K.Kind.order s t w c.args.room c.min.result (law.refusing f) c.min.ensures c.in_err-found.ensures.extends)

pub returns-in-None : goal.returns-in-None
returns-in-None g c =
    let order = g.K.Kind.order in
    let s = c.args.session.now in
    let t = c.next.new.self in
    let w = g.F.Filter.wants c.args.filter.now in
    let n = length (part c.min.result) in
    wider_part order s t w c.args.room c.min.result law.end c.min.ensures
    (subst (λ (found : Option (ℕ × ℕ)). Extends order (law.Next w n) (says_next (Ok found) c.next.new.row) s t) c.in-None.is c.in_ok-found.ensures.extends)

pub returns-in-Some : goal.returns-in-Some
returns-in-Some g c =
    let order = g.K.Kind.order in
    let s = c.args.session.now in
    let t = c.next.new.self in
    let w = g.F.Filter.wants c.args.filter.now in
    let n = length (part c.min.result) in
    let row = c.next.new.row in
    let left = subst (λ (found : Option (ℕ × ℕ)). AfterNext s t found) c.in-Some.is c.in_ok-found.ensures.after in
    let laid : row ≡ at t.walk ++ drop (length (at t.walk)) (part c.min.result) =
    subst (λ (found : Option (ℕ × ℕ)). row ≡ row_after (Ok found) (at t.walk) (part c.min.result)) c.in-Some.is c.in_ok-found.ensures.row_after in
    let found = subst (λ (found : Option (ℕ × ℕ)). Extends order (law.Next w n) (says_next (Ok found) row) s t) c.in-Some.is c.in_ok-found.ensures.extends in
    wider_part order s t w c.args.room c.min.result _ c.min.ensures
    (subst (λ (p : List ℕ). Extends order (law.Next w n) (law.pattern p c.in-Some.support) s t) (front_before (at t.walk) (part c.min.result) row _ c.in-Some.length left.1 laid) found)
