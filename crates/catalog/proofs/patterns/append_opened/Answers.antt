use Rattle.std.proofs.Common.{◌≡◌, ℕ, ◌-◌, min, List, ◌++◌, length, Ok, Result, ap, ◌∙◌, append_assoc}
use Rattle.std.specs.List.{flat_map}
use Rattle.std.proofs.lemmas.Result.{IfOk-weaker}
use Rattle.event.specs.declared.refusal.Refusal.{Refusal}
use Rattle.law.specs.Rules.{most_counted}
use Rattle.session.specs.Sessions.{opening_of}
use Rattle.report.specs.Texts.{head_text, end_text}
use Rattle.catalog.specs.Replies.{listed, listed_text, session_text}
use Rattle.catalog.proofs.Reading.{whole_text, whole_told}
use Rattle.catalog.proofs.patterns.append_opened.Goals as goal

-- three texts, one appended after the other
appended : (was first second third a b c : List ℕ) → a ≡ was ++ first → b ≡ a ++ second → c ≡ b ++ third → c ≡ was ++ (first ++ (second ++ third))
appended was first second third a b c f s t =
    t
    ∙ ap (λ (l : List ℕ). l ++ third) (s ∙ ap (λ (l : List ℕ). l ++ second) f)
    ∙ append_assoc (was ++ first) second third
    ∙ append_assoc was first (second ++ third)

same_second : (r : Result (ℕ × ℕ) Refusal) (a b m n : ℕ) → r ≡ Ok (a, m) → r ≡ Ok (b, n) → m ≡ n
same_second r a b m n e f = let s : ◌≡◌ {A = ℕ × ℕ} (a, m) (b, n) = cc in ap (λ (x : ℕ × ℕ). x.1) s

pub returns : goal.returns
returns g c =
    let order = g.K.Kind.order in
    let label = g.K.Kind.label in
    let o = opening_of c.args.opening.now in
    let was = c.args.page.now in
    let query = c.args.query.now in
    let s = c.append_patterns.new.session in
    let first = c.append_head.new.self in
    let second = c.append_patterns.new.page in
    let third = c.append.new.self in
    let tapes = length o.offsets - 1 in
    let count = min (length (listed order o)) most_counted in
    let head = head_text tapes (length o.events) query.threshold query.longest in
    let read = c.in_ok-append_patterns.ensures in
    let begun : first ≡ was ++ head = c.in_ok-append_head.ensures in
    let list = whole_text order o label s first second read in
    let told : c.in-Ok.count ≡ count = same_second c.tell.result _ s.threshold c.in-Ok.count count c.in-Ok.is (whole_told order o label s first second read c.tell.result c.tell.ensures.answer) in
    IfOk-weaker c.append.result (λ u. third ≡ second ++ end_text c.in-Ok.count) (λ u. third ≡ was ++ (head ++ session_text order label o))
    (λ u e. appended was head (flat_map (listed_text order label o) (listed order o)) (end_text count) first second third begun list (e ∙ ap (λ (n : ℕ). second ++ end_text n) told))
    c.append.ensures

pub returns-in_default : goal.returns-in_default
returns-in_default g c =
    let s = c.append_patterns.new.session in
    let read = c.in_ok-append_patterns.ensures in
    absurd
    (c.in_default.not-Ok _
    (whole_told g.K.Kind.order (opening_of c.args.opening.now) g.K.Kind.label s (c.append_head.new.self) (c.append_patterns.new.page) read c.tell.result c.tell.ensures.answer))
