-- What the facts of an expression say of it.
use Rattle.std.proofs.Common.{◌≡◌, ℕ, Bool, true, false, ◌↔◌, List, [], ◌∷◌, ◌++◌, length, sym, ap, ◌∙◌, arith}
use Rattle.event.specs.declared.order.Order.{Order}
use Rattle.event.specs.declared.order.Order.TheVariants.{Alike}
use Rattle.regular.specs.Regex.{In, Barren}
use Rattle.regular.specs.Automata.{Numbered, after, stuck}
use Rattle.regular.specs.Expressions.{tree_of, labels_of, meets, expression_wants, expression_barren, HasRead}
use Rattle.regular.specs.Machine.{Steps}
use Rattle.regular.specs.Members.{Empty, Below}
use Rattle.regular.specs.declared.expression.Expression.{Expression}
use Rattle.regular.specs.declared.reading.Reading.{Reading}
use Rattle.regular.proofs.Accepting.{decides_in}
use Rattle.regular.proofs.Numbers.{labels_met, numbered_from}
use Rattle.regular.proofs.Readings.{reads_within, step_reads, reads_more, reads_wanted, reads_barren, none_after}
use Rattle.regular.proofs.Runs.{automaton_sticks}

module _ {K : Type 0} (order : K → K → Order) (x : Expression K) where
  numbered_is : Numbered (tree_of x) 0 (length (labels_of x))
  numbered_is = numbered_from (tree_of x) 0 (length (labels_of x)) x.ordered (omega (arith, x.counted))

  -- the automaton has a place for each label, and as many as leaves
  stuck_sized : (list : List K) → stuck (meets order x) (tree_of x) (length (labels_of x)) (after (meets order x) (tree_of x) (length (labels_of x)) list) ≡ expression_barren order x list
  stuck_sized list = ap (λ (n : ℕ). stuck (meets order x) (tree_of x) n (after (meets order x) (tree_of x) n list)) x.counted

  -- no extension of a barren list is wanted
  pub no_extension_wanted : (list : List K) (event : K) (rest : List K) → expression_barren order x list ≡ true → expression_wants order x (list ++ (event ∷ rest)) ≡ false
  no_extension_wanted list event rest h =
      none_after (meets order x) (tree_of x) (length (labels_of x)) numbered_is list (stuck_sized list ∙ h) event rest

  -- a list is wanted exactly if it is in the language
  pub wants_exactly : (list : List K) → (expression_wants order x list ≡ true) ↔ In (meets order x) (tree_of x) list
  wants_exactly list = decides_in (meets order x) (tree_of x) list

  -- and barren exactly if no extension is, where the kind has an event
  pub barren_exactly : ((l : K) → order l l ≡ Alike) → K → (list : List K) → (expression_barren order x list ≡ true) ↔ Barren (meets order x) (tree_of x) list
  barren_exactly itself e list =
      let y = automaton_sticks (meets order x) (tree_of x) (length (labels_of x)) numbered_is (labels_met order itself e (labels_of x)) list in
      (λ h. y.1 (stuck_sized list ∙ h), λ b. sym (stuck_sized list) ∙ y.0 b)

  module _ (list : List K) (r : Reading) (read : HasRead order x list r) where
    pub ended_wants : r.ended ≡ expression_wants order x list
    ended_wants = reads_wanted (meets order x) (tree_of x) (length (labels_of x)) numbered_is list r read

    pub none_ahead_barren : (empty : Bool) → (empty ≡ true) ↔ Empty r.ahead → empty ≡ expression_barren order x list
    none_ahead_barren empty tells =
        reads_barren (meets order x) (tree_of x) (length (labels_of x)) numbered_is list r read empty tells ∙ stuck_sized list

    pub ahead_below : Below r.ahead (length (labels_of x))
    ahead_below = reads_within (meets order x) (tree_of x) (length (labels_of x)) numbered_is _ r read

    -- one event more is read
    pub read_more : (e : K) (r' : Reading) → Steps x.automaton (length (labels_of x)) (λ p. meets order x p e) r r' → HasRead order x (list ++ (e ∷ [])) r'
    read_more e r' steps =
        reads_more (meets order x) (tree_of x) (length (labels_of x)) numbered_is list e r'
        (step_reads (meets order x) (tree_of x) (length (labels_of x)) numbered_is x.automaton x.made _ r r' e read steps)
