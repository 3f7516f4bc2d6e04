-- What reading a text answers, by what reading its marks did.
use Rattle.std.proofs.Common.{◌≡◌, ℕ, ◌≤◌, List, length, Some, Option, sym, ap, ◌∙◌, subst}
use Rattle.std.proofs.lemmas.Bool.{cond-true, le-leb}
use Rattle.regular.specs.declared.node.Node.{Node}
use Rattle.regular.specs.Expressions.{tree_of, labels_of}
use Rattle.regular.specs.Trees.{tree}
use Rattle.grammar.specs.declared.mark.ReadFault.{ReadFault}
use Rattle.grammar.specs.declared.mark.ReadFault.TheVariants.{Mark as MarkFault, Size as LargeFault, Memory as NoMemory}
use Rattle.grammar.specs.Faults.{fault_of}
use Rattle.grammar.specs.Grammar.{Reads, expression}
use Rattle.grammar.specs.Readings.{Whole, NotWhole}
use Rattle.expression.specs.declared.matches.Matches.{Matches}
use Rattle.expression.specs.Marks.{marks_in, leaves_in}
use Rattle.expression.specs.Faults.{placed, text_fault, error_at, ReadAs, NotRead}

module _ {K : Type 0} (labelled : List ℕ → Option K) (text : List ℕ) (small : length text ≤ 256) where
  faulty : text_fault labelled text ≡ placed text (fault_of (marks_in labelled text))
  faulty = cond-true _ (placed text (fault_of (marks_in labelled text))) (Some _) (le-leb (length text) 256 small)

  of_marks : (f : ReadFault) → NotWhole (marks_in labelled text) f → NotRead labelled text (error_at text f)
  of_marks (MarkFault i) h = faulty ∙ ap (placed text) h
  of_marks LargeFault h = faulty ∙ ap (placed text) h.1
  of_marks NoMemory h = tt

  pub not_read : (cut : List ℕ) (f : ReadFault) → cut ≡ text → NotWhole (marks_in labelled cut) f → NotRead labelled text (error_at cut f)
  not_read cut f e = subst (λ (t : List ℕ). NotWhole (marks_in labelled t) f → NotRead labelled text (error_at t f)) (sym e) (of_marks f)

  whole_read : (ns : List Node) (root : ℕ) (m : Matches K) → tree_of m.expression ≡ tree ns root → Whole (marks_in labelled text) ns root → labels_of m.expression ≡ leaves_in labelled text → ReadAs labelled text m
  whole_read ns root m t w l =
      record {
        faultless = faulty ∙ ap (placed text) w.faultless;
        labels = l;
        leaves = w.leaves;
        reads = subst (Reads (marks_in labelled text) expression 0 (length (marks_in labelled text)) 0 w.leaves) (sym t) w.reads;
      }

  pub read_as : (cut : List ℕ) (ns : List Node) (root : ℕ) (m : Matches K) → cut ≡ text → Whole (marks_in labelled cut) ns root → tree_of m.expression ≡ tree ns root
      → labels_of m.expression ≡ leaves_in labelled cut → ReadAs labelled text m
  read_as cut ns root m e w t =
      subst (λ (x : List ℕ). Whole (marks_in labelled x) ns root → labels_of m.expression ≡ leaves_in labelled x → ReadAs labelled text m) (sym e) (whole_read ns root m t) w
