-- Why a text is no expression, and what it is read as.
use Rattle.std.specs.Prelude.{◌≡◌, ℕ, cond, List, length, Some, None, Option, nat_le, slice_index_or}
use Rattle.event.specs.declared.refusal.Refusal.{Refusal}
use Rattle.event.specs.declared.refusal.Refusal.TheVariants as refusal
use Rattle.event.specs.declared.span.Span.{Span}
use Rattle.event.specs.Spans.{span}
use Rattle.grammar.specs.declared.mark.ReadFault.{ReadFault}
use Rattle.grammar.specs.declared.mark.ReadFault.TheVariants.{Mark as MarkFault, Size as LargeFault, Memory as NoMemory}
use Rattle.grammar.specs.Faults.{Fault, wrong, large, fault_of}
use Rattle.grammar.specs.Grammar.{Reads, expression}
use Rattle.regular.specs.Expressions.{tree_of, labels_of}
use Rattle.expression.specs.declared.fault.ExpressionFault.{ExpressionFault}
use Rattle.expression.specs.declared.fault.ExpressionFault.TheVariants.{Mark, Size}
use Rattle.expression.specs.declared.fault.ReadError.{ReadError}
use Rattle.expression.specs.declared.fault.ReadError.TheVariants.{Refused, Memory}
use Rattle.expression.specs.declared.matches.Matches.{Matches}
use Rattle.expression.specs.Cuts.{spans_in}
use Rattle.expression.specs.Marks.{marks_in, leaves_in}

-- the refusal that a fault is
abbrev pub refusal_of : ExpressionFault → Refusal
refusal_of (Mark s) = refusal.Mark
refusal_of Size = refusal.Size

-- the mark at fault, if one is
abbrev pub span_of : ExpressionFault → Option Span
span_of (Mark s) = Some s
span_of Size = None

-- the place in a text of the mark with a number, or of the end behind the last
abbrev pub span_at : List ℕ → ℕ → Span
span_at text i = slice_index_or (spans_in text) i (span (length text) 0)

-- what a fault in the marks of a text is for the text
abbrev pub error_at : List ℕ → ReadFault → ReadError
error_at text (MarkFault i) = Refused (Mark (span_at text i))
error_at text LargeFault = Refused Size
error_at text NoMemory = Memory

-- the fault of a text whose marks have a fault
abbrev pub placed : List ℕ → Option Fault → Option ExpressionFault
placed text None = None
placed text (Some (wrong i)) = Some (Mark (span_at text i))
placed text (Some (large i)) = Some Size

module _ {K : Type 0} (labelled : List ℕ → Option K) where
  -- why a text is no expression, if it is none: SIZE if it has over 256 bytes, then the first fault of its marks
  abbrev pub text_fault : List ℕ → Option ExpressionFault
  text_fault text = cond (nat_le (length text) 256) (placed text (fault_of (marks_in labelled text))) (Some Size)

  -- a text has no fault, and was read as an expression of its marks, with its labels and dots at the leaves
  pub record ReadAs (text : List ℕ) (m : Matches K) : Type 0 where
    pub faultless : text_fault text ≡ None
    pub labels : labels_of m.expression ≡ leaves_in labelled text
    pub leaves : ℕ
    pub reads : Reads (marks_in labelled text) expression 0 (length (marks_in labelled text)) 0 leaves (tree_of m.expression)

  -- a text was not read, for its fault; or for want of memory
  abbrev pub NotRead : List ℕ → ReadError → Type 0
  NotRead text (Refused f) = text_fault text ≡ Some f
  NotRead text Memory = Unit {0}
