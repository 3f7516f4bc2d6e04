-- What the readers answer.
use Rattle.std.specs.Prelude.{◌≡◌, ℕ, ◌+◌, ◌<◌, ◌≤◌, true, false, List, length, get_or, Some, None, Option, Result, slice_index_or, vec_items, MatchResult}
use Rattle.regular.specs.declared.node.Node.{Node}
use Rattle.regular.specs.declared.node.Node.TheVariants.{Leaf as LeafNode, Star as StarNode, Plus as PlusNode, Maybe as MaybeNode}
use Rattle.regular.specs.Trees.{Grown, tree}
use Rattle.grammar.specs.declared.mark.Mark.{Mark}
use Rattle.grammar.specs.declared.mark.Mark.TheVariants.{Leaf, Open, Close, Bar, Star, Plus, Maybe, Other}
use Rattle.grammar.specs.declared.mark.ReadFault.{ReadFault}
use Rattle.grammar.specs.declared.mark.ReadFault.TheVariants.{Mark as MarkFault, Size, Memory}
use Rattle.grammar.specs.declared.reader.Reader.{Reader}
use Rattle.grammar.specs.Grammar.{Sort, expression, term, factor, atom, Reads}
use Rattle.grammar.specs.Faults.{state, wrong, large, fault_at, fault_of}

-- a node stands in a table
pub record Added (ns : List Node) (n : ℕ) (node : Node) : Type 0 where
  pub inside : n < length ns
  pub is : get_or ns n (LeafNode 0) ≡ node

-- the next leaf stands in a table, and was counted
pub record LeafAdded (old new : ℕ) (ns : List Node) (n : ℕ) : Type 0 where
  pub few : old < 60
  pub counted : new ≡ old + 1
  pub added : Added ns n (LeafNode old)

-- why a node was not added: there was no memory
abbrev pub NoRoom : ReadFault → Type 0
NoRoom f = f ≡ Memory

-- why a leaf was not added: there are as many as there may be, or there was no memory
abbrev pub NoLeaf : ℕ → ReadFault → Type 0
NoLeaf old (MarkFault i) = ⊥
NoLeaf old Size = 60 ≤ old
NoLeaf old Memory = Unit {0}

-- how much a sort holds, and how much has ended before a mark: a sort ends before each mark with a greater number
abbrev pub sort_level : Sort → ℕ
sort_level atom = 0
sort_level factor = 1
sort_level term = 2
sort_level expression = 3

abbrev pub mark_level : Mark → ℕ
mark_level Star = 1
mark_level Plus = 1
mark_level Maybe = 1
mark_level Leaf = 2
mark_level Open = 2
mark_level Bar = 3
mark_level Close = 4
mark_level Other = 4

-- A part that was read: a node of the table with its regular expression, and the place behind it, from which the marks have the same fault as from its own place.
pub record Reading (ms : List Mark) (sort : Sort) (depth from k l : ℕ) (ns : List Node) (node past : ℕ) : Type 0 where
  pub in_table : node < length ns
  pub on : from < past
  pub inside : past ≤ length ms
  pub few : l ≤ 60
  pub reads : Reads ms sort from past k l (tree ns node)
  pub same : fault_at ms from (state depth k true) ≡ fault_at ms past (state depth l false)

-- a part that was read as far as it goes
pub record Gives (ms : List Mark) (sort : Sort) (depth from k l : ℕ) (ns : List Node) (node past : ℕ) : Type 0 where
  pub reading : Reading ms sort depth from k l ns node past
  pub ends : past < length ms → sort_level sort < mark_level (slice_index_or ms past Leaf)

-- the fault of the marks from a place on, where so many brackets are open and so many leaves were read
abbrev pub Refuses : List Mark → ℕ → ℕ → ℕ → ReadFault → Type 0
Refuses ms depth from k (MarkFault i) = fault_at ms from (state depth k true) ≡ Some (wrong i)
Refuses ms depth from k Size = (i : ℕ) × (fault_at ms from (state depth k true) ≡ Some (large i))
Refuses ms depth from k Memory = Unit {0}

-- a reader that has gone on: in the same marks, and with what its table had
pub record Onward (old new : Reader) : Type 0 where
  pub marks : new.marks.now ≡ old.marks.now
  pub grown : Grown (vec_items old.table.nodes) (vec_items new.table.nodes)

-- what a reader answers, where so many brackets are open: the node of the part that it has gone behind, or the fault of its marks
abbrev pub Read : Sort → ℕ → Reader → Reader → Result ℕ ReadFault → Type 0
Read sort depth old new answer =
    MatchResult answer
    (λ n. Gives old.marks.now sort depth old.at old.leaves new.leaves (vec_items new.table.nodes) n new.at)
    (λ f. Refuses old.marks.now depth old.at old.leaves f)

-- the node that a mark makes of another
abbrev pub repeat_of : Mark → ℕ → Option Node
repeat_of Leaf n = None
repeat_of Open n = None
repeat_of Close n = None
repeat_of Bar n = None
repeat_of Star n = Some (StarNode n)
repeat_of Plus n = Some (PlusNode n)
repeat_of Maybe n = Some (MaybeNode n)
repeat_of Other n = None

-- the marks have no fault, and a node of the table is their expression, with at most 60 leaves
pub record Whole (ms : List Mark) (ns : List Node) (root : ℕ) : Type 0 where
  pub faultless : fault_of ms ≡ None
  pub in_table : root < length ns
  pub leaves : ℕ
  pub few : leaves ≤ 60
  pub reads : Reads ms expression 0 (length ms) 0 leaves (tree ns root)

-- the fault of all the marks
abbrev pub NotWhole : List Mark → ReadFault → Type 0
NotWhole ms (MarkFault i) = fault_of ms ≡ Some (wrong i)
NotWhole ms Size = (i : ℕ) × (fault_of ms ≡ Some (large i))
NotWhole ms Memory = Unit {0}
