-- Tables of nodes, and the expressions that they stand for.
use Rattle.std.specs.Prelude.{◌≡◌, ℕ, zero, suc, ◌+◌, ◌<◌, ◌≤◌, max, List, length, slice_index_or}
use Rattle.regular.specs.Regex.{Regex, one, seq, alt, star, plus, opt}
use Rattle.regular.specs.declared.node.Node.{Node}
use Rattle.regular.specs.declared.node.Node.TheVariants.{Leaf, Then, Either, Star, Plus, Maybe}

-- the least number that a node can have, since those that it stands on have smaller ones
abbrev pub reach : Node → ℕ
reach (Leaf p) = 0
reach (Then a b) = max a b + 1
reach (Either a b) = max a b + 1
reach (Star a) = a + 1
reach (Plus a) = a + 1
reach (Maybe a) = a + 1

-- each node of a table stands on smaller numbers
abbrev pub Falling : List Node → Type 0
Falling ns = (n : ℕ) → n < length ns → reach (slice_index_or ns n (Leaf 0)) ≤ n

-- the number of a leaf, and 0 of other nodes
abbrev pub place : Node → ℕ
place (Leaf p) = p
place (Then a b) = 0
place (Either a b) = 0
place (Star a) = 0
place (Plus a) = 0
place (Maybe a) = 0

-- the leaves of a table have numbers below 60
abbrev pub Placed : List Node → Type 0
Placed ns = (n : ℕ) → n < length ns → place (slice_index_or ns n (Leaf 0)) < 60

-- a table that has grown: what was there is there
pub record Grown (old new : List Node) : Type 0 where
  pub longer : length old ≤ length new
  pub same : (n : ℕ) → n < length old → slice_index_or new n (Leaf 0) ≡ slice_index_or old n (Leaf 0)

-- what one node stands for, where those that it stands on stand for f
abbrev pub node_tree : (ℕ → Regex ℕ) → Node → Regex ℕ
node_tree f (Leaf p) = one p
node_tree f (Then a b) = seq (f a) (f b)
node_tree f (Either a b) = alt (f a) (f b)
node_tree f (Star a) = star (f a)
node_tree f (Plus a) = plus (f a)
node_tree f (Maybe a) = opt (f a)

-- the expression of the node n, to the depth k
unfoldable pub tree_to : ℕ → List Node → ℕ → Regex ℕ
tree_to zero ns n = one 0
tree_to (suc k) ns n = node_tree (tree_to k ns) (slice_index_or ns n (Leaf 0))

-- the expression of the node n
unfoldable pub tree : List Node → ℕ → Regex ℕ
tree ns n = tree_to (suc n) ns n
