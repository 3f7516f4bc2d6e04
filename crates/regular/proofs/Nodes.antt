-- The tree of a node by the trees of those that it stands on, and tables that grow, which keep the trees.
use Rattle.std.proofs.Common.{◌≡◌, ℕ, zero, suc, ◌<◌, ◌≤◌, List, length, get_or, refl, ap, ◌∙◌, arith}
use Rattle.regular.specs.declared.node.Node.{Node}
use Rattle.regular.specs.declared.node.Node.TheVariants.{Leaf, Then, Either, Star, Plus, Maybe}
use Rattle.regular.specs.Regex.{Regex, star, plus, opt}
use Rattle.regular.specs.Trees.{reach, Falling, Grown, node_tree, tree_to, tree}

-- a node's tree hangs only on the trees of the nodes before it
node_same : (f g : ℕ → Regex ℕ) (n : ℕ) (v : Node) → reach v ≤ n → ((a : ℕ) → a < n → f a ≡ g a) → node_tree f v ≡ node_tree g v
node_same f g n (Leaf p) h e = refl
node_same f g n (Then a b) h e = let p = e a (omega arith) in let q = e b (omega arith) in cc
node_same f g n (Either a b) h e = let p = e a (omega arith) in let q = e b (omega arith) in cc
node_same f g n (Star a) h e = ap star (e a (omega arith))
node_same f g n (Plus a) h e = ap plus (e a (omega arith))
node_same f g n (Maybe a) h e = ap opt (e a (omega arith))

-- any depth past the node's number gives the same tree, and so does any table that has grown from the first
same_depth : (ns ms : List Node) → Falling ns → Grown ns ms → (k j n : ℕ) → n < length ns → n < k → n < j → tree_to k ms n ≡ tree_to j ns n
unfolding tree_to
same_depth ns ms f w zero j n h p q = absurd (omega arith)
same_depth ns ms f w (suc k) zero n h p q = absurd (omega arith)
same_depth ns ms f w (suc k) (suc j) n h p q =
    ap (node_tree (tree_to k ms)) (w.same n h)
    ∙ node_same (tree_to k ms) (tree_to j ns) n (get_or ns n (Leaf 0)) (f n h)
    (λ a l. same_depth ns ms f w k j a (omega arith) (omega arith) (omega arith))

stays : (ns : List Node) → Grown ns ns
stays ns = record { longer = omega arith; same = λ n h. refl }

-- the tree of a node where it is known
pub tree_at : (ns : List Node) → Falling ns → (n : ℕ) → n < length ns → (v : Node) → get_or ns n (Leaf 0) ≡ v → tree ns n ≡ node_tree (tree ns) v
unfolding tree tree_to
tree_at ns f n h v e =
    node_same (tree_to n ns) (tree ns) n (get_or ns n (Leaf 0)) (f n h)
    (λ a l. same_depth ns ns f (stays ns) n (suc a) a (omega arith) l (omega arith))
    ∙ ap (node_tree (tree ns)) e

-- a table that has grown keeps the trees
pub tree_kept : (ns ms : List Node) → Falling ns → Grown ns ms → (n : ℕ) → n < length ns → tree ms n ≡ tree ns n
unfolding tree
tree_kept ns ms f w n h = same_depth ns ms f w (suc n) (suc n) n h (omega arith) (omega arith)

pub grown_on : (a b c : List Node) → Grown a b → Grown b c → Grown a c
grown_on a b c p q =
    record { longer = omega arith; same = λ n h. q.same n (omega arith) ∙ p.same n h }
