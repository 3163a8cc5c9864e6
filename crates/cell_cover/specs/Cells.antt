-- A cover by cells: a tree that divides the states by the signs of classes, which are numbered from
-- 1, and the list of nodes as which it is written.
use Rattle.std.specs.Prelude.{ℕ, Bool, true, ◌&&◌, nat_lt, nat_le, List, [], ◌∷◌, ◌++◌, map, Option, Some, None}
use Rattle.exact_num.specs.Fraction.{Fraction}

-- a class and its multiplier
pub record ClassMultiplier : Type 0 where
  pub class : ℕ
  pub by : Fraction

-- a split gives a class the sign plus in its first side and minus in its second; a bound says by
-- what a class is bounded in its side, by multipliers with the sign minus and with plus; a leaf has
-- the classes that stand with their whole kink, and multipliers of others
pub data CellTree : Type 0 where
  Split : ℕ → CellTree → CellTree → CellTree
  Bound : ℕ → List ClassMultiplier → List ClassMultiplier → CellTree → CellTree
  Leaf : List ℕ → List ClassMultiplier → CellTree

-- ---- as it is written: each node before its sides
pub data CellNode : Type 0 where
  SplitNode : ℕ → CellNode
  BoundNode : ℕ → List ClassMultiplier → List ClassMultiplier → CellNode
  LeafNode : List ℕ → List ClassMultiplier → CellNode

abbrev pub nodes_of : CellTree → List CellNode
nodes_of (Split k plus minus) = SplitNode k ∷ (nodes_of plus ++ nodes_of minus)
nodes_of (Bound k minus plus side) = BoundNode k minus plus ∷ nodes_of side
nodes_of (Leaf full ms) = LeafNode full ms ∷ []

-- a node before the trees that follow it takes as many of them as it has sides
abbrev pub with_node : CellNode → List CellTree → Option (List CellTree)
with_node (SplitNode k) [] = None
with_node (SplitNode k) (plus ∷ []) = None
with_node (SplitNode k) (plus ∷ minus ∷ trees) = Some (Split k plus minus ∷ trees)
with_node (BoundNode k minus plus) [] = None
with_node (BoundNode k minus plus) (side ∷ trees) = Some (Bound k minus plus side ∷ trees)
with_node (LeafNode full ms) trees = Some (Leaf full ms ∷ trees)

abbrev pub then_node : CellNode → Option (List CellTree) → Option (List CellTree)
then_node node None = None
then_node node (Some trees) = with_node node trees

-- the trees that are written one after another, where the nodes end with one
abbrev pub trees_in : List CellNode → Option (List CellTree)
trees_in [] = Some []
trees_in (node ∷ nodes) = then_node node (trees_in nodes)

abbrev pub only_one : Option (List CellTree) → Option CellTree
only_one None = None
only_one (Some []) = None
only_one (Some (tree ∷ [])) = Some tree
only_one (Some (tree ∷ other ∷ trees)) = None

-- the tree that is written, where it ends with the list
abbrev pub tree_in : List CellNode → Option CellTree
tree_in nodes = only_one (trees_in nodes)

-- ---- which classes it may name
-- whether the classes rise strictly, the first past `last` and none past the number of classes
abbrev pub classes_rise : ℕ → ℕ → List ℕ → Bool
classes_rise count last [] = true
classes_rise count last (k ∷ ks) = (nat_lt last k && nat_le k count) && classes_rise count k ks

abbrev pub class_in : ClassMultiplier → ℕ
class_in m = m.class

abbrev pub is_class : ℕ → ℕ → Bool
is_class count k = nat_le 1 k && nat_le k count

-- whether a node names classes that there are, and lists that rise
abbrev pub has_classes : ℕ → CellTree → Bool
has_classes count (Split k plus minus) = is_class count k && (has_classes count plus && has_classes count minus)
has_classes count (Bound k minus plus side) =
    is_class count k && ((classes_rise count 0 (map class_in minus) && classes_rise count 0 (map class_in plus)) && has_classes count side)
has_classes count (Leaf full ms) = classes_rise count 0 full && classes_rise count 0 (map class_in ms)
