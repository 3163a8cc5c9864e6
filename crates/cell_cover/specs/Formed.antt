-- Whether nodes are those of a cover whose classes a batch has, and the same node by node.
use Rattle.std.specs.Prelude.{ℕ, zero, suc, ◌+◌, ◌-◌, Bool, true, false, ◌&&◌, if◌then◌else◌, List, [], ◌∷◌, map, Option, Some, None}
use Rattle.cell_cover.specs.Cells.{CellNode, SplitNode, BoundNode, LeafNode, CellTree, classes_rise, class_in, is_class, has_classes, tree_in}

abbrev pub tree_has_classes : ℕ → Option CellTree → Bool
tree_has_classes count None = false
tree_has_classes count (Some tree) = has_classes count tree

-- whether the nodes are those of a tree with such classes
abbrev pub is_formed : ℕ → List CellNode → Bool
is_formed count nodes = tree_has_classes count (tree_in nodes)

-- ---- node by node
abbrev pub node_has_classes : ℕ → CellNode → Bool
node_has_classes count (SplitNode k) = is_class count k
node_has_classes count (BoundNode k minus plus) = is_class count k && (classes_rise count 0 (map class_in minus) && classes_rise count 0 (map class_in plus))
node_has_classes count (LeafNode full ms) = classes_rise count 0 full && classes_rise count 0 (map class_in ms)

-- how many trees are still to come behind a node
abbrev pub left_behind : ℕ → CellNode → ℕ
left_behind left (SplitNode k) = left + 1
left_behind left (BoundNode k minus plus) = left
left_behind left (LeafNode full ms) = left - 1

abbrev pub is_some_left : ℕ → Bool
is_some_left zero = false
is_some_left (suc left) = true

abbrev pub is_none_left : ℕ → Bool
is_none_left zero = true
is_none_left (suc left) = false

-- whether the nodes are those of so many trees with such classes
abbrev pub are_formed : ℕ → ℕ → List CellNode → Bool
are_formed count left [] = is_none_left left
are_formed count left (node ∷ nodes) = if is_some_left left && node_has_classes count node then are_formed count (left_behind left node) nodes else false
