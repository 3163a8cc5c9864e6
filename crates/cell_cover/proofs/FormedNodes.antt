-- Nodes that are formed, node by node, are those of trees with such classes.
use Rattle.std.proofs.Common.{◌≡◌, ℕ, zero, suc, ◌+◌, ◌-◌, ◌==◌, ◌≤◌, Bool, true, false, ◌&&◌, List, [], ◌∷◌, map, Option, Some, None, refl, ap, sym, ◌∙◌, arith, add-one}
use Rattle.std.specs.Prelude.{if◌then◌else◌}
use Rattle.std.specs.List.{list_all}
use Rattle.std.proofs.lemmas.Bool.Decides.{nat_tests}
use Rattle.std.proofs.Math.Bool.{and-false}
use Rattle.cell_cover.specs.Cells.{CellNode, SplitNode, BoundNode, LeafNode, CellTree, Split, Bound, Leaf, class_in, classes_rise, is_class, has_classes, then_node, trees_in, only_one}
use Rattle.cell_cover.specs.Formed.{tree_has_classes, is_formed, node_has_classes, left_behind, is_some_left, is_none_left, are_formed}

-- whether there are so many trees
abbrev are_many : ℕ → List CellTree → Bool
are_many left [] = is_none_left left
are_many zero (tree ∷ trees) = false
are_many (suc left) (tree ∷ trees) = are_many left trees

abbrev trees_formed : ℕ → ℕ → Option (List CellTree) → Bool
trees_formed count left None = false
trees_formed count left (Some trees) = list_all (has_classes count) trees && are_many left trees

-- ---- truth values

no_more : (h : Bool) → (if h then false else false) ≡ false
no_more true = refl
no_more false = refl

leaf_test : (h a e : Bool) → (if h then (a && e) else false) ≡ ((h && a) && e)
leaf_test true a e = refl
leaf_test false a e = refl

side_test : (k r h a e : Bool) → (if k && r then ((h && a) && e) else false) ≡ (((k && (r && h)) && a) && e)
side_test true true h a e = refl
side_test true false h a e = refl
side_test false r h a e = refl

sides_test : (k p m a e : Bool) → (if k then ((p && (m && a)) && e) else false) ≡ (((k && (p && m)) && a) && e)
sides_test true true m a e = refl
sides_test true false m a e = refl
sides_test false p m a e = refl

-- ---- one node more
leaf_more : (count left : ℕ) (h : Bool) (tree : CellTree) (trees : List CellTree)
    → (if is_some_left left && h then (list_all (has_classes count) trees && are_many (left - 1) trees) else false) ≡ ((h && list_all (has_classes count) trees) && are_many left (tree ∷ trees))
leaf_more count zero h tree trees = sym (and-false (h && list_all (has_classes count) trees))
leaf_more count (suc left) h tree trees = let e : suc left - 1 ≡ left = omega arith in rw e (leaf_test h (list_all (has_classes count) trees) (are_many left trees))

node_more : (count left : ℕ) (node : CellNode) (made : Option (List CellTree)) → (if is_some_left left && node_has_classes count node then trees_formed count (left_behind left node) made else false) ≡ trees_formed count left (then_node node made)
node_more count left node None = no_more (is_some_left left && node_has_classes count node)
node_more count left (LeafNode full ms) (Some trees) = leaf_more count left (node_has_classes count (LeafNode full ms)) (Leaf full ms) trees
node_more count zero (BoundNode k minus plus) (Some []) = refl
node_more count (suc left) (BoundNode k minus plus) (Some []) = no_more (node_has_classes count (BoundNode k minus plus))
node_more count zero (BoundNode k minus plus) (Some (side ∷ trees)) = sym (and-false (has_classes count (Bound k minus plus side) && list_all (has_classes count) trees))
node_more count (suc left) (BoundNode k minus plus) (Some (side ∷ trees)) =
    side_test (is_class count k) (classes_rise count 0 (map class_in minus) && classes_rise count 0 (map class_in plus)) (has_classes count side) (list_all (has_classes count) trees) (are_many left trees)
node_more count zero (SplitNode k) (Some []) = refl
node_more count (suc left) (SplitNode k) (Some []) = rw add-one (no_more (is_class count k))
node_more count zero (SplitNode k) (Some (plus ∷ [])) = refl
node_more count (suc left) (SplitNode k) (Some (plus ∷ [])) = rw (add-one, and-false (has_classes count plus && true)) (no_more (is_class count k))
node_more count zero (SplitNode k) (Some (plus ∷ minus ∷ trees)) = sym (and-false (has_classes count (Split k plus minus) && list_all (has_classes count) trees))
node_more count (suc left) (SplitNode k) (Some (plus ∷ minus ∷ trees)) =
    rw add-one (sides_test (is_class count k) (has_classes count plus) (has_classes count minus) (list_all (has_classes count) trees) (are_many left trees))

are_trees : (count left : ℕ) (nodes : List CellNode) → are_formed count left nodes ≡ trees_formed count left (trees_in nodes)
are_trees count left [] = refl
are_trees count left (node ∷ nodes) = ap (λ b. if is_some_left left && node_has_classes count node then b else false) (are_trees count (left_behind left node) nodes) ∙ node_more count left node (trees_in nodes)

kept : (h : Bool) → ((h && true) && true) ≡ h
kept true = refl
kept false = refl

one_tree : (count : ℕ) (made : Option (List CellTree)) → trees_formed count (suc zero) made ≡ tree_has_classes count (only_one made)
one_tree count None = refl
one_tree count (Some []) = refl
one_tree count (Some (tree ∷ [])) = kept (has_classes count tree)
one_tree count (Some (tree ∷ other ∷ trees)) = and-false (has_classes count tree && (has_classes count other && list_all (has_classes count) trees))

pub formed_by_nodes : (count : ℕ) (nodes : List CellNode) → is_formed count nodes ≡ are_formed count 1 nodes
formed_by_nodes count nodes = sym (are_trees count 1 nodes ∙ one_tree count (trees_in nodes))

-- ---- node after node
pub stops_here : (count left : ℕ) (node : CellNode) (nodes rest : List CellNode) → nodes ≡ node ∷ rest → (is_some_left left && node_has_classes count node) ≡ false → are_formed count left nodes ≡ false
stops_here count left node nodes rest first h = ap (are_formed count left) first ∙ ap (λ b. if b then are_formed count (left_behind left node) rest else false) h

pub goes_past : (count left : ℕ) (node : CellNode) (nodes rest : List CellNode) → nodes ≡ node ∷ rest → (is_some_left left && node_has_classes count node) ≡ true → are_formed count left nodes ≡ are_formed count (left_behind left node) rest
goes_past count left node nodes rest first h = ap (are_formed count left) first ∙ ap (λ b. if b then are_formed count (left_behind left node) rest else false) h

pub ends_here : (count left : ℕ) (nodes : List CellNode) → nodes ≡ [] → are_formed count left nodes ≡ (left == 0)
ends_here count left nodes none = ap (are_formed count left) none ∙ by_count left
  where
    by_count : (left : ℕ) → is_none_left left ≡ (left == 0)
    by_count zero = refl
    by_count (suc left) = let e : (suc left == 0) ≡ false = grind (arith, nat_tests) in sym e

pub few_more : (left : ℕ) (node : CellNode) → left_behind left node ≤ left + 1
few_more left (SplitNode k) = omega arith
few_more left (BoundNode k minus plus) = omega arith
few_more left (LeafNode full ms) = omega arith
