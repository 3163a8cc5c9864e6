-- A tree is read as it was written.
use Rattle.std.proofs.Common.{◌≡◌, List, [], ◌∷◌, ◌++◌, Option, Some, None, refl, ap, sym, ◌∙◌, append_assoc}
use Rattle.std.proofs.lemmas.List.{append-nil}
use Rattle.cell_cover.specs.Cells.{ClassMultiplier, CellTree, Split, Bound, Leaf, CellNode, SplitNode, BoundNode, LeafNode, nodes_of, with_node, then_node, trees_in, only_one, tree_in}
use Rattle.cell_cover.specs.Laws.{CellsReadOneWay}

-- the nodes of a tree put it before the trees that follow
abbrev pub before : CellTree → Option (List CellTree) → Option (List CellTree)
before tree None = None
before tree (Some trees) = Some (tree ∷ trees)

split_before : (k : _) (plus minus : CellTree) (rest : Option (List CellTree)) → then_node (SplitNode k) (before plus (before minus rest)) ≡ before (Split k plus minus) rest
split_before k plus minus None = refl
split_before k plus minus (Some trees) = refl

bound_before : (k : _) (minus plus : List ClassMultiplier) (side : CellTree) (rest : Option (List CellTree)) → then_node (BoundNode k minus plus) (before side rest) ≡ before (Bound k minus plus side) rest
bound_before k minus plus side None = refl
bound_before k minus plus side (Some trees) = refl

leaf_before : (full : _) (ms : List ClassMultiplier) (rest : Option (List CellTree)) → then_node (LeafNode full ms) rest ≡ before (Leaf full ms) rest
leaf_before full ms None = refl
leaf_before full ms (Some trees) = refl

pub reads_before : (tree : CellTree) (rest : List CellNode) → trees_in (nodes_of tree ++ rest) ≡ before tree (trees_in rest)
reads_before (Split k plus minus) rest =
    ap (λ ns. then_node (SplitNode k) (trees_in ns)) (append_assoc (nodes_of plus) (nodes_of minus) rest)
    ∙ ap (then_node (SplitNode k)) (reads_before plus (nodes_of minus ++ rest) ∙ ap (before plus) (reads_before minus rest))
    ∙ split_before k plus minus (trees_in rest)
reads_before (Bound k minus plus side) rest = ap (then_node (BoundNode k minus plus)) (reads_before side rest) ∙ bound_before k minus plus side (trees_in rest)
reads_before (Leaf full ms) rest = leaf_before full ms (trees_in rest)

pub reads_back : (tree : CellTree) → tree_in (nodes_of tree) ≡ Some tree
reads_back tree = ap tree_in (sym (append-nil (nodes_of tree))) ∙ ap only_one (reads_before tree [])

-- the nodes of trees one after another
abbrev pub all_nodes : List CellTree → List CellNode
all_nodes [] = []
all_nodes (tree ∷ trees) = nodes_of tree ++ all_nodes trees

with_writes : (node : CellNode) (trees made : List CellTree) → with_node node trees ≡ Some made → node ∷ all_nodes trees ≡ all_nodes made
with_writes (SplitNode k) [] made h = cc
with_writes (SplitNode k) (plus ∷ []) made h = cc
with_writes (SplitNode k) (plus ∷ minus ∷ trees) made h =
    let is : Split k plus minus ∷ trees ≡ made = cc in
    ap (λ ns. SplitNode k ∷ ns) (sym (append_assoc (nodes_of plus) (nodes_of minus) (all_nodes trees))) ∙ ap all_nodes is
with_writes (BoundNode k minus plus) [] made h = cc
with_writes (BoundNode k minus plus) (side ∷ trees) made h = let is : Bound k minus plus side ∷ trees ≡ made = cc in ap all_nodes is
with_writes (LeafNode full ms) trees made h = let is : Leaf full ms ∷ trees ≡ made = cc in ap all_nodes is

pub writes_all : (nodes : List CellNode) (trees : List CellTree) → trees_in nodes ≡ Some trees → nodes ≡ all_nodes trees
writes_all [] trees h = let is : [] ≡ trees = cc in ap all_nodes is
writes_all (node ∷ nodes) trees h = step (trees_in nodes) refl (writes_all nodes)
  where
    step : (behind : Option (List CellTree)) → trees_in nodes ≡ behind → ((others : List CellTree) → trees_in nodes ≡ Some others → nodes ≡ all_nodes others) → node ∷ nodes ≡ all_nodes trees
    step None e go = let none : then_node node None ≡ Some trees = sym (ap (then_node node) e) ∙ h in cc
    step (Some others) e go =
        let some : with_node node others ≡ Some trees = sym (ap (then_node node) e) ∙ h in
        ap (λ ns. node ∷ ns) (go others e) ∙ with_writes node others trees some

only_is : (trees : Option (List CellTree)) (tree : CellTree) → only_one trees ≡ Some tree → trees ≡ Some (tree ∷ [])
only_is None tree h = cc
only_is (Some []) tree h = cc
only_is (Some (one ∷ [])) tree h = let is : one ≡ tree = cc in ap (λ t. Some (t ∷ [])) is
only_is (Some (one ∷ other ∷ trees)) tree h = cc

pub writes_back : (tree : CellTree) (nodes : List CellNode) → tree_in nodes ≡ Some tree → nodes ≡ nodes_of tree
writes_back tree nodes h = writes_all nodes (tree ∷ []) (only_is (trees_in nodes) tree h) ∙ append-nil (nodes_of tree)

pub cells_read_one_way : CellsReadOneWay
cells_read_one_way = record { reads = reads_back; writes = writes_back }
