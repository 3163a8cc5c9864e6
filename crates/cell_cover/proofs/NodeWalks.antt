-- The walk node by node is that over the tree.
use Rattle.std.proofs.Common.{◌≡◌, ℕ, Bool, true, false, List, [], ◌∷◌, ◌++◌, Result, Ok, Err, Option, Some, None, refl, ap, sym, ◌∙◌, append_assoc}
use Rattle.std.specs.Prelude.{if◌then◌else◌}
use Rattle.std.proofs.lemmas.List.{append-nil}
use Rattle.exact_num.specs.declared.misfit.Wide.{Wide}
use Rattle.exact_num.specs.Fraction.{Fraction}
use Rattle.exact_num.specs.Fits.{after}
use Rattle.exact_num.specs.Steps.{and_then}
use Rattle.cell_cover.specs.Cells.{CellTree, Split, Bound, Leaf, CellNode, nodes_of}
use Rattle.cell_cover.specs.Closed.{Known, Plus, Minus, Bounded, known_at}
use Rattle.cell_cover.specs.Walk.{WalkClass, Cell, plus_cell, minus_cell, bound_cell, bound_steps, then_with, on_bounded, leaf_closes, walk}
use Rattle.cell_cover.specs.NodeWalk.{State, Next, Fails, if_bounded, next_side, node_step, on_next, walk_nodes}

-- ---- what follows a test that follows a step
then_all : {A : Type 0} (r : Result A Wide) (f : A → Result Next Wide) (h : Next → Result Bool Wide) (g : A → Result Bool Wide) (s : Result Bool Wide) → ((a : A) → after (f a) h ≡ and_then (g a) s)
    → after (after r f) h ≡ and_then (after r g) s
then_all (Ok a) f h g s e = e a
then_all (Err w) f h g s e = refl

both_all : (a b c d : Result Bool Wide) → b ≡ and_then c d → and_then a b ≡ and_then (and_then a c) d
both_all (Ok true) b c d h = h
both_all (Ok false) b c d h = refl
both_all (Err w) b c d h = refl

bounded_all : (it : Known (List Fraction)) (f : List Fraction → Result Next Wide) (go : State → Result Bool Wide) (g : List Fraction → Result Bool Wide) (s : Result Bool Wide) → ((w : List Fraction) → after (f w) (on_next go) ≡ and_then (g w) s)
    → after (if_bounded it f) (on_next go) ≡ and_then (on_bounded it g) s
bounded_all Plus f go g s e = refl
bounded_all Minus f go g s e = refl
bounded_all (Bounded w) f go g s e = e w

found_all : {A : Type 0} (made : Result (Option A) Wide) (f : A → Result Next Wide) (go : State → Result Bool Wide) (g : A → Result Bool Wide) (s : Result Bool Wide) → ((a : A) → after (f a) (on_next go) ≡ and_then (g a) s)
    → after (then_with made Fails f) (on_next go) ≡ and_then (then_with made false g) s
found_all (Ok None) f go g s e = refl
found_all (Ok (Some a)) f go g s e = e a
found_all (Err w) f go g s e = refl

leaf_all : (closes : Result Bool Wide) (side : Result Next Wide) (go : State → Result Bool Wide) → after (after closes (λ holds. if holds then side else Ok Fails)) (on_next go) ≡ and_then closes (after side (on_next go))
leaf_all (Ok true) side go = refl
leaf_all (Ok false) side go = refl
leaf_all (Err w) side go = refl

-- ---- the tree at the head of the nodes
pub walks_tree : (limit n : ℕ) (classes : List WalkClass) (L : Fraction) (tree : CellTree) (rest : List CellNode) (state : State)
    → walk_nodes limit n classes L (nodes_of tree ++ rest) state ≡ and_then (walk limit n classes L state.cell tree) (after (next_side limit classes state.pending) (on_next (walk_nodes limit n classes L rest)))
walks_tree limit n classes L (Split k plus minus) rest state =
    let go : List CellNode → State → Result Bool Wide = walk_nodes limit n classes L in
    bounded_all (known_at state.cell.known k) _ _ _ _
    (λ w. then_all (plus_cell limit classes state.cell k w) _ _ _ _
    (λ up.
    let inner : State = record { cell = up; pending = record { cell = state.cell; class = k; bound = w } ∷ state.pending } in
    ap (λ ns. go ns inner) (append_assoc (nodes_of plus) (nodes_of minus) rest)
    ∙ walks_tree limit n classes L plus (nodes_of minus ++ rest) inner
    ∙ both_all (walk limit n classes L up plus) _ (after (minus_cell limit classes state.cell k w) (λ down. walk limit n classes L down minus)) _
    (then_all (minus_cell limit classes state.cell k w) _ _ _ _ (λ down. walks_tree limit n classes L minus rest (record { cell = down; pending = state.pending })))))
walks_tree limit n classes L (Bound k minus plus side) rest state =
    bounded_all (known_at state.cell.known k) _ _ _ _
    (λ w. found_all (bound_steps limit n classes state.cell.known k minus plus) _ _ _ _
    (λ next. then_all (bound_cell limit classes state.cell k w next) _ _ _ _ (λ inner. walks_tree limit n classes L side rest (record { cell = inner; pending = state.pending }))))
walks_tree limit n classes L (Leaf full ms) rest state = leaf_all (leaf_closes limit n classes L state.cell full ms) (next_side limit classes state.pending) (walk_nodes limit n classes L rest)

-- a tree alone
holds_all : (r : Result Bool Wide) → and_then r (Ok true) ≡ r
holds_all (Ok true) = refl
holds_all (Ok false) = refl
holds_all (Err w) = refl

pub walks_whole : (limit n : ℕ) (classes : List WalkClass) (L : Fraction) (tree : CellTree) (cell : Cell) → walk_nodes limit n classes L (nodes_of tree) (record { cell = cell; pending = [] }) ≡ walk limit n classes L cell tree
walks_whole limit n classes L tree cell =
    let root : State = record { cell = cell; pending = [] } in
    ap (λ ns. walk_nodes limit n classes L ns root) (sym (append-nil (nodes_of tree))) ∙ walks_tree limit n classes L tree [] root ∙ holds_all (walk limit n classes L cell tree)

-- ---- one node after another
pub walk_by : (limit n : ℕ) (classes : List WalkClass) (L : Fraction) (left rest : List CellNode) (node : CellNode) (state : State) (made : Result Next Wide) → left ≡ node ∷ rest → made ≡ node_step limit n classes L state node
    → walk_nodes limit n classes L left state ≡ after made (on_next (walk_nodes limit n classes L rest))
walk_by limit n classes L left rest node state made first is = ap (λ nodes. walk_nodes limit n classes L nodes state) first ∙ ap (λ r. after r (on_next (walk_nodes limit n classes L rest))) (sym is)
