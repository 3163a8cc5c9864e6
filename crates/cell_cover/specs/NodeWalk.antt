-- The walk node by node, as the code does it.
use Rattle.std.specs.Prelude.{ℕ, ◌≡◌, Bool, true, false, if◌then◌else◌, List, [], ◌∷◌, ◌++◌, Result, Ok}
use Rattle.exact_num.specs.declared.misfit.Wide.{Wide}
use Rattle.exact_num.specs.Fraction.{Fraction}
use Rattle.exact_num.specs.Fits.{after}
use Rattle.exact_num.specs.Steps.{and_then}
use Rattle.cell_cover.specs.Cells.{ClassMultiplier, CellNode, SplitNode, BoundNode, LeafNode, CellTree, nodes_of}
use Rattle.cell_cover.specs.Closed.{Known, Plus, Minus, Bounded, known_at}
use Rattle.cell_cover.specs.Walk.{WalkClass, Cell, plus_cell, minus_cell, bound_cell, bound_steps, then_with, leaf_closes, walk}

-- a split whose minus side is still to come: the cell before it, and the bound of its class there
pub record Pending : Type 0 where
  pub cell : Cell
  pub class : ℕ
  pub bound : List Fraction

-- the cell that the walk has come to, and the sides that are still to come
pub record State : Type 0 where
  pub cell : Cell
  pub pending : List Pending

-- what a node leads to: the cover does not close, the tree ends, or the walk goes on
pub data Next : Type 0 where
  Fails : Next
  Ends : Next
  GoesOn : State → Next

abbrev pub if_bounded : Known (List Fraction) → (List Fraction → Result Next Wide) → Result Next Wide
if_bounded Plus next = Ok Fails
if_bounded Minus next = Ok Fails
if_bounded (Bounded w) next = next w

abbrev pub split_step : ℕ → List WalkClass → State → ℕ → Result Next Wide
split_step limit classes state k =
    if_bounded (known_at state.cell.known k)
    (λ w. after (plus_cell limit classes state.cell k w)
    (λ up. Ok (GoesOn (record { cell = up; pending = record { cell = state.cell; class = k; bound = w } ∷ state.pending }))))

abbrev pub bound_step : ℕ → ℕ → List WalkClass → State → ℕ → List ClassMultiplier → List ClassMultiplier → Result Next Wide
bound_step limit n classes state k minus plus =
    if_bounded (known_at state.cell.known k)
    (λ w. then_with (bound_steps limit n classes state.cell.known k minus plus) Fails
    (λ next. after (bound_cell limit classes state.cell k w next) (λ inner. Ok (GoesOn (record { cell = inner; pending = state.pending })))))

-- the next side that is to come, or the end
abbrev pub next_side : ℕ → List WalkClass → List Pending → Result Next Wide
next_side limit classes [] = Ok Ends
next_side limit classes (p ∷ pending) = after (minus_cell limit classes p.cell p.class p.bound) (λ down. Ok (GoesOn (record { cell = down; pending = pending })))

abbrev pub leaf_step : ℕ → ℕ → List WalkClass → Fraction → State → List ℕ → List ClassMultiplier → Result Next Wide
leaf_step limit n classes L state full ms =
    after (leaf_closes limit n classes L state.cell full ms) (λ holds. if holds then next_side limit classes state.pending else Ok Fails)

abbrev pub node_step : ℕ → ℕ → List WalkClass → Fraction → State → CellNode → Result Next Wide
node_step limit n classes L state (SplitNode k) = split_step limit classes state k
node_step limit n classes L state (BoundNode k minus plus) = bound_step limit n classes state k minus plus
node_step limit n classes L state (LeafNode full ms) = leaf_step limit n classes L state full ms

abbrev pub on_next : (State → Result Bool Wide) → Next → Result Bool Wide
on_next go Fails = Ok false
on_next go Ends = Ok true
on_next go (GoesOn state) = go state

abbrev pub walk_nodes : ℕ → ℕ → List WalkClass → Fraction → List CellNode → State → Result Bool Wide
walk_nodes limit n classes L [] state = Ok false
walk_nodes limit n classes L (node ∷ nodes) state = after (node_step limit n classes L state node) (on_next (walk_nodes limit n classes L nodes))

-- the walk over the nodes of a tree, and what follows behind them, is that over the tree
abbrev pub WalksByNodes : Type 0
WalksByNodes =
    (limit n : ℕ) (classes : List WalkClass) (L : Fraction) (tree : CellTree) (rest : List CellNode) (state : State)
    → walk_nodes limit n classes L (nodes_of tree ++ rest) state
    ≡ and_then (walk limit n classes L state.cell tree) (after (next_side limit classes state.pending) (on_next (walk_nodes limit n classes L rest)))
