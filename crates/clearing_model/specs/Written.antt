-- A tree of signs as it is written: a list of nodes in preorder, and the multipliers of its leaves
-- one leaf after another.
use Rattle.std.specs.Prelude.{ℕ, suc, zero, ◌+◌, ◌-◌, ◌≡◌, ◌<◌, ◌≤◌, ◌==◌, cond, List, [], ◌∷◌, ◌++◌, length, slice_set, pos, ◌≤ℤ◌}
use Rattle.std.specs.List.{All, AllPairs}
use Rattle.form.specs.Fraction.{Fraction}
use Rattle.form.specs.CommonDenominator.{amount_over}
use Rattle.form.specs.Payoff.{positive_part}
use Rattle.clearing_model.specs.Legs.{Exposure, Long, Short, FilledLeg}
use Rattle.clearing_model.specs.Tree.{Sign, Unsigned, Plus, Minus, Tree, Leaf, Split}

-- a node as it is written: a split at a place, or a leaf with a count of multipliers. Places count
-- the legs from 1
pub data WrittenNode : Type 0 where
  SplitNode : ℕ → WrittenNode
  LeafNode : ℕ → WrittenNode

-- a multiplier of the leg at a place
pub record PlacedMultiplier : Type 0 where
  pub place : ℕ
  pub by : Fraction

-- a tree with the multipliers of its leaves
pub data WrittenTree : Type 0 where
  Ends : List PlacedMultiplier → WrittenTree
  Parts : ℕ → WrittenTree → WrittenTree → WrittenTree

abbrev pub nodes_of : WrittenTree → List WrittenNode
nodes_of (Ends ms) = LeafNode (length ms) ∷ []
nodes_of (Parts place plus minus) = SplitNode place ∷ (nodes_of plus ++ nodes_of minus)

abbrev pub multipliers_of : WrittenTree → List PlacedMultiplier
multipliers_of (Ends ms) = ms
multipliers_of (Parts place plus minus) = multipliers_of plus ++ multipliers_of minus

-- the two lists are the tree as it is written
abbrev pub IsWritten : WrittenTree → List WrittenNode → List PlacedMultiplier → Type 0
IsWritten tree nodes ms = (nodes ≡ nodes_of tree) × (ms ≡ multipliers_of tree)

-- the multiplier, over D, of the leg at the place, and 0 where there is none
abbrev pub multiplier_at : ℕ → List PlacedMultiplier → ℕ → ℕ
multiplier_at D [] place = 0
multiplier_at D (m ∷ ms) place = cond (m.place == place) (positive_part (amount_over D m.by)) (multiplier_at D ms place)

-- those of the places from the first on, for each leg
abbrev pub multipliers_from : ℕ → List PlacedMultiplier → ℕ → List FilledLeg → List ℕ
multipliers_from D ms place [] = []
multipliers_from D ms place (leg ∷ legs) = multiplier_at D ms place ∷ multipliers_from D ms (place + 1) legs

-- the tree over whole numbers, D being a multiple of every denominator
abbrev pub tree_over : ℕ → List FilledLeg → WrittenTree → Tree
tree_over D legs (Ends ms) = Leaf (multipliers_from D ms 1 legs)
tree_over D legs (Parts place plus minus) = Split (place - 1) (tree_over D legs plus) (tree_over D legs minus)

-- a whole tree is written at the head of both lists, and `rest` and `left` follow it
abbrev pub Reads : List WrittenNode → List PlacedMultiplier → List WrittenNode → List PlacedMultiplier → Type 0
Reads nodes ms rest left = (tree : WrittenTree) × (nodes ≡ nodes_of tree ++ rest) × (ms ≡ multipliers_of tree ++ left)

-- a multiplier stands at a short leg or at a signed long one
abbrev pub MayCarry : Exposure → Sign → Type 0
MayCarry Long Unsigned = ⊥
MayCarry Long Plus = Unit {0}
MayCarry Long Minus = Unit {0}
MayCarry Short sign = Unit {0}

abbrev pub MayCarryAt : List FilledLeg → List Sign → ℕ → Type 0
MayCarryAt [] signs i = ⊥
MayCarryAt (leg ∷ legs) [] i = ⊥
MayCarryAt (leg ∷ legs) (sign ∷ signs) zero = MayCarry leg.exposure sign
MayCarryAt (leg ∷ legs) (sign ∷ signs) (suc i) = MayCarryAt legs signs i

-- a multiplier at a place that may carry one, and not below 0
abbrev pub IsPlaced : List FilledLeg → List Sign → PlacedMultiplier → Type 0
IsPlaced legs signs m = (1 ≤ m.place) × MayCarryAt legs signs (m.place - 1) × (pos 0 ≤ℤ m.by.numerator)

-- each leaf's multipliers are placed, and their places rise
abbrev pub IsFormed : List FilledLeg → List Sign → WrittenTree → Type 0
IsFormed legs signs (Ends ms) =
    AllPairs (λ (a : PlacedMultiplier) (b : PlacedMultiplier). a.place < b.place) ms × All (IsPlaced legs signs) ms
IsFormed legs signs (Parts place plus minus) =
    (1 ≤ place)
    × IsFormed legs (slice_set signs (place - 1) Plus) plus
    × IsFormed legs (slice_set signs (place - 1) Minus) minus
