-- What a cover by cells shows, and that it is written one way.
use Rattle.std.specs.Prelude.{ℕ, ◌+◌, ◌≡◌, ◌<◌, true, false, Bool, List, ◌∷◌, length, map, Some, ℤ, ◌*ℤ◌, unsigned_abs, Ok}
use Rattle.std.specs.List.{All, sum}
use Rattle.exact_num.specs.Fraction.{Fraction, IsDefined, IsLowest, IsNotBelowZero}
use Rattle.exact_num.specs.CommonDenominator.{common_denominator, amount_over}
use Rattle.form.specs.declared.orders.Order.{Order}
use Rattle.clearing_model.specs.Clearing.{HoldsAtEachState}
use Rattle.clearing_model.specs.Certificate.{filled_over, AreFractionFills, FillsCover, IsPremiumLessLiability}
use Rattle.sign_tree.specs.Legs.{fraction_legs}
use Rattle.cell_cover.specs.Classes.{class_of, classes_of, divisor_of, factor_of, is_turned, options_in}
use Rattle.cell_cover.specs.Cells.{ClassMultiplier, CellTree, Split, Bound, Leaf, CellNode, nodes_of, tree_in, has_classes}
use Rattle.cell_cover.specs.Closed.{closes}
use Rattle.cell_cover.specs.Walk.{walk_steps}

-- v is u times its factor; no number above 1 divides the entries of u, where v has one that is not
-- 0; and the first weight of u that is not 0 is above 0
pub record IsClassOf (v u : List ℤ) : Type 0 where
  pub multiple : v ≡ map (λ x. factor_of v *ℤ x) u
  pub primitive : 0 < sum (map unsigned_abs v) → divisor_of u ≡ 1
  pub first_above : is_turned u ≡ false

abbrev pub ClassesArePrimitive : Type 0
ClassesArePrimitive = (v : List ℤ) → IsClassOf v (class_of v)

-- the nodes are those of a tree whose classes the orders have, and it closes
pub record ClosesByCells (n : ℕ) (orders : List Order) (fills : List Fraction) (L : Fraction) (nodes : List CellNode) : Type 0 where
  pub tree : CellTree
  pub written : tree_in nodes ≡ Some tree
  pub formed : has_classes (length (classes_of orders)) tree ≡ true
  pub closes : closes n orders fills L tree ≡ true

-- over one denominator of the liability and the fills: the net is at most the liability at each
-- settlement and each ray
abbrev pub IsEnough : ℕ → List Order → List Fraction → Fraction → Type 0
IsEnough n orders fills L =
    let D = common_denominator (L ∷ fills) in
    HoldsAtEachState n (filled_over D orders fills) (amount_over D L)

-- a closed cover by cells shows that the liability is enough
abbrev pub ClosedCellsHold : Type 0
ClosedCellsHold =
    (n : ℕ) (orders : List Order) (fills : List Fraction) (L : Fraction) (nodes : List CellNode)
    → length fills ≡ length orders → All IsDefined fills → All IsNotBelowZero fills → IsDefined L
    → ClosesByCells n orders fills L nodes
    → IsEnough n orders fills L

-- so fractions that it closes over cover the premium less the liability
abbrev pub CellCertificateCovers : Type 0
CellCertificateCovers =
    (n : ℕ) (orders : List Order) (fills : List Fraction) (L S : Fraction) (nodes : List CellNode)
    → AreFractionFills orders fills → IsDefined L
    → ClosesByCells n orders fills L nodes → IsPremiumLessLiability orders fills L S
    → FillsCover n orders fills S

-- the nodes of a tree are read as that tree, and what is read is what was written. So no two trees
-- are written alike
pub record CellsReadOneWay : Type 0 where
  pub reads : (tree : CellTree) → tree_in (nodes_of tree) ≡ Some tree
  pub writes : (tree : CellTree) (nodes : List CellNode) → tree_in nodes ≡ Some tree → nodes ≡ nodes_of tree

-- ---- the walk
abbrev pub IsLowestBy : ClassMultiplier → Type 0
IsLowestBy m = IsLowest m.by

-- each multiplier of the tree is in lowest terms
abbrev pub HasLowest : CellTree → Type 0
HasLowest (Split k plus minus) = HasLowest plus × HasLowest minus
HasLowest (Bound k minus plus side) = All IsLowestBy minus × All IsLowestBy plus × HasLowest side
HasLowest (Leaf full ms) = All IsLowestBy ms

-- where each step of the walk fits, it answers whether the tree closes
abbrev pub WalksDecide : Type 0
WalksDecide =
    (limit n : ℕ) (orders : List Order) (fills : List Fraction) (L : Fraction) (tree : CellTree) (b : Bool)
    → length fills ≡ length orders → All (λ (v : List ℤ). length v ≡ n + 1) (options_in orders)
    → All IsLowest fills → IsLowest L → HasLowest tree → has_classes (length (classes_of orders)) tree ≡ true
    → walk_steps limit n (options_in orders) (fraction_legs orders fills) L tree ≡ Ok b
    → closes n orders fills L tree ≡ b
