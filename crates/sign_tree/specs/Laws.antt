-- What the walk of a tree shows.
use Rattle.std.specs.Prelude.{ℕ, ◌≡◌, List, ◌∷◌, ◌++◌, length, map, true, false, Ok}
use Rattle.std.specs.List.{All}
use Rattle.exact_num.specs.Fraction.{Fraction, IsLowest, IsNotBelowZero}
use Rattle.exact_num.specs.CommonDenominator.{common_denominator, amount_over}
use Rattle.form.specs.declared.orders.Order.{Order}
use Rattle.clearing_model.specs.Clearing.{HoldsAtEachState}
use Rattle.clearing_model.specs.Written.{WrittenNode, PlacedMultiplier}
use Rattle.clearing_model.specs.Certificate.{filled_over, by_of, ClosesAsWritten}
use Rattle.form.specs.declared.orders.Batch.{Batch}
use Rattle.frac.specs.declared.frac128.Frac128.{Frac128}
use Rattle.frac.specs.Value.{fraction_of}
use Rattle.sign_tree.specs.declared.trees.SignTree.{SignTree}
use Rattle.sign_tree.specs.Read.{node_of, placed_of}
use Rattle.sign_tree.specs.Walk.{fraction_legs, closes_of}

-- the tree is well formed and closes over the fills, with the liability L
abbrev pub IsClosedOver : Batch → List Frac128 → Frac128 → SignTree → Type 0
IsClosedOver batch fills L tree =
    ClosesAsWritten batch.underlyings batch.orders (map fraction_of fills) (fraction_of L) (map node_of tree.nodes) (map placed_of tree.multipliers)

-- over one denominator of all these fractions: the net of the fills is at most the liability at
-- each settlement and each ray
abbrev pub IsEnoughByTree : Batch → List Frac128 → Frac128 → SignTree → Type 0
IsEnoughByTree batch fills L tree =
    let fs = map fraction_of fills in
    let D = common_denominator (fraction_of L ∷ (fs ++ map by_of (map placed_of tree.multipliers))) in
    HoldsAtEachState batch.underlyings (filled_over D batch.orders fs) (amount_over D (fraction_of L))

-- where the walk closes, the nodes and multipliers are those of a tree that is well formed and
-- closes over the fills
abbrev pub WalksCloseTrees : Type 0
WalksCloseTrees =
    (limit n : ℕ) (orders : List Order) (fills : List Fraction) (L : Fraction) (nodes : List WrittenNode) (ms : List PlacedMultiplier)
    → length fills ≡ length orders → All IsLowest fills → All IsNotBelowZero fills → IsLowest L → All IsLowest (map by_of ms)
    → closes_of limit n (fraction_legs orders fills) L nodes ms ≡ Ok true
    → ClosesAsWritten n orders fills L nodes ms

-- where the walk is open, no tree is written by them that is well formed and closes
abbrev pub OpenWalksCloseNoTree : Type 0
OpenWalksCloseNoTree =
    (limit n : ℕ) (orders : List Order) (fills : List Fraction) (L : Fraction) (nodes : List WrittenNode) (ms : List PlacedMultiplier)
    → length fills ≡ length orders → All IsLowest fills → All IsNotBelowZero fills → IsLowest L → All IsLowest (map by_of ms)
    → closes_of limit n (fraction_legs orders fills) L nodes ms ≡ Ok false
    → ClosesAsWritten n orders fills L nodes ms → ⊥
