-- The walk decides whether a tree closes over the fills.
use Rattle.std.proofs.Common.{◌≡◌, Bool, true, false, List, [], ◌∷◌, length, map, ◌++◌, All, Result, Ok, Err, refl, ◌∙◌, sym, subst}
use Rattle.std.proofs.lemmas.List.{length-map}
use Rattle.std.proofs.lemmas.List.Elements.{All-nil, All-cons}
use Rattle.exact_num.specs.declared.misfit.Wide.{Wide as Misfit}
use Rattle.exact_num.specs.Fraction.{IsLowest, IsNotBelowZero}
use Rattle.exact_num.specs.CommonDenominator.{common_denominator, amount_over}
use Rattle.frac.specs.declared.frac128.Frac128.{Frac128}
use Rattle.frac.specs.Range.{limit}
use Rattle.frac.specs.Value.{fraction_of}
use Rattle.frac.proofs.Lowest.{lowest_of}
use Rattle.form.specs.declared.orders.Batch.{Batch}
use Rattle.clearing_model.specs.Clearing.{HoldsAtEachState}
use Rattle.clearing_model.specs.Legs.{legs_of}
use Rattle.clearing_model.specs.Written.{PlacedMultiplier, multipliers_of, tree_over}
use Rattle.clearing_model.specs.Certificate.{filled_over, by_of}
use Rattle.market_laws.proofs.Tree.{closed_trees_hold}
use Rattle.sign_tree.specs.declared.trees.Multiplier.{Multiplier}
use Rattle.sign_tree.specs.declared.trees.SignTree.{SignTree}
use Rattle.sign_tree.specs.declared.trees.TreeVerdict.{TreeVerdict}
use Rattle.sign_tree.specs.declared.trees.TreeVerdict.TheVariants.{Closed, Open}
use Rattle.sign_tree.specs.Read.{node_of, placed_of}
use Rattle.sign_tree.specs.Walk.{fraction_legs, closes_of}
use Rattle.sign_tree.specs.Verdict.{tree_verdict}
use Rattle.sign_tree.specs.Laws.{IsClosedOver, IsEnoughByTree}
use Rattle.sign_tree.proofs.Sound.{walks_close_trees}
use Rattle.sign_tree.proofs.Refuted.{open_walks_close_no_tree}

pub multipliers_lowest : (ms : List Multiplier) → All IsLowest (map by_of (map placed_of ms))
multipliers_lowest [] = All-nil IsLowest
multipliers_lowest (m ∷ ms) = All-cons IsLowest (fraction_of m.by) (map by_of (map placed_of ms)) m.by.lowest (multipliers_lowest ms)

-- what the walk answers, from what its verdict is
closed_is : (r : Result Bool Misfit) → tree_verdict r ≡ Closed → r ≡ Ok true
closed_is (Ok true) h = refl
closed_is (Ok false) h = cc
closed_is (Err w) h = cc

open_is : (r : Result Bool Misfit) → tree_verdict r ≡ Open → r ≡ Ok false
open_is (Ok true) h = cc
open_is (Ok false) h = refl
open_is (Err w) h = cc

abbrev walk_of : Batch → List Frac128 → Frac128 → SignTree → Result Bool Misfit
walk_of batch fills L tree = closes_of limit batch.underlyings (fraction_legs batch.orders (map fraction_of fills)) (fraction_of L) (map node_of tree.nodes) (map placed_of tree.multipliers)

pub closed_over : (batch : Batch) (fills : List Frac128) (L : Frac128) (tree : SignTree) (v : TreeVerdict) → length fills ≡ length batch.orders → v ≡ tree_verdict (walk_of batch fills L tree)
    → All IsNotBelowZero (map fraction_of fills) → v ≡ Closed → IsClosedOver batch fills L tree
closed_over batch fills L tree v len is least closed =
    walks_close_trees limit batch.underlyings batch.orders (map fraction_of fills) (fraction_of L) (map node_of tree.nodes) (map placed_of tree.multipliers)
    (length-map fills fraction_of ∙ len) (lowest_of fills) least L.lowest (multipliers_lowest tree.multipliers) (closed_is (walk_of batch fills L tree) (sym is ∙ closed))

pub enough_over : (batch : Batch) (fills : List Frac128) (L : Frac128) (tree : SignTree) → IsClosedOver batch fills L tree → IsEnoughByTree batch fills L tree
enough_over batch fills L tree c =
    let fs = map fraction_of fills in
    let Q : List PlacedMultiplier → Type 0 =
    λ ms. let D = common_denominator (fraction_of L ∷ (fs ++ map by_of ms)) in HoldsAtEachState batch.underlyings (filled_over D batch.orders fs) (amount_over D (fraction_of L)) in
    let D = common_denominator (fraction_of L ∷ (fs ++ map by_of (multipliers_of c.tree))) in
    let filled = filled_over D batch.orders fs in
    let holds : Q (multipliers_of c.tree) = closed_trees_hold batch.underlyings filled (amount_over D (fraction_of L)) (tree_over D (legs_of filled) c.tree) c.closes in
    subst Q (sym c.written.1) holds

pub not_closed_over : (batch : Batch) (fills : List Frac128) (L : Frac128) (tree : SignTree) (v : TreeVerdict) → length fills ≡ length batch.orders → v ≡ tree_verdict (walk_of batch fills L tree)
    → All IsNotBelowZero (map fraction_of fills) → v ≡ Open → IsClosedOver batch fills L tree → ⊥
not_closed_over batch fills L tree v len is least opened =
    open_walks_close_no_tree limit batch.underlyings batch.orders (map fraction_of fills) (fraction_of L) (map node_of tree.nodes) (map placed_of tree.multipliers)
    (length-map fills fraction_of ∙ len) (lowest_of fills) least L.lowest (multipliers_lowest tree.multipliers) (open_is (walk_of batch fills L tree) (sym is ∙ opened))
