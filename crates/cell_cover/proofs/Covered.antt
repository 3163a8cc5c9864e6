-- What the verdict on a cover shows.
use Rattle.std.proofs.Common.{◌≡◌, ℕ, ◌+◌, Bool, true, false, List, [], ◌∷◌, ◌++◌, length, map, get_or, ℤ, Result, Ok, Err, Option, Some, None, refl, ap, sym, ◌∙◌, subst, All}
use Rattle.std.proofs.lemmas.List.{length-map}
use Rattle.std.proofs.lemmas.List.Elements.{All-append, All-cons, All-head, All-nil, All-tail}
use Rattle.arithmetic.proofs.Sums.{All-of_map, All-to_map}
use Rattle.exact_num.specs.declared.misfit.Wide.{Wide as Misfit}
use Rattle.exact_num.specs.Fraction.{Fraction, IsDefined, IsNotBelowZero}
use Rattle.form.specs.declared.orders.Order.{Order}
use Rattle.form.specs.Payoff.{BundleLeg, IsOnCount, bundle_of, leg_of, legs_in}
use Rattle.form.proofs.Vectors.{length-option_of}
use Rattle.frac.specs.Range.{limit}
use Rattle.frac.specs.Value.{fraction_of}
use Rattle.frac.specs.declared.frac128.Frac128.{Frac128}
use Rattle.frac.proofs.Lowest.{lowest_of}
use Rattle.sign_tree.specs.Legs.{FractionLeg, fraction_legs}
use Rattle.cell_cover.specs.declared.cover.CellVerdict.{CellVerdict}
use Rattle.cell_cover.specs.declared.cover.CellVerdict.TheVariants.{Closed, Open}
use Rattle.cell_cover.specs.declared.cover.Multiplier.{Multiplier}
use Rattle.cell_cover.specs.declared.cover.Node.{Node}
use Rattle.cell_cover.specs.declared.cover.Node.TheVariants.{Split as SplitCode, Bound as BoundCode, Leaf as LeafCode}
use Rattle.cell_cover.specs.Cells.{CellNode, SplitNode, BoundNode, LeafNode, CellTree, Split, Bound, Leaf, has_classes, nodes_of, tree_in}
use Rattle.cell_cover.specs.Classes.{classes_of, option_in, options_in}
use Rattle.cell_cover.specs.Closed.{closes}
use Rattle.cell_cover.specs.Formed.{is_formed, tree_has_classes}
use Rattle.cell_cover.specs.Laws.{ClosesByCells, HasLowest, IsEnough, IsLowestBy}
use Rattle.cell_cover.specs.Read.{multiplier_of, node_of}
use Rattle.cell_cover.specs.Verdicts.{cells_verdict, tree_answer, verdict_of}
use Rattle.cell_cover.proofs.Decided.{walks_decide}
use Rattle.cell_cover.proofs.OneWay.{writes_back}
use Rattle.cell_cover.proofs.Regrouped.{closed_cells_hold, legs_have_options, option_at}

-- ---- the options of the orders
abbrev HasEntries : ℕ → List ℤ → Type 0
HasEntries n v = length v ≡ n

bundle_has : (count : ℕ) (order : Order) → IsOnCount count order.bundle → All (HasEntries count) (map option_in (bundle_of order))
unfolding bundle_of
bundle_has count order on =
    let P : BundleLeg → Type 0 = λ leg. length leg.option ≡ count in
    All-to_map (HasEntries count) option_in (bundle_of order) (All-to_map P leg_of (legs_in order.bundle) (λ k d lt. length-option_of (get_or (legs_in order.bundle) k d).form ∙ on k d lt))

pub options_have : (count : ℕ) (orders : List Order) → All (λ (order : Order). IsOnCount count order.bundle) orders → All (HasEntries count) (options_in orders)
options_have count [] on = All-nil (HasEntries count)
options_have count (order ∷ orders) on =
    let P : Order → Type 0 = λ order. IsOnCount count order.bundle in
    All-append (HasEntries count) (map option_in (bundle_of order)) (options_in orders) (bundle_has count order (All-head P order orders on)) (options_have count orders (All-tail P order orders on))

pub legs_have_entries : (count : ℕ) (orders : List Order) (fills : List Fraction) → length fills ≡ length orders → All (λ (order : Order). IsOnCount count order.bundle) orders
    → All (λ (leg : FractionLeg). length leg.option ≡ count) (fraction_legs orders fills)
legs_have_entries count orders fills len on =
    All-of_map (HasEntries count) option_at (fraction_legs orders fills) (subst (All (HasEntries count)) (sym (legs_have_options orders fills len)) (options_have count orders on))

-- ---- numbers in lowest terms
multipliers_lowest : (ms : List Multiplier) → All IsLowestBy (map multiplier_of ms)
multipliers_lowest [] = All-nil IsLowestBy
multipliers_lowest (m ∷ ms) = All-cons IsLowestBy (multiplier_of m) (map multiplier_of ms) m.by.lowest (multipliers_lowest ms)

abbrev IsLowestNode : CellNode → Type 0
IsLowestNode (SplitNode k) = Unit {0}
IsLowestNode (BoundNode k minus plus) = All IsLowestBy minus × All IsLowestBy plus
IsLowestNode (LeafNode full ms) = All IsLowestBy ms

node_lowest : (node : Node) → IsLowestNode (node_of node)
node_lowest (SplitCode k) = tt
node_lowest (BoundCode k minus plus) = (multipliers_lowest minus, multipliers_lowest plus)
node_lowest (LeafCode full ms) = multipliers_lowest ms

nodes_lowest : (nodes : List Node) → All IsLowestNode (map node_of nodes)
nodes_lowest [] = All-nil IsLowestNode
nodes_lowest (node ∷ nodes) = All-cons IsLowestNode (node_of node) (map node_of nodes) (node_lowest node) (nodes_lowest nodes)

first_part : (xs ys : List CellNode) → All IsLowestNode (xs ++ ys) → All IsLowestNode xs
first_part [] ys all = All-nil IsLowestNode
first_part (x ∷ xs) ys all = All-cons IsLowestNode x xs (All-head IsLowestNode x (xs ++ ys) all) (first_part xs ys (All-tail IsLowestNode x (xs ++ ys) all))

last_part : (xs ys : List CellNode) → All IsLowestNode (xs ++ ys) → All IsLowestNode ys
last_part [] ys all = all
last_part (x ∷ xs) ys all = last_part xs ys (All-tail IsLowestNode x (xs ++ ys) all)

tree_lowest : (tree : CellTree) → All IsLowestNode (nodes_of tree) → HasLowest tree
tree_lowest (Split k plus minus) all =
    let both = All-tail IsLowestNode (SplitNode k) (nodes_of plus ++ nodes_of minus) all in
    (tree_lowest plus (first_part (nodes_of plus) (nodes_of minus) both), tree_lowest minus (last_part (nodes_of plus) (nodes_of minus) both))
tree_lowest (Bound k minus plus side) all =
    let here = All-head IsLowestNode (BoundNode k minus plus) (nodes_of side) all in
    (here.0, here.1, tree_lowest side (All-tail IsLowestNode (BoundNode k minus plus) (nodes_of side) all))
tree_lowest (Leaf full ms) all = All-head IsLowestNode (LeafNode full ms) [] all

-- ---- the verdict
verdict_closed : (r : Result Bool Misfit) → verdict_of r ≡ Closed → r ≡ Ok true
verdict_closed (Ok true) h = refl
verdict_closed (Ok false) h = cc
verdict_closed (Err w) h = cc

verdict_open : (r : Result Bool Misfit) → verdict_of r ≡ Open → r ≡ Ok false
verdict_open (Ok true) h = cc
verdict_open (Ok false) h = refl
verdict_open (Err w) h = cc

-- what the walk decides of the tree that is written
pub record IsTree (n : ℕ) (orders : List Order) (fills : List Fraction) (L : Fraction) (nodes : List CellNode) (b : Bool) : Type 0 where
  pub tree : CellTree
  pub written : tree_in nodes ≡ Some tree
  pub formed : has_classes (length (classes_of orders)) tree ≡ true
  pub closes_so : closes n orders fills L tree ≡ b

tree_decides : (n : ℕ) (orders : List Order) (fills : List Frac128) (L : Frac128) (nodes : List Node) (b : Bool) (found : Option CellTree)
    → length fills ≡ length orders → All (λ (order : Order). IsOnCount (n + 1) order.bundle) orders → tree_in (map node_of nodes) ≡ found → tree_has_classes (length (classes_of orders)) found ≡ true
    → tree_answer n orders (map fraction_of fills) (fraction_of L) found ≡ Ok b → IsTree n orders (map fraction_of fills) (fraction_of L) (map node_of nodes) b
tree_decides n orders fills L nodes b None len on written formed h = cc
tree_decides n orders fills L nodes b (Some tree) len on written formed h = record {
  tree = tree;
  written = written;
  formed = formed;
  closes_so =
      walks_decide limit n orders (map fraction_of fills) (fraction_of L) tree b (length-map fills fraction_of ∙ len) (options_have (n + 1) orders on) (lowest_of fills) L.lowest
      (tree_lowest tree (subst (All IsLowestNode) (writes_back tree (map node_of nodes) written) (nodes_lowest nodes))) formed h;
}

pub decided : (n : ℕ) (orders : List Order) (fills : List Frac128) (L : Frac128) (nodes : List Node) (b : Bool)
    → length fills ≡ length orders → All (λ (order : Order). IsOnCount (n + 1) order.bundle) orders → is_formed (length (classes_of orders)) (map node_of nodes) ≡ true
    → tree_answer n orders (map fraction_of fills) (fraction_of L) (tree_in (map node_of nodes)) ≡ Ok b → IsTree n orders (map fraction_of fills) (fraction_of L) (map node_of nodes) b
decided n orders fills L nodes b len on formed h = tree_decides n orders fills L nodes b (tree_in (map node_of nodes)) len on refl formed h

pub closed_by_cells : (n : ℕ) (orders : List Order) (fills : List Frac128) (L : Frac128) (nodes : List Node) (verdict : CellVerdict)
    → length fills ≡ length orders → All (λ (order : Order). IsOnCount (n + 1) order.bundle) orders → is_formed (length (classes_of orders)) (map node_of nodes) ≡ true
    → verdict ≡ cells_verdict n orders (map fraction_of fills) (fraction_of L) (map node_of nodes) → verdict ≡ Closed → ClosesByCells n orders (map fraction_of fills) (fraction_of L) (map node_of nodes)
closed_by_cells n orders fills L nodes verdict len on formed is closed =
    let found = decided n orders fills L nodes true len on formed (verdict_closed (tree_answer n orders (map fraction_of fills) (fraction_of L) (tree_in (map node_of nodes))) (sym is ∙ closed)) in
    record { tree = found.tree; written = found.written; formed = found.formed; closes = found.closes_so }

same_tree : (a b : CellTree) → Some a ≡ Some b → a ≡ b
same_tree a b h = cc

pub closed_by_none : (n : ℕ) (orders : List Order) (fills : List Frac128) (L : Frac128) (nodes : List Node) (verdict : CellVerdict)
    → length fills ≡ length orders → All (λ (order : Order). IsOnCount (n + 1) order.bundle) orders → is_formed (length (classes_of orders)) (map node_of nodes) ≡ true
    → verdict ≡ cells_verdict n orders (map fraction_of fills) (fraction_of L) (map node_of nodes) → verdict ≡ Open → ClosesByCells n orders (map fraction_of fills) (fraction_of L) (map node_of nodes) → ⊥
closed_by_none n orders fills L nodes verdict len on formed is is_open by =
    let found = decided n orders fills L nodes false len on formed (verdict_open (tree_answer n orders (map fraction_of fills) (fraction_of L) (tree_in (map node_of nodes))) (sym is ∙ is_open)) in
    let same : found.tree ≡ by.tree = same_tree found.tree by.tree (sym found.written ∙ by.written) in
    let out : false ≡ true = sym found.closes_so ∙ ap (closes n orders (map fraction_of fills) (fraction_of L)) same ∙ by.closes in
    cc

fractions_defined : (xs : List Frac128) → All IsDefined (map fraction_of xs)
fractions_defined [] = All-nil IsDefined
fractions_defined (x ∷ xs) = All-cons IsDefined (fraction_of x) (map fraction_of xs) x.lowest.positive (fractions_defined xs)

pub enough_by_cells : (n : ℕ) (orders : List Order) (fills : List Frac128) (L : Frac128) (nodes : List Node) → length fills ≡ length orders → All IsNotBelowZero (map fraction_of fills)
    → ClosesByCells n orders (map fraction_of fills) (fraction_of L) (map node_of nodes) → IsEnough n orders (map fraction_of fills) (fraction_of L)
enough_by_cells n orders fills L nodes len above closes =
    closed_cells_hold n orders (map fraction_of fills) (fraction_of L) (map node_of nodes) (length-map fills fraction_of ∙ len) (fractions_defined fills) above L.lowest.positive closes
