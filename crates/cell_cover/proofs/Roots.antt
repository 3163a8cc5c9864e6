-- The walk of the code from its root on is that over the tree.
use Rattle.std.proofs.Common.{◌≡◌, ℕ, ◌+◌, true, List, [], length, map, replicate, zip, pos, Result, Ok, Err, Option, Some, None, refl, ap, sym, ◌∙◌}
use Rattle.exact_num.specs.declared.misfit.Wide.{Wide}
use Rattle.exact_num.specs.Fraction.{Fraction, whole}
use Rattle.exact_num.specs.Fits.{after}
use Rattle.exact_num.specs.Steps.{fold_steps}
use Rattle.form.specs.declared.orders.Order.{Order}
use Rattle.frac.specs.Range.{limit}
use Rattle.sign_tree.specs.Legs.{FractionLeg, fraction_legs}
use Rattle.cell_cover.specs.declared.vectors.Row.{Row}
use Rattle.cell_cover.specs.declared.vectors.Class.{Class}
use Rattle.cell_cover.specs.Cells.{CellNode, CellTree, tree_in, nodes_of}
use Rattle.cell_cover.specs.Classes.{classes_of, options_in}
use Rattle.cell_cover.specs.Formed.{is_formed, tree_has_classes}
use Rattle.cell_cover.specs.Kinked.{all_as}
use Rattle.cell_cover.specs.NodeWalk.{walk_nodes}
use Rattle.cell_cover.specs.Rows.{row_of}
use Rattle.cell_cover.specs.Rowed.{fresh, kinked_so_far, kinks_in, row_step, rows_in, with_fresh}
use Rattle.cell_cover.specs.Verdicts.{nodes_answer, tree_answer}
use Rattle.cell_cover.specs.Walk.{WalkClass, walk_class, Cell, KinksAndSlope, leg_step, kinks_and_slope, root_cell, walk, walk_steps}
use Rattle.cell_cover.proofs.NodeWalks.{walks_whole}
use Rattle.cell_cover.proofs.OneWay.{writes_back}
use Rattle.cell_cover.proofs.Rowing.{fresh_same, steps_same, rows_of_all, kinks_of_fresh, length_of_all, classes_zip}

-- how many classes there are
pub counted : (count : ℕ) (classes : List Class) (orders : List Order) → all_as count classes ≡ with_fresh [] (options_in orders) → length classes ≡ length (classes_of orders)
counted count classes orders is = length_of_all count classes (classes_of orders) (is ∙ fresh_same [] (options_in orders))

-- the kinks and the slope that the code makes of the classes
kinks_made : (n count : ℕ) (orders : List Order) (legs : List FractionLeg) (classes : List Class) (made : Result KinksAndSlope Wide) → n + 1 ≡ count → all_as count classes ≡ with_fresh [] (options_in orders)
    → made ≡ fold_steps (row_step limit (rows_in count classes)) (record { kinks = kinks_in classes; slope = replicate count (whole (pos 0)) }) legs
    → kinks_and_slope limit n (classes_of orders) legs ≡ made
kinks_made n count orders legs classes made entries start is =
    let us = classes_of orders in
    let begun : all_as count classes ≡ map fresh us = start ∙ fresh_same [] (options_in orders) in
    let from : ℕ → KinksAndSlope = λ k. record { kinks = replicate (length us) (whole (pos 0)); slope = replicate k (whole (pos 0)) } in
    ap (λ k. kinks_and_slope_from k) entries
    ∙ sym (steps_same limit us (from count) legs)
    ∙ sym (is
    ∙ ap (λ rows. fold_steps (row_step limit rows) (record { kinks = kinks_in classes; slope = replicate count (whole (pos 0)) }) legs) (rows_of_all count classes us begun)
    ∙ ap (λ kinks. fold_steps (row_step limit (map (map whole) us)) (record { kinks = kinks; slope = replicate count (whole (pos 0)) }) legs) (kinks_of_fresh count classes us begun))
  where
    kinks_and_slope_from : ℕ → Result KinksAndSlope Wide
    kinks_and_slope_from k = fold_steps (leg_step limit (classes_of orders)) (record { kinks = replicate (length (classes_of orders)) (whole (pos 0)); slope = replicate k (whole (pos 0)) }) legs

-- the walk over the nodes, from the root's cell or its misfit
by_nodes : (n : ℕ) (classes : List WalkClass) (L : Fraction) (nodes : List CellNode) (tree : CellTree) (root : Result Cell Wide) → nodes ≡ nodes_of tree
    → nodes_answer n classes L nodes root ≡ after root (λ cell. walk limit n classes L cell tree)
by_nodes n classes L nodes tree (Ok cell) is = ap (λ ns. walk_nodes limit n classes L ns (record { cell = cell; pending = [] })) is ∙ walks_whole limit n classes L tree cell
by_nodes n classes L nodes tree (Err w) is = refl

walk_at : (n : ℕ) (orders : List Order) (fills : List Fraction) (L : Fraction) (tree : CellTree) (made : KinksAndSlope) → kinks_and_slope limit n (classes_of orders) (fraction_legs orders fills) ≡ Ok made
    → walk_steps limit n (options_in orders) (fraction_legs orders fills) L tree
    ≡ after (root_cell limit (map walk_class (zip (classes_of orders) made.kinks)) made.slope) (λ root. walk limit n (map walk_class (zip (classes_of orders) made.kinks)) L root tree)
walk_at n orders fills L tree made is = rw is refl

no_walk : (n : ℕ) (orders : List Order) (fills : List Fraction) (L : Fraction) (tree : CellTree) (w : Wide) → kinks_and_slope limit n (classes_of orders) (fraction_legs orders fills) ≡ Err w
    → walk_steps limit n (options_in orders) (fraction_legs orders fills) L tree ≡ Err w
no_walk n orders fills L tree w is = rw is refl

-- what holds of the tree that is written
for_tree : {A : Type 0} (count : ℕ) (found : Option CellTree) (a : A) (f : Option CellTree → A) → tree_has_classes count found ≡ true → ((tree : CellTree) → found ≡ Some tree → a ≡ f (Some tree)) → a ≡ f found
for_tree count None a f formed h = cc
for_tree count (Some tree) a f formed h = h tree refl

pub goes_from_root : (n count : ℕ) (orders : List Order) (fills : List Fraction) (L : Fraction) (nodes : List CellNode) (start end : List Class) (slope : Row)
    → n + 1 ≡ count → is_formed (length (classes_of orders)) nodes ≡ true → all_as count start ≡ with_fresh [] (options_in orders) → rows_in count end ≡ rows_in count start
    → Ok (kinked_so_far count end slope) ≡ fold_steps (row_step limit (rows_in count start)) (record { kinks = kinks_in start; slope = replicate count (whole (pos 0)) }) (fraction_legs orders fills)
    → nodes_answer n (all_as count end) L nodes (root_cell limit (all_as count end) (row_of count slope)) ≡ tree_answer n orders fills L (tree_in nodes)
goes_from_root n count orders fills L nodes start end slope entries formed begun rows steps =
    for_tree (length (classes_of orders)) (tree_in nodes) _ (tree_answer n orders fills L) formed
    (λ tree written.
    let us = classes_of orders in
    let made = kinks_made n count orders (fraction_legs orders fills) start (Ok (kinked_so_far count end slope)) entries begun steps in
    let zipped : all_as count end ≡ map walk_class (zip us (kinks_in end)) = classes_zip count end us (rows ∙ rows_of_all count start us (begun ∙ fresh_same [] (options_in orders))) in
    by_nodes n (all_as count end) L nodes tree (root_cell limit (all_as count end) (row_of count slope)) (writes_back tree nodes written)
    ∙ ap (λ cs. after (root_cell limit cs (row_of count slope)) (λ cell. walk limit n cs L cell tree)) zipped
    ∙ sym (walk_at n orders fills L tree (kinked_so_far count end slope) made))

pub stops_at_kinks : (n count : ℕ) (orders : List Order) (fills : List Fraction) (L : Fraction) (nodes : List CellNode) (start : List Class) (w : Wide)
    → n + 1 ≡ count → is_formed (length (classes_of orders)) nodes ≡ true → all_as count start ≡ with_fresh [] (options_in orders)
    → Err w ≡ fold_steps (row_step limit (rows_in count start)) (record { kinks = kinks_in start; slope = replicate count (whole (pos 0)) }) (fraction_legs orders fills)
    → Err w ≡ tree_answer n orders fills L (tree_in nodes)
stops_at_kinks n count orders fills L nodes start w entries formed begun steps =
    for_tree (length (classes_of orders)) (tree_in nodes) _ (tree_answer n orders fills L) formed
    (λ tree written. sym (no_walk n orders fills L tree w (kinks_made n count orders (fraction_legs orders fills) start (Err w) entries begun steps)))
