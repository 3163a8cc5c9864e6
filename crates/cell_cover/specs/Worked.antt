-- Covers worked by hand: what the walk answers over the legs of some orders.
use Rattle.std.specs.Prelude.{ℕ, ◌≡◌, Bool, true, false, List, [], ◌∷◌, ◌++◌, map, ℤ, pos, negsuc, Some, None, Result, Ok, Err}
use Rattle.exact_num.specs.declared.misfit.Operator.TheVariants.{Mul}
use Rattle.exact_num.specs.declared.misfit.Wide.{Wide}
use Rattle.exact_num.specs.Fraction.{Fraction, over, whole}
use Rattle.exact_num.specs.Fits.{misfit}
use Rattle.form.specs.declared.orders.Side.TheVariants.{Buy, Sell}
use Rattle.form.specs.Vector.{one}
use Rattle.sign_tree.specs.Legs.{FractionLeg, legs_filled}
use Rattle.cell_cover.specs.Classes.{with_classes}
use Rattle.cell_cover.specs.Cells.{ClassMultiplier, CellTree, Split, Bound, Leaf, SplitNode, LeafNode, tree_in, has_classes}
use Rattle.cell_cover.specs.Walk.{walk_steps, kinks_and_slope}

abbrev at : ℕ → Fraction → ClassMultiplier
at class by = record { class = class; by = by }

abbrev filled : FractionLeg → List ℤ
filled leg = leg.option

-- what the walk answers with this limit and liability 0, on two underlyings
abbrev answer : ℕ → List FractionLeg → CellTree → Result Bool Wide
answer limit legs tree = walk_steps limit 2 (map filled legs) legs (whole (pos 0)) tree

-- ---- a call with strike 10 on the sum of two underlyings is bought; a call with strike 10 on the
-- first, and the second underlying for 0, are sold, one of each
abbrev on_sum : List ℤ
on_sum = negsuc 9 ∷ pos 1 ∷ pos 1 ∷ []

abbrev on_first : List ℤ
on_first = negsuc 9 ∷ pos 1 ∷ pos 0 ∷ []

abbrev second : List ℤ
second = pos 0 ∷ pos 0 ∷ pos 1 ∷ []

abbrev three : List FractionLeg
three = legs_filled Buy (whole (pos 1)) (one on_sum) ++ legs_filled Sell (whole (pos 1)) (one on_first) ++ legs_filled Sell (whole (pos 1)) (one second)

abbrev both_sold : List ClassMultiplier
both_sold = at 2 (whole (pos 1)) ∷ at 3 (whole (pos 1)) ∷ []

abbrev split_first : CellTree → CellTree
split_first plus = Split 1 plus (Leaf [] [])

-- ---- multiples of them: half of the put that is -2 times the call on the sum is bought, half of
-- twice the call on the first and a third of three times the second are sold
abbrev multiples : List FractionLeg
multiples =
    legs_filled Buy (over (pos 1) 2) (one (pos 20 ∷ negsuc 1 ∷ negsuc 1 ∷ []))
    ++ legs_filled Sell (over (pos 1) 2) (one (negsuc 19 ∷ pos 2 ∷ pos 0 ∷ []))
    ++ legs_filled Sell (over (pos 1) 3) (one (pos 0 ∷ pos 0 ∷ pos 3 ∷ []))

abbrev with_liability : ℕ → Result Bool Wide
with_liability L = walk_steps 100 2 (map filled multiples) multiples (whole (pos L)) (Split 1 (Leaf [] []) (Leaf [] []))

pub record CellsAsWorked : Type 0 where
  pub classes : with_classes [] (map filled three) ≡ on_sum ∷ on_first ∷ second ∷ []
  pub kinks : kinks_and_slope 100 2 (on_sum ∷ on_first ∷ second ∷ []) three ≡ Ok (record { kinks = whole (pos 1) ∷ whole (negsuc 0) ∷ whole (negsuc 0) ∷ []; slope = whole (pos 0) ∷ whole (pos 0) ∷ whole (pos 0) ∷ [] })
  -- on the plus side the two that are sold cover the call, on the minus side nothing is owed
  pub closed : answer 100 three (split_first (Leaf [] both_sold)) ≡ Ok true
  -- their multipliers are their whole kinks
  pub with_full : answer 100 three (split_first (Leaf (2 ∷ 3 ∷ []) [])) ≡ Ok true
  pub above_its_kink : answer 100 three (split_first (Leaf [] (at 2 (whole (pos 2)) ∷ at 3 (whole (pos 1)) ∷ []))) ≡ Ok false
  pub below_zero : answer 100 three (split_first (Leaf [] (at 2 (whole (negsuc 0)) ∷ at 3 (whole (pos 1)) ∷ []))) ≡ Ok false
  pub full_and_listed : answer 100 three (split_first (Leaf (2 ∷ 3 ∷ []) (at 3 (whole (pos 1)) ∷ []))) ≡ Ok false
  -- the bound of the call at the root forgets its strike
  pub without_the_split : answer 100 three (Leaf [] both_sold) ≡ Ok false
  pub split_twice : answer 100 three (split_first (Split 1 (Leaf [] both_sold) (Leaf [] both_sold))) ≡ Ok false
  -- where the call on the first is above 0 the call on the sum is bounded by itself, and where it is
  -- below by the second
  pub bounded : answer 100 three (Split 2 (Bound 1 [] (at 2 (whole (pos 1)) ∷ []) (Leaf [] (at 3 (whole (pos 1)) ∷ []))) (Bound 1 (at 2 (whole (pos 1)) ∷ []) [] (Leaf [] (at 3 (whole (pos 1)) ∷ [])))) ≡ Ok true
  pub lists_exchanged : answer 100 three (Split 2 (Bound 1 (at 2 (whole (pos 1)) ∷ []) [] (Leaf [] (at 3 (whole (pos 1)) ∷ []))) (Bound 1 (at 2 (whole (pos 1)) ∷ []) [] (Leaf [] (at 3 (whole (pos 1)) ∷ [])))) ≡ Ok false
  pub bound_without_a_sign : answer 100 three (Bound 1 [] (at 2 (whole (pos 1)) ∷ []) (Leaf [] both_sold)) ≡ Ok false
  -- with the limit 9 the call's strike does not fit
  pub wide : answer 9 three (split_first (Leaf [] both_sold)) ≡ Err (misfit Mul (whole (pos 1)) (whole (negsuc 9)))
  -- a put is in the class of its call, and the slope is what the call pays too much for it
  pub same_classes : with_classes [] (map filled multiples) ≡ on_sum ∷ on_first ∷ second ∷ []
  pub with_slope : kinks_and_slope 100 2 (on_sum ∷ on_first ∷ second ∷ []) multiples ≡ Ok (record { kinks = whole (pos 1) ∷ whole (negsuc 0) ∷ whole (negsuc 0) ∷ []; slope = whole (pos 10) ∷ whole (negsuc 0) ∷ whole (negsuc 0) ∷ [] })
  -- it pays at most 10 times t
  pub enough : with_liability 10 ≡ Ok true
  pub not_enough : with_liability 9 ≡ Ok false
  -- the nodes are those of one tree, whose classes are numbers up to 3 that rise in each list
  pub read : tree_in (SplitNode 1 ∷ LeafNode [] both_sold ∷ LeafNode [] [] ∷ []) ≡ Some (split_first (Leaf [] both_sold))
  pub without_the_minus_side : tree_in (SplitNode 1 ∷ LeafNode [] both_sold ∷ []) ≡ None
  pub node_left_over : tree_in (SplitNode 1 ∷ LeafNode [] both_sold ∷ LeafNode [] [] ∷ LeafNode [] [] ∷ []) ≡ None
  pub formed : has_classes 3 (split_first (Leaf [] both_sold)) ≡ true
  pub no_such_class : has_classes 3 (Split 4 (Leaf [] []) (Leaf [] [])) ≡ false
  pub classes_fall : has_classes 3 (Leaf (3 ∷ 2 ∷ []) []) ≡ false
