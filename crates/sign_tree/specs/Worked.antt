-- Trees worked by hand: what the walk answers over the legs of some orders.
use Rattle.std.specs.Prelude.{ℕ, ◌≡◌, Bool, true, false, List, [], ◌∷◌, ◌++◌, ℤ, pos, negsuc, Result, Ok, Err}
use Rattle.exact_num.specs.declared.misfit.Operator.TheVariants.{Mul}
use Rattle.exact_num.specs.declared.misfit.Wide.{Wide}
use Rattle.exact_num.specs.Fraction.{Fraction, over, whole}
use Rattle.exact_num.specs.Fits.{misfit}
use Rattle.form.specs.declared.orders.Side.TheVariants.{Buy, Sell}
use Rattle.form.specs.Vector.{BundleLeg, one}
use Rattle.clearing_model.specs.Written.{WrittenNode, SplitNode, LeafNode, PlacedMultiplier}
use Rattle.sign_tree.specs.Legs.{FractionLeg, legs_filled}
use Rattle.sign_tree.specs.Walk.{closes_of}

-- a call with strike 10 on the sum of two underlyings, and calls with strike 4 on the first and 6
-- on the second
abbrev on_sum : List ℤ
on_sum = negsuc 9 ∷ pos 1 ∷ pos 1 ∷ []

abbrev on_first : List ℤ
on_first = negsuc 3 ∷ pos 1 ∷ pos 0 ∷ []

abbrev on_second : List ℤ
on_second = negsuc 5 ∷ pos 0 ∷ pos 1 ∷ []

-- what the walk answers with this limit and liability 0
abbrev pub answer : ℕ → List FractionLeg → List WrittenNode → List PlacedMultiplier → Result Bool Wide
answer limit legs nodes multipliers = closes_of limit 2 legs (whole (pos 0)) nodes multipliers

abbrev tree : List WrittenNode
tree = SplitNode 1 ∷ LeafNode 2 ∷ LeafNode 0 ∷ []

abbrev at : ℕ → Fraction → PlacedMultiplier
at place by = record { place = place; by = by }

abbrev both_short : List PlacedMultiplier
both_short = at 2 (whole (pos 1)) ∷ at 3 (whole (pos 1)) ∷ []

-- ---- three orders of one option each: the first call is bought and the others are sold, one of each. At the plus side the
-- sells cover the buy; at the minus side nothing is owed
abbrev options : List FractionLeg
options = legs_filled Buy (whole (pos 1)) (one on_sum) ++ legs_filled Sell (whole (pos 1)) (one on_first) ++ legs_filled Sell (whole (pos 1)) (one on_second)

pub record TreesAsWorked : Type 0 where
  pub closed : answer 10 options tree both_short ≡ Ok true
  -- with half of the second sell the plus side owes where the second price grows
  pub sell_too_low : answer 10 options tree (at 2 (whole (pos 1)) ∷ at 3 (over (pos 1) 2) ∷ []) ≡ Ok false
  pub above_its_fill : answer 10 options tree (at 2 (whole (pos 2)) ∷ at 3 (whole (pos 1)) ∷ []) ≡ Ok false
  pub below_zero : answer 10 options tree (at 2 (whole (negsuc 0)) ∷ at 3 (whole (pos 1)) ∷ []) ≡ Ok false
  pub places_fall : answer 10 options tree (at 3 (whole (pos 1)) ∷ at 2 (whole (pos 1)) ∷ []) ≡ Ok false
  -- the positive parts of the entries do not count the buy's strike
  pub without_the_split : answer 10 options (LeafNode 2 ∷ []) both_short ≡ Ok false
  pub without_the_minus_side : answer 10 options (SplitNode 1 ∷ LeafNode 2 ∷ []) both_short ≡ Ok false
  pub node_left_over : answer 10 options (SplitNode 1 ∷ LeafNode 2 ∷ LeafNode 0 ∷ LeafNode 0 ∷ []) both_short ≡ Ok false
  pub multiplier_left_over : answer 10 options tree (both_short ++ at 2 (whole (pos 1)) ∷ []) ≡ Ok false
  pub sell_split : answer 10 options (SplitNode 2 ∷ LeafNode 2 ∷ LeafNode 0 ∷ []) both_short ≡ Ok false
  -- with the limit 9 the buy's strike does not fit
  pub wide : answer 9 options tree both_short ≡ Err (misfit Mul (whole (pos 1)) (whole (negsuc 9)))

-- ---- two orders: the first call less the second is one bundle, and the third call is sold alone
abbrev leg : ℤ → List ℤ → BundleLeg
leg count option = record { count = count; option = option }

abbrev sold_alone : List FractionLeg
sold_alone = legs_filled Sell (whole (pos 1)) (one on_second)

abbrev bought : Fraction → ℤ → ℤ → List FractionLeg
bought fill up down = legs_filled Buy fill (leg up on_sum ∷ leg down on_first ∷ []) ++ sold_alone

abbrev sold : Fraction → ℤ → ℤ → List FractionLeg
sold fill down up = legs_filled Sell fill (leg down on_sum ∷ leg up on_first ∷ []) ++ sold_alone

pub record BundlesAsWorked : Type 0 where
  -- the leg that the buy counts below 0 is short, and the second order's leg stands at place 3
  pub closed : answer 10 (bought (whole (pos 1)) (pos 1) (negsuc 0)) tree both_short ≡ Ok true
  -- who sells the bundle with its counts turned buys it
  pub sold_turned : answer 10 (sold (whole (pos 1)) (negsuc 0) (pos 1)) tree both_short ≡ Ok true
  -- half of a bundle that counts each leg twice
  pub counted_twice : answer 10 (bought (over (pos 1) 2) (pos 2) (negsuc 1)) tree both_short ≡ Ok true
  -- half of one that counts the short leg once: its multiplier is above its fill
  pub above_its_fill : answer 10 (bought (over (pos 1) 2) (pos 2) (negsuc 0)) tree both_short ≡ Ok false
  -- a leg that the buy counts above 0 is long, and carries no multiplier without a sign
  pub both_long : answer 10 (bought (whole (pos 1)) (pos 1) (pos 1)) tree both_short ≡ Ok false
  pub short_leg_split : answer 10 (bought (whole (pos 1)) (pos 1) (negsuc 0)) (SplitNode 2 ∷ LeafNode 2 ∷ LeafNode 0 ∷ []) both_short ≡ Ok false
  -- there are three places
  pub past_the_last : answer 10 (bought (whole (pos 1)) (pos 1) (negsuc 0)) tree (at 3 (whole (pos 1)) ∷ at 4 (whole (pos 1)) ∷ []) ≡ Ok false
  -- 6 times 2 is above the limit 10, in a sum and in the test of a multiplier; the test of the
  -- place comes before
  pub fill_is_wide : answer 10 (bought (whole (pos 6)) (pos 2) (negsuc 0)) (LeafNode 0 ∷ []) [] ≡ Err (misfit Mul (whole (pos 6)) (whole (pos 2)))
  pub bound_is_wide : answer 10 (bought (whole (pos 6)) (pos 1) (negsuc 1)) tree both_short ≡ Err (misfit Mul (whole (pos 6)) (whole (pos 2)))
  pub place_before : answer 10 (bought (whole (pos 6)) (pos 1) (negsuc 1)) tree (at 2 (whole (pos 1)) ∷ at 4 (whole (pos 1)) ∷ []) ≡ Ok false
