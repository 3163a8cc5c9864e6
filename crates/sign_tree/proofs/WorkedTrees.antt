-- The worked trees, computed from the definitions.
use Rattle.std.proofs.Common.{refl}
use Rattle.exact_num.specs.Fits.{operations}
use Rattle.sign_tree.specs.Worked.{TreesAsWorked, BundlesAsWorked}

pub trees_as_worked : TreesAsWorked
unfolding operations
trees_as_worked =
    record {
      closed = refl;
      sell_too_low = refl;
      above_its_fill = refl;
      below_zero = refl;
      places_fall = refl;
      without_the_split = refl;
      without_the_minus_side = refl;
      node_left_over = refl;
      multiplier_left_over = refl;
      sell_split = refl;
      wide = refl;
    }

pub bundles_as_worked : BundlesAsWorked
unfolding operations
bundles_as_worked =
    record {
      closed = refl;
      sold_turned = refl;
      counted_twice = refl;
      above_its_fill = refl;
      both_long = refl;
      short_leg_split = refl;
      past_the_last = refl;
      fill_is_wide = refl;
      bound_is_wide = refl;
      place_before = refl;
    }
