-- The worked covers, computed from the definitions.
use Rattle.std.proofs.Common.{refl}
use Rattle.exact_num.specs.Fits.{operations}
use Rattle.cell_cover.specs.Worked.{CellsAsWorked}

pub cells_as_worked : CellsAsWorked
unfolding operations
cells_as_worked =
    record {
      classes = refl;
      kinks = refl;
      closed = refl;
      with_full = refl;
      above_its_kink = refl;
      below_zero = refl;
      full_and_listed = refl;
      without_the_split = refl;
      split_twice = refl;
      bounded = refl;
      lists_exchanged = refl;
      bound_without_a_sign = refl;
      wide = refl;
      same_classes = refl;
      with_slope = refl;
      enough = refl;
      not_enough = refl;
      read = refl;
      without_the_minus_side = refl;
      node_left_over = refl;
      formed = refl;
      no_such_class = refl;
      classes_fall = refl;
    }
