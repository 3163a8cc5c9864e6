use Rattle.std.proofs.Common.{◌≡◌, length, replicate, pos}
use Rattle.std.specs.List.{All}
use Rattle.exact_num.specs.Fraction.{whole}
use Rattle.exact_num.specs.Steps.{fold_steps}
use Rattle.frac.specs.Range.{limit}
use Rattle.frac.specs.Value.{fraction_of}
use Rattle.sign_tree.specs.Legs.{FractionLeg}
use Rattle.sign_tree.specs.Left.{IsAtLeg, batch_legs, legs_left}
use Rattle.cell_cover.specs.Rowed.{kinked_so_far, kinks_in, row_step, rows_in}
use Rattle.cell_cover.proofs.kinks.add_kinks.Given as goal

-- the legs that are left decide
abbrev pub invariant-loop-leg : goal.invariant-loop-leg
invariant-loop-leg l = record {
  rows : rows_in l.count l.classes.items ≡ rows_in l.count l.fn.classes.items;
  at : IsAtLeg l.left;
  options : All (λ (leg : FractionLeg). length leg.option ≡ l.count) (legs_left fraction_of l.left);
  steps : fold_steps (row_step limit (rows_in l.count l.fn.classes.items)) (record { kinks = kinks_in l.fn.classes.items; slope = replicate l.count (whole (pos 0)) }) (batch_legs fraction_of l.fn.orders l.fn.fills)
      ≡ fold_steps (row_step limit (rows_in l.count l.fn.classes.items)) (kinked_so_far l.count l.classes.items l.slope) (legs_left fraction_of l.left);
}

abbrev pub decreases-loop-leg : goal.decreases-loop-leg
decreases-loop-leg l = length (legs_left fraction_of l.left)
