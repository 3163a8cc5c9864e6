-- Operators at the limit of 128 bits, worked by hand.
use Rattle.std.specs.Prelude.{◌≡◌, ◌-◌, ◌^◌, pos, negsuc, Ok, Err}
use Rattle.exact_num.specs.declared.misfit.Operator.TheVariants.{Add, Mul, Div, Whole}
use Rattle.exact_num.specs.Fraction.{over, whole}
use Rattle.exact_num.specs.Limit.{limit}
use Rattle.exact_num.specs.Fits.{add_of, mul_of, div_of, whole_of, misfit}

pub record OperatorsAtTheLimit : Type 0 where
  -- 1 / 2^126 and 1 / (2^126 - 1) have no sum
  pub sum_is_wide : add_of limit (over (pos 1) (2 ^ 126)) (over (pos 1) (2 ^ 126 - 1)) ≡ Err (misfit Add (over (pos 1) (2 ^ 126)) (over (pos 1) (2 ^ 126 - 1)))
  -- nor does the product of the denominators stop a sum that fits
  pub sum_fits : add_of limit (over (pos 1) (2 ^ 100)) (over (pos 1) (2 ^ 100)) ≡ Ok (over (pos 1) (2 ^ 99))
  pub product_fits : mul_of limit (whole (pos (2 ^ 126))) (over (pos 1) (2 ^ 126)) ≡ Ok (whole (pos 1))
  pub product_is_wide : mul_of limit (whole (pos (2 ^ 64))) (whole (pos (2 ^ 64))) ≡ Err (misfit Mul (whole (pos (2 ^ 64))) (whole (pos (2 ^ 64))))
  pub quotient_is_wide : div_of limit (over (pos 1) (2 ^ 126)) (whole (pos 4)) ≡ Err (misfit Div (over (pos 1) (2 ^ 126)) (whole (pos 4)))
  -- -2^127
  pub number_is_wide : whole_of limit (negsuc limit) ≡ Err (misfit Whole (whole (negsuc limit)) (whole (pos 0)))
