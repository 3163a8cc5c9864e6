-- The worked operators, computed from the definitions.
use Rattle.std.proofs.Common.{refl}
use Rattle.exact_num.specs.Fits.{operations}
use Rattle.exact_num.specs.Worked.{OperatorsAtTheLimit}

pub operators_at_the_limit : OperatorsAtTheLimit
unfolding operations
operators_at_the_limit = record { sum_is_wide = refl; sum_fits = refl; product_fits = refl; product_is_wide = refl; quotient_is_wide = refl; number_is_wide = refl }
