-- The value of a value's fraction is the value.
use Rattle.std.proofs.Common.{◌≡◌, refl, ◌&&◌, Bool, true, false}
use Rattle.std.proofs.lemmas.Bool.{lt-ltb}
use Rattle.exact_num.specs.Fraction.{Fraction}
use Rattle.frac.specs.declared.frac128.Frac128.{Frac128}
use Rattle.frac.specs.Value.{fraction_of, same_value}
use Rattle.frac.specs.ValueOf.{value_of, value_or_zero, has_128_bits}
use Rattle.exact_num.specs.Tests.{is_lowest}

made_is : (x : Fraction) (b : Bool) (e : (is_lowest x && has_128_bits x) ≡ b) → b ≡ true → fraction_of (value_or_zero x b e) ≡ x
made_is x true e t = refl
made_is x false e t = cc

pub value-fraction_of : (x : Frac128) → value_of (fraction_of x) ≡ x
unfolding value_of
value-fraction_of x =
    let lowest : is_lowest (fraction_of x) ≡ true = rw (lt-ltb _ _ x.lowest.positive, x.lowest.coprime) refl in
    let fits : has_128_bits (fraction_of x) ≡ true = rw (lt-ltb _ _ x.above_fits, lt-ltb _ _ x.below_fits) refl in
    same_value _ x (made_is (fraction_of x) _ refl (rw (lowest, fits) refl))
