-- The parts of a value give it back.
use Rattle.std.proofs.Common.{◌≡◌, ◌≤ℤ◌, ℤ, pos, negsuc, unsigned_abs, true, Some, refl, ap, arith}
use Rattle.std.proofs.lemmas.Bool.{lt-ltb}
use Rattle.std.proofs.lemmas.Int.{ints}
use Rattle.arithmetic.specs.Sums.{positive_part}
use Rattle.frac.specs.declared.frac128.Frac128.{Frac128}
use Rattle.frac.specs.Value.{fraction_of}
use Rattle.exact_num.specs.Tests.{is_lowest}
use Rattle.frac.specs.ValueOf.{value_from, has_128_bits}
use Rattle.frac.proofs.ValueOf.{value-fraction_of}

pub value_from-fraction_of : (x : Frac128) → value_from (fraction_of x) ≡ Some x
value_from-fraction_of x =
    let lowest : is_lowest (fraction_of x) ≡ true = rw (lt-ltb _ _ x.lowest.positive, x.lowest.coprime) refl in
    let fits : has_128_bits (fraction_of x) ≡ true = rw (lt-ltb _ _ x.above_fits, lt-ltb _ _ x.below_fits) refl in
    rw (lowest, fits) (ap Some (value-fraction_of x))

pub size_is_part : (d : ℤ) → pos 1 ≤ℤ d → unsigned_abs d ≡ positive_part d
size_is_part (pos n) some = refl
size_is_part (negsuc n) some = absurd (omega (arith, ints))
