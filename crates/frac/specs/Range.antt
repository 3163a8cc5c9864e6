-- Numbers within a limit, as options.
use Rattle.std.specs.Prelude.{ℕ, ◌-◌, ◌<◌, ◌^◌, ◌&&◌, ℤ, Option, Some, None, nat_le, unsigned_abs, if◌then◌else◌}
use Rattle.exact_num.specs.Fraction.{Fraction}
pub use Rattle.exact_num.specs.Limit.{limit}
use Rattle.exact_num.specs.Fits.{size_fits, sum_left, sum_right, sum_total}

-- the largest size of a number of 64 bits
abbrev pub narrow_limit : ℕ
narrow_limit = 2 ^ 63 - 1

abbrev pub within : ℕ → ℤ → Option ℤ
within limit v = if size_fits limit v then Some v else None

abbrev pub within_natural : ℕ → ℕ → Option ℕ
within_natural limit n = if nat_le n limit then Some n else None

-- the total of a sum, where its three quantities are within the limit
abbrev pub total_within : ℕ → Fraction → Fraction → Option ℤ
total_within limit x y =
    if size_fits limit (sum_left x y) && size_fits limit (sum_right x y) && size_fits limit (sum_total x y) then Some (sum_total x y) else None

-- both parts are of 31 bits
abbrev pub IsSmall : Fraction → Type 0
IsSmall x = (unsigned_abs x.numerator < 2 ^ 31) × (x.denominator < 2 ^ 31)
