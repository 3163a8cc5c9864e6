-- A liability rounded up.
use Rattle.std.proofs.Common.{ℕ, zero, suc, ◌*◌, ◌/◌, ◌<◌, ◌≤◌, ◌≤ℤ◌, ℤ, pos, negsuc, neg_ℤ, arith}
use Rattle.std.proofs.Math.Nat.{div-mul-le_self}
use Rattle.std.proofs.lemmas.Grind.{div_ceil_times}
use Rattle.std.proofs.lemmas.Int.{ints}
use Rattle.exact_num.specs.Fraction.{AtMost, whole}
use Rattle.settlement.proofs.Quotients.{ceil_least, floor_greatest}
use Rattle.portfolio_margin.specs.Need.{IsCeil, ceil_of, LiabilitiesAreRoundedUp}

-- c times d is not more than n + 1
below_negated : (c d n : ℕ) → c * d ≤ suc n → AtMost (record { numerator = negsuc n; denominator = d }) (whole (neg_ℤ (pos c)))
below_negated zero d n le = omega (arith, ints)
below_negated (suc c) d n le = omega (arith, ints)

ceil_is : (x : ℤ) (d : ℕ) → 0 < d → IsCeil (record { numerator = x; denominator = d }) (ceil_of x d)
ceil_is (pos n) d some = record {
  not_below = omega (arith, ints, div_ceil_times n d some);
  least = least;
}
  where
    least : (k : ℤ) → AtMost (record { numerator = pos n; denominator = d }) (whole k) → ceil_of (pos n) d ≤ℤ k
    least (pos k) le =
        let most = ceil_least n d k some (omega (arith, ints)) in
        omega (arith, ints)
    least (negsuc k) le = absurd (omega (arith, ints))
ceil_is (negsuc n) d some = record {
  not_below = below_negated (suc n / d) d n (div-mul-le_self (suc n) d);
  least = least;
}
  where
    least : (k : ℤ) → AtMost (record { numerator = negsuc n; denominator = d }) (whole k) → ceil_of (negsuc n) d ≤ℤ k
    least (pos k) le = omega (arith, ints)
    least (negsuc k) le =
        let most = floor_greatest (suc n) d (suc k) some (omega (arith, ints)) in
        omega (arith, ints)

pub liabilities_are_rounded_up : LiabilitiesAreRoundedUp
liabilities_are_rounded_up x defined = ceil_is x.numerator x.denominator defined
