-- Payouts: what a position gains when its market is settled, in whole ticks.
use Rattle.std.specs.Prelude.{ℕ, suc, ◌+◌, ◌/◌, ◌≤◌, ◌≤ℤ◌, List, ◌∷◌, length, ℤ, pos, negsuc, ◌*ℤ◌, neg_ℤ}
use Rattle.std.specs.Int.{div_ceil}
use Rattle.std.specs.List.{All}
use Rattle.exact_num.specs.Fraction.{Fraction, IsDefined, AtMost, plain_product, whole}
use Rattle.form.specs.declared.bundles.Bundle.{Bundle}
use Rattle.form.specs.declared.legs.Leg.{Leg}
use Rattle.form.specs.declared.limits.TheConstants.{MAX_OPTIONS}
use Rattle.form.specs.declared.orders.Side.{Side}
use Rattle.form.specs.Limits.{IsListed}
use Rattle.form.specs.Payoff.{BundleLeg, bundle_payoff, count_sizes, IsOnCount, legs_in, option_of}
use Rattle.limits.specs.declared.TheConstants.{MAX_SETTLEMENT_PRICE}
use Rattle.clearing_model.specs.Clearing.{for_side}

-- a fill of a bundle that a position may have: not below 0, and at most 1,000,000 options
pub record IsHolding (bundle : Bundle) (fill : Fraction) : Type 0 where
  pub not_below_zero : pos 0 ≤ℤ fill.numerator
  pub counted : AtMost (plain_product fill (whole (pos (count_sizes bundle)))) (whole (pos MAX_OPTIONS))

-- a bundle of options within the limits, and a price within its limit for each of their underlyings
pub record IsSettledAt (prices : List ℕ) (bundle : Bundle) : Type 0 where
  pub forms : IsOnCount (length prices + 1) bundle
  pub options : All (λ (leg : Leg). IsListed (option_of leg.form)) (legs_in bundle)
  pub within : All (λ p. p ≤ MAX_SETTLEMENT_PRICE) prices

-- what a bundle pays at the prices; it may be below 0
abbrev pub worth_at : List ℕ → List BundleLeg → ℤ
worth_at prices legs = bundle_payoff legs (1 ∷ prices)

-- n / d, rounded down
abbrev pub floor_of : ℤ → ℕ → ℤ
floor_of (pos n) d = pos (n / d)
floor_of (negsuc n) d = neg_ℤ (pos (div_ceil (suc n) d))

-- the gain of a position: the fill times what the bundle pays for a buy, and the negative for a
-- sell, rounded down
abbrev pub gain_of : Side → Fraction → List BundleLeg → List ℕ → ℤ
gain_of side fill legs prices = floor_of (fill.numerator *ℤ for_side side (worth_at prices legs)) fill.denominator

-- m is the greatest whole number that is not above x
pub record IsFloor (x : Fraction) (m : ℤ) : Type 0 where
  pub not_above : AtMost (whole m) x
  pub greatest : (k : ℤ) → AtMost (whole k) x → k ≤ℤ m

-- gains are rounded down on both sides
abbrev pub GainsAreRoundedDown : Type 0
GainsAreRoundedDown =
    (side : Side) (fill : Fraction) (legs : List BundleLeg) (prices : List ℕ) → IsDefined fill
    → IsFloor (plain_product fill (whole (for_side side (worth_at prices legs)))) (gain_of side fill legs prices)
