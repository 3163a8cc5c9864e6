-- Premiums: what a buyer pays and a seller gets for a fill, in whole ticks.
use Rattle.std.specs.Prelude.{ℕ, ◌*◌, ◌/◌, ◌≡◌, ◌≤◌, ◌≤ℤ◌, pos}
use Rattle.std.specs.Int.{div_ceil}
use Rattle.exact_num.specs.Fraction.{Fraction, IsDefined, AtMost, plain_product, whole}
use Rattle.form.specs.declared.limits.TheConstants.{MAX_QUANTITY}
use Rattle.form.specs.declared.orders.Side.{Side}
use Rattle.form.specs.declared.orders.Side.TheVariants.{Buy, Sell}
use Rattle.form.specs.Vector.{positive_part}

-- a fill that an order may have: 0 to 1,000,000 options
pub record IsOrderFill (fill : Fraction) : Type 0 where
  pub not_below_zero : pos 0 ≤ℤ fill.numerator
  pub at_most : AtMost fill (whole (pos MAX_QUANTITY))

-- the fill times an amount for each option, rounded up or down
abbrev pub rounded_up : Fraction → ℕ → ℕ
rounded_up fill amount = div_ceil (positive_part fill.numerator * amount) fill.denominator

abbrev pub rounded_down : Fraction → ℕ → ℕ
rounded_down fill amount = positive_part fill.numerator * amount / fill.denominator

-- fill times price, rounded up for a buyer and down for a seller
abbrev pub premium_of : Side → Fraction → ℕ → ℕ
premium_of Buy fill price = rounded_up fill price
premium_of Sell fill price = rounded_down fill price

-- m is the least whole number that is not below x
pub record IsRoundedUp (x : Fraction) (m : ℕ) : Type 0 where
  pub not_below : AtMost x (whole (pos m))
  pub least : (k : ℕ) → AtMost x (whole (pos k)) → m ≤ k

-- m is the greatest whole number that is not above x
pub record IsRoundedDown (x : Fraction) (m : ℕ) : Type 0 where
  pub not_above : AtMost (whole (pos m)) x
  pub greatest : (k : ℕ) → AtMost (whole (pos k)) x → k ≤ m

-- a buyer's premium is rounded up, a seller's down
abbrev pub PremiumsAreRounded : Type 0
PremiumsAreRounded =
    (fill : Fraction) (price : ℕ) → IsDefined fill → pos 0 ≤ℤ fill.numerator
    → IsRoundedUp (plain_product fill (whole (pos price))) (premium_of Buy fill price) × IsRoundedDown (plain_product fill (whole (pos price))) (premium_of Sell fill price)

-- the premium of a whole fill is fill times price
abbrev pub WholePremiumsAreProducts : Type 0
WholePremiumsAreProducts = (side : Side) (fill price : ℕ) → premium_of side (whole (pos fill)) price ≡ fill * price
