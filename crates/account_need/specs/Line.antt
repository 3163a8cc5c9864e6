-- The need of a market on one underlying: the greatest rounded exposure of the box is at one of its
-- ends, or where a payoff bends.
use Rattle.std.specs.Prelude.{ℕ, ◌*◌, ◌++◌, Bool, ◌&&◌, nat_le, int_lt, List, [], ◌∷◌, map, filter, nat_abs, ℤ, pos, ◌*ℤ◌}
use Rattle.std.specs.List.{flat_map}
use Rattle.exact_num.specs.Fraction.{Fraction, over}
use Rattle.exact_num.specs.Tests.{greater_of}
use Rattle.form.specs.declared.orders.Order.{Order}
use Rattle.form.specs.Payoff.{bundle_legs, scale_of}
use Rattle.form.specs.Vector.{strike_entry}
use Rattle.clearing_model.specs.Line.{weight_entry}
use Rattle.limits.specs.declared.TheConstants.{MAX_SETTLEMENT_PRICE}
use Rattle.portfolio_margin.specs.Need.{ceil_of}
use Rattle.account_need.specs.Exposure.{asked_for}
use Rattle.account_need.specs.Rounded.{Summed, option_in, options_of, rounded_exposure, unit}

-- ---- the states
-- whether the payoff of an option bends in the box, at a price above 0, and the state where
abbrev pub bends : List ℤ → Bool
bends v =
    int_lt (strike_entry v *ℤ weight_entry v) (pos 0) && nat_le (nat_abs (strike_entry v)) (MAX_SETTLEMENT_PRICE * nat_abs (weight_entry v))

abbrev pub bend_of : List ℤ → List ℕ
bend_of v = nat_abs (weight_entry v) ∷ nat_abs (strike_entry v) ∷ []

-- the options of the sums and of the live orders
abbrev pub options_in : Summed → List (List ℤ)
options_in p =
    map option_in p.sums ++ flat_map (λ (o : Order). options_of (bundle_legs o.bundle)) p.live

abbrev pub bends_in : Summed → List (List ℕ)
bends_in p = map bend_of (filter bends (options_in p))

abbrev pub lowest_state : List ℕ
lowest_state = 1 ∷ 0 ∷ []

abbrev pub highest_state : List ℕ
highest_state = 1 ∷ MAX_SETTLEMENT_PRICE ∷ []

-- ---- the greatest exposure
-- the rounded exposure at the prices of a state, in ticks
abbrev pub exposure_at : Summed → List ℕ → Fraction
exposure_at p z = over (rounded_exposure p z) (unit * scale_of z)

abbrev pub greatest : Fraction → List Fraction → Fraction
greatest x [] = x
greatest x (y ∷ ys) = greater_of x (greatest y ys)

abbrev pub greatest_exposure : Summed → Fraction
greatest_exposure p =
    greatest (exposure_at p lowest_state) (map (exposure_at p) (highest_state ∷ bends_in p))

-- rounded up to whole ticks
abbrev pub line_bound : Summed → ℤ
line_bound p = ceil_of (greatest_exposure p).numerator (greatest_exposure p).denominator

abbrev pub line_need : Summed → ℕ
line_need p = asked_for p.live p.positions (line_bound p)
