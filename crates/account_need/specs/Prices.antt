-- What the code holds on one underlying: prices, sums and orders, and the greatest exposure as it
-- goes from bend to bend.
use Rattle.std.specs.Prelude.{◌≡◌, ◌≤◌, ◌*◌, ◌++◌, ℕ, Bool, false, not, int_lt, List, [], ◌∷◌, filter, length, map, ℤ, pos, Option, Some, None, unsigned_abs, if◌then◌else◌}
use Rattle.std.specs.Int.{int_max}
use Rattle.std.specs.List.{All, flat_map}
use Rattle.form.specs.declared.bundles.Bundle.{Bundle}
use Rattle.form.specs.declared.legs.Leg.{Leg}
use Rattle.form.specs.declared.orders.Order.{Order}
use Rattle.form.specs.declared.limits.TheConstants.{MAX_ORDERS}
use Rattle.form.specs.Limits.{IsListed, IsOrderWithin}
use Rattle.form.specs.Payoff.{BundleLeg, IsOnCount, bundle_legs, legs_in, option_of, scale_of}
use Rattle.form.specs.Vector.{is_same_option}
use Rattle.settlement.specs.declared.position.Position.{Position}
use Rattle.portfolio_margin.specs.Need.{ceil_of}
use Rattle.account_need.specs.declared.price.Price.{Price}
use Rattle.account_need.specs.declared.sums.FormSum.{FormSum}
use Rattle.account_need.specs.Rounded.{OptionSum, Summed, option_in, options_of, rounded_exposure, unit}
use Rattle.account_need.specs.Line.{bend_of, bends}
use Rattle.account_need.specs.Several.{is_by_itself}

-- ---- what the code is given
-- a bundle of options within the limits, each with so many entries, and such an order
pub record IsBundleOn (count : ℕ) (bundle : Bundle) : Type 0 where
  pub options : All (λ (leg : Leg). IsListed (option_of leg.form)) (legs_in bundle)
  pub on : IsOnCount count bundle

pub record IsOrderOn (count : ℕ) (order : Order) : Type 0 where
  pub within : IsOrderWithin order
  pub on : IsOnCount count order.bundle

abbrev pub IsPositionOn : ℕ → Position → Type 0
IsPositionOn count p = IsBundleOn count p.bundle

-- a sum of such an option, as 2^24 positions have it at most
pub record IsSumOn (count : ℕ) (s : FormSum) : Type 0 where
  pub option : IsListed (option_of s.form)
  pub on : s.form.count ≡ count
  pub small : unsigned_abs s.sum ≤ 72057594037927936000000

-- whether another option is the only one of a bundle
abbrev pub is_of_another : List BundleLeg → List ℤ → Bool
is_of_another [] v = false
is_of_another (leg ∷ []) v = not (is_same_option leg.option v)
is_of_another (leg ∷ next ∷ legs) v = false

-- on one underlying
abbrev pub IsLineBundle : Bundle → Type 0
IsLineBundle bundle = IsBundleOn 2 bundle

abbrev pub IsLineOrder : Order → Type 0
IsLineOrder order = IsOrderOn 2 order

abbrev pub IsLineSum : FormSum → Type 0
IsLineSum s = IsSumOn 2 s

abbrev pub option_sum : FormSum → OptionSum
option_sum s = record { option = option_of s.form; sum = s.sum }

abbrev pub in_code : List FormSum → ℕ → List Order → Summed
in_code sums positions live = record { sums = map option_sum sums; positions = positions; live = live }

-- ---- prices
abbrev pub price_vector : Price → List ℕ
price_vector price = price.t ∷ price.s ∷ []

abbrev pub bend_within : List ℤ → Option (List ℕ)
bend_within v = if bends v then Some (bend_of v) else None

-- the exposure at a state, rounded up to whole ticks, and the greatest of those where options bend
abbrev pub bound_at : Summed → List ℕ → ℤ
bound_at p z = ceil_of (rounded_exposure p z) (unit * scale_of z)

abbrev pub with_bend : Summed → ℤ → List ℤ → ℤ
with_bend p best v = if bends v then int_max best (bound_at p (bend_of v)) else best

abbrev pub with_bends : Summed → ℤ → List (List ℤ) → ℤ
with_bends p best [] = best
with_bends p best (v ∷ options) = with_bends p (with_bend p best v) options

-- ---- the options where the exposure may be greatest: where it bends down
-- of a sum above 0 it bends up alone
abbrev pub is_due : OptionSum → Bool
is_due s = int_lt s.sum (pos 0)

abbrev pub turning_sums : List OptionSum → List (List ℤ)
turning_sums sums = map option_in (filter is_due sums)

-- and so it does of a live sell of one option; a buy of counts above 0 loses nothing
abbrev pub turning_live : List Order → List (List ℤ)
turning_live live = flat_map (λ (o : Order). options_of (bundle_legs o.bundle)) (filter is_by_itself live)

abbrev pub turning_in : Summed → List (List ℤ)
turning_in p = turning_sums p.sums ++ turning_live p.live

-- so many of them as a market has at most
pub record AreExposed (sums : List FormSum) (live : List Order) : Type 0 where
  pub of_sums : All IsLineSum sums
  pub few_sums : length sums ≤ MAX_ORDERS
  pub of_orders : All IsLineOrder live
  pub few_orders : length live ≤ MAX_ORDERS
