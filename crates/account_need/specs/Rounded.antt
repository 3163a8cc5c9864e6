-- What positions owe, option by option and rounded up to whole numbers of 2^-32.
use Rattle.std.specs.Prelude.{ℕ, ◌*◌, Bool, not, List, [], ◌∷◌, length, map, filter, ℤ, pos, ◌+ℤ◌, ◌*ℤ◌, if◌then◌else◌}
use Rattle.std.specs.List.{flat_map}
use Rattle.std.specs.Ordering.{int_eq}
use Rattle.arithmetic.specs.Sums.{total}
use Rattle.form.specs.declared.orders.Order.{Order}
use Rattle.form.specs.Payoff.{BundleLeg, bundle_legs, payoff}
use Rattle.form.specs.Vector.{is_same_option}
use Rattle.settlement.specs.declared.position.Position.{Position}
use Rattle.portfolio_margin.specs.Need.{ceil_of}
use Rattle.portfolio_margin.specs.Owed.{fill_of, owed_by}
use Rattle.account_need.specs.Exposure.{Portfolio, losses_at}

-- 2^32
abbrev pub unit : ℕ
unit = 4294967296

-- how often an option counts in a bundle
abbrev pub count_if : Bool → ℤ → ℤ
count_if same count = if same then count else pos 0

abbrev pub count_of : List ℤ → List BundleLeg → ℤ
count_of v legs = total (λ (leg : BundleLeg). count_if (is_same_option leg.option v) leg.count) legs

-- what a position owes of an option, fill times count, rounded up
abbrev pub part_owed : List ℤ → Position → ℤ
part_owed v p =
    ceil_of (owed_by p.side (count_of v (bundle_legs p.bundle) *ℤ (fill_of p).numerator) *ℤ pos unit) (fill_of p).denominator

-- an option, and what is owed of it
pub record OptionSum : Type 0 where
  pub option : List ℤ
  pub sum : ℤ

abbrev pub option_in : OptionSum → List ℤ
option_in s = s.option

abbrev pub sum_of : List Position → List ℤ → OptionSum
sum_of positions v = record { option = v; sum = total (part_owed v) positions }

-- each option once, where it first comes
abbrev pub each_once : List (List ℤ) → List (List ℤ)
each_once [] = []
each_once (v ∷ options) = v ∷ filter (λ w. not (is_same_option w v)) (each_once options)

abbrev pub options_of : List BundleLeg → List (List ℤ)
options_of legs = map (λ (leg : BundleLeg). leg.option) legs

abbrev pub options_at : List Position → List (List ℤ)
options_at positions = flat_map (λ (p : Position). options_of (bundle_legs p.bundle)) positions

abbrev pub options_held : List Position → List (List ℤ)
options_held positions = each_once (options_at positions)

-- the sums of all options that are held, in the order in which these first come
abbrev pub sums_held : List Position → List OptionSum
sums_held positions = map (sum_of positions) (options_held positions)

abbrev pub is_some_sum : OptionSum → Bool
is_some_sum s = not (int_eq s.sum (pos 0))

-- those that are not 0
abbrev pub sums_of : List Position → List OptionSum
sums_of positions = filter is_some_sum (sums_held positions)

-- what is owed of these sums at a state
abbrev pub owed_of : List ℕ → List OptionSum → ℤ
owed_of z sums = total (λ (s : OptionSum). s.sum *ℤ pos (payoff s.option z)) sums

-- ---- exposure
-- a portfolio by the sums of its positions
pub record Summed : Type 0 where
  pub sums : List OptionSum
  pub positions : ℕ
  pub live : List Order

abbrev pub summed : Portfolio → Summed
summed p = record { sums = sums_of p.positions; positions = length p.positions; live = p.live }

-- its exposure, in whole numbers of 2^-32
abbrev pub rounded_exposure : Summed → List ℕ → ℤ
rounded_exposure p z = owed_of z p.sums +ℤ pos (unit * losses_at z p.live)
