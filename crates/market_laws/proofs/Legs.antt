-- The net over orders is the net over their legs: what is long less what is short. No proof opens
-- `bundle_of`.
use Rattle.std.proofs.Common.{◌≡◌, ℕ, zero, suc, ◌*◌, List, [], ◌∷◌, map, nat_abs, arith, ℤ, pos, negsuc, ◌-ℤ◌, ◌*ℤ◌, refl}
use Rattle.std.proofs.lemmas.Int.{ints}
use Rattle.form.specs.declared.orders.Side.{Side}
use Rattle.form.specs.declared.orders.Side.TheVariants.{Buy, Sell}
use Rattle.arithmetic.specs.Sums.{weigh}
use Rattle.form.specs.Payoff.{BundleLeg, over_legs, bundle_of, payoff}
use Rattle.clearing_model.specs.Clearing.{Filled, bought, sold, if_buy, if_sell, for_side, buys_less_sells, net, premium}
use Rattle.clearing_model.specs.Legs.{Exposure, Long, Short, FilledLeg, exposure_of, filled_leg, legs_of}
use Rattle.market_laws.specs.Laws.{SignedSumsAgree}
use Rattle.arithmetic.proofs.Products.{products}
use Rattle.arithmetic.proofs.Sums.{weigh-append, weigh_pos}

-- the amount, if the leg is long, and else 0; and the same of short ones
abbrev pub if_long : Exposure → ℕ → ℕ
if_long Long amount = amount
if_long Short amount = 0

abbrev pub if_short : Exposure → ℕ → ℕ
if_short Long amount = 0
if_short Short amount = amount

abbrev pub long_amount : FilledLeg → ℕ
long_amount leg = if_long leg.exposure leg.amount

abbrev pub short_amount : FilledLeg → ℕ
short_amount leg = if_short leg.exposure leg.amount

-- f of the legs, added up over the long ones and over the short ones
abbrev pub longs : (FilledLeg → ℕ) → List FilledLeg → ℕ
longs f legs = weigh long_amount f legs

abbrev pub shorts : (FilledLeg → ℕ) → List FilledLeg → ℕ
shorts f legs = weigh short_amount f legs

-- p of a leg's option
abbrev pub of_option : (List ℤ → ℕ) → FilledLeg → ℕ
of_option p leg = p leg.option

abbrev pub pay : List ℕ → FilledLeg → ℕ
pay z leg = payoff leg.option z

-- x, taken for an amount of the side
abbrev pub signed : Side → ℕ → ℤ → ℤ
signed side a x = (x *ℤ pos (if_buy side a)) -ℤ (x *ℤ pos (if_sell side a))

-- one leg is long less short what its order takes of it
leg_is : (side : Side) (a : ℕ) (c : ℤ) (x : ℕ)
    → pos (if_long (exposure_of side c) (a * nat_abs c) * x) -ℤ pos (if_short (exposure_of side c) (a * nat_abs c) * x) ≡ signed side a (c *ℤ pos x)
leg_is Buy a (pos zero) x = omega (arith, ints)
leg_is Buy a (pos (suc n)) x = omega (arith, ints)
leg_is Buy a (negsuc n) x = omega (arith, ints, products)
leg_is Sell a (pos n) x = omega (arith, ints)
leg_is Sell a (negsuc n) x = omega (arith, ints, products)

-- and so are the legs of one order
pub legs_of_order : (p : List ℤ → ℕ) (side : Side) (a : ℕ) (bundle : List BundleLeg)
    → pos (longs (of_option p) (map (filled_leg side a) bundle)) -ℤ pos (shorts (of_option p) (map (filled_leg side a) bundle)) ≡ signed side a (over_legs p bundle)
legs_of_order p side a [] = omega (arith, ints)
legs_of_order p side a (leg ∷ legs) = omega (arith, ints, products, leg_is side a leg.count (p leg.option), legs_of_order p side a legs)

-- and of all orders
pub legs_are : (p : List ℤ → ℕ) (fills : List Filled)
    → buys_less_sells (λ o. over_legs p (bundle_of o)) fills ≡ pos (longs (of_option p) (legs_of fills)) -ℤ pos (shorts (of_option p) (legs_of fills))
legs_are p [] = refl
legs_are p (fill ∷ fills) =
    let here = map (filled_leg fill.0.side fill.1) (bundle_of fill.0) in
    omega (
      arith,
      ints,
      weigh-append long_amount (of_option p) here (legs_of fills),
      weigh-append short_amount (of_option p) here (legs_of fills),
      legs_of_order p fill.0.side fill.1 (bundle_of fill.0),
      legs_are p fills,
    )

pub net_is : (fills : List Filled) (z : List ℕ) → net fills z ≡ pos (longs (pay z) (legs_of fills)) -ℤ pos (shorts (pay z) (legs_of fills))
net_is fills z = legs_are (λ v. payoff v z) fills

abbrev pub price : Filled → ℕ
price fill = fill.0.price

-- what buyers pay, and what sellers get
abbrev pub paid : List Filled → ℕ
paid fills = weigh bought price fills

abbrev pub got : List Filled → ℕ
got fills = weigh sold price fills

pub premium_is : (fills : List Filled) → premium fills ≡ pos (paid fills) -ℤ pos (got fills)
premium_is fills = omega (arith, ints, weigh_pos bought price fills, weigh_pos sold price fills)

-- x for a side is x taken for its amount
pub for_side_is : (side : Side) (a : ℕ) (x : ℤ) → for_side side (x *ℤ pos a) ≡ signed side a x
for_side_is Buy a x = omega (arith, ints)
for_side_is Sell a x = omega (arith, ints)

pub signed_sums_agree : SignedSumsAgree
signed_sums_agree f [] = refl
signed_sums_agree f (fill ∷ fills) = omega (arith, ints, for_side_is fill.0.side fill.1 (f fill.0), signed_sums_agree f fills)
