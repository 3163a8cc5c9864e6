-- Bundles of one leg with count 1.
use Rattle.std.proofs.Common.{◌≡◌, ℕ, ◌*◌, List, [], ◌∷◌, arith, ℤ, pos, ◌*ℤ◌, refl, ap, ◌∙◌}
use Rattle.std.proofs.lemmas.Int.{ints}
use Rattle.std.proofs.lemmas.List.Elements.{All-head, All-tail}
use Rattle.form.specs.declared.orders.Side.{Side}
use Rattle.form.specs.declared.orders.Side.TheVariants.{Buy, Sell}
use Rattle.form.specs.declared.orders.Order.{Order}
use Rattle.form.specs.Payoff.{payoff, one, over_legs, bundle_of}
use Rattle.clearing_model.specs.Clearing.{Filled}
use Rattle.clearing_model.specs.Legs.{FilledLeg, filled_leg, legs_of}
use Rattle.clearing_model.specs.Measure.{WeightedState, price_of}
use Rattle.market_laws.specs.Single.{OneLegPaysItsOption, GainsAreDifferences, LegsAreOrders, NetIsOfOptions, option_price, exposure_of_side, single_leg}
use Rattle.arithmetic.proofs.Parts.{positive_part_is}

-- p of one leg with count 1
over_one : (p : List ℤ → ℕ) (v : List ℤ) → over_legs p (one v) ≡ pos (p v)
over_one p v = omega (arith, ints)

price_of_one : (v : List ℤ) (points : List WeightedState) → price_of (one v) points ≡ option_price v points
price_of_one v [] = refl
price_of_one v (point ∷ points) = omega (arith, ints, ap (λ (w : ℤ). point.1 *ℤ w) (over_one (λ u. payoff u point.0) v), price_of_one v points)

pub one_leg_pays_its_option : OneLegPaysItsOption
one_leg_pays_its_option = (λ v z. over_one (λ u. payoff u z) v, price_of_one)

pub gains_are_differences : GainsAreDifferences
gains_are_differences limit price = (positive_part_is limit price, positive_part_is price limit)

pub one_leg : (side : Side) (a : ℕ) (v : List ℤ) → filled_leg side a (record { count = pos 1; option = v }) ≡ record { exposure = exposure_of_side side; amount = a; option = v }
one_leg Buy a v =
    let e : a * 1 ≡ a = omega arith in
    rw e refl
one_leg Sell a v =
    let e : a * 1 ≡ a = omega arith in
    rw e refl

abbrev pub IsSingle : (Order → List ℤ) → Filled → Type 0
IsSingle v fill = bundle_of fill.0 ≡ one (v fill.0)

pub legs_are_orders : LegsAreOrders
legs_are_orders v [] h = refl
legs_are_orders v (fill ∷ fills) h =
    let here : bundle_of fill.0 ≡ one (v fill.0) = All-head (IsSingle v) fill fills h in
    let leg = one_leg fill.0.side fill.1 (v fill.0) in
    let rest = legs_are_orders v fills (All-tail (IsSingle v) fill fills h) in
    rw here (ap (λ (l : FilledLeg). l ∷ legs_of fills) leg ∙ ap (λ (ls : List FilledLeg). single_leg v fill ∷ ls) rest)

pub net_is_of_options : NetIsOfOptions
net_is_of_options v [] z h = refl
net_is_of_options v (fill ∷ fills) z h =
    let here = ap (over_legs (λ u. payoff u z)) (All-head (IsSingle v) fill fills h) ∙ over_one (λ u. payoff u z) (v fill.0) in
    rw here (omega (arith, ints, net_is_of_options v fills z (All-tail (IsSingle v) fill fills h)))
