-- What an account has in one market, what that may cost it at each state of the box, and the
-- balance that is enough for it.
use Rattle.std.specs.Prelude.{ℕ, ◌+◌, ◌*◌, ◌≡◌, ◌≤◌, List, [], ◌∷◌, length, ℤ, pos, neg_ℤ, ◌+ℤ◌, ◌-ℤ◌, ◌*ℤ◌, ◌≤ℤ◌}
use Rattle.std.specs.List.{All}
use Rattle.arithmetic.specs.Sums.{positive_part, total, weigh}
use Rattle.form.specs.declared.orders.Order.{Order}
use Rattle.form.specs.declared.orders.Side.{Side}
use Rattle.form.specs.declared.orders.Side.TheVariants.{Buy, Sell}
use Rattle.form.specs.Payoff.{bundle_legs, bundle_payoff, scale_of}
use Rattle.clearing_model.specs.Clearing.{if_buy}
use Rattle.limits.specs.declared.TheConstants.{MAX_SETTLEMENT_PRICE}
use Rattle.settlement.specs.declared.position.Position.{Position}
use Rattle.portfolio_margin.specs.Owed.{IsDenominator, fills_of, owed_over}

-- an account's positions and live orders in a market on so many underlyings
pub record Portfolio : Type 0 where
  pub underlyings : ℕ
  pub positions : List Position
  pub live : List Order

-- the box: the settlements (t, s) of n underlyings at prices of at most 10^9
pub record IsInBox (n t : ℕ) (s : List ℕ) : Type 0 where
  pub settlement : 1 ≤ t
  pub on : length s ≡ n
  pub within : All (λ x. x ≤ MAX_SETTLEMENT_PRICE * t) s

-- ---- live orders
-- what one bundle of a live order costs at a state, if it is filled: a sell what the bundle pays less
-- the price, and a buy what it is to pay. The premium of a buy is reserved, whole
abbrev pub cost_by : Side → ℕ → ℤ → ℤ
cost_by Buy price pays = neg_ℤ pays
cost_by Sell price pays = pays -ℤ pos price

abbrev pub cost_at : List ℕ → Order → ℤ
cost_at z order = cost_by order.side (order.price * scale_of z) (bundle_payoff (bundle_legs order.bundle) z)

-- and what it may lose: nothing where it is not filled
abbrev pub loss_at : List ℕ → Order → ℕ
loss_at z order = positive_part (cost_at z order)

abbrev pub quantity_of : Order → ℕ
quantity_of order = order.quantity

abbrev pub losses_at : List ℕ → List Order → ℕ
losses_at z live = weigh quantity_of (loss_at z) live

-- what is reserved for a live buy: quantity times price
abbrev pub reserve_for : Order → ℕ
reserve_for order = if_buy order.side (order.quantity * order.price)

abbrev pub reserve_of : List Order → ℕ
reserve_of [] = 0
reserve_of (order ∷ live) = reserve_for order + reserve_of live

-- ---- exposure
-- over D, a common denominator of the fills: what the positions owe at the state, and what the live
-- orders may lose there
abbrev pub exposure_over : ℕ → Portfolio → List ℕ → ℤ
exposure_over D p z = owed_over D p.positions z +ℤ pos (D * losses_at z p.live)

-- the exposure is at most S times t at each state of the box
abbrev pub Covers : Portfolio → ℤ → Type 0
Covers p S =
    (t : ℕ) (s : List ℕ) → IsInBox p.underlyings t s
    → (D : ℕ) → IsDenominator D (fills_of p.positions) → exposure_over D p (t ∷ s) ≤ℤ (S *ℤ pos (D * t))

-- ---- the need
-- what a market may ask where the exposure is at most S: a tick more for each position and two for
-- each live order, since payoffs and premiums are rounded
abbrev pub asked_for : List Order → ℕ → ℤ → ℕ
asked_for live positions S = reserve_of live + positive_part (S +ℤ pos (positions + 2 * length live))

abbrev pub asked_by : Portfolio → ℤ → ℕ
asked_by p S = asked_for p.live (length p.positions) S

-- a balance that is enough for the market. Of a bound that is no whole number only the whole number
-- above counts, so that S is whole
pub record IsEnough (p : Portfolio) (balance : ℤ) : Type 0 where
  pub bound : ℤ
  pub covers : Covers p bound
  pub asked : pos (asked_by p bound) ≤ℤ balance

-- the true need of the market: the least balance that is enough
pub record IsTrueNeed (p : Portfolio) (need : ℕ) : Type 0 where
  pub enough : IsEnough p (pos need)
  pub least : (balance : ℤ) → IsEnough p balance → pos need ≤ℤ balance

-- ---- an account
-- each market has its part of a balance, and that is enough
abbrev pub AreEnough : List Portfolio → List ℤ → Type 0
AreEnough [] [] = Unit {0}
AreEnough [] (part ∷ parts) = ⊥
AreEnough (p ∷ ps) [] = ⊥
AreEnough (p ∷ ps) (part ∷ parts) = IsEnough p part × AreEnough ps parts

-- the balance is at least the true needs of all markets together
pub record IsSecured (markets : List Portfolio) (balance : ℤ) : Type 0 where
  pub parts : List ℤ
  pub enough : AreEnough markets parts
  pub sum : total (λ part. part) parts ≤ℤ balance
