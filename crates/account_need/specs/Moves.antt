-- What clears, settlements and cancels do to an account's part of a market, and that a balance which
-- is enough stays so.
use Rattle.std.specs.Prelude.{ℕ, ◌≡◌, ◌≤◌, ◌++◌, Bool, List, [], ◌∷◌, length, map, filter, int_lt, ℤ, pos, ◌+ℤ◌, ◌≤ℤ◌}
use Rattle.std.specs.List.{All}
use Rattle.arithmetic.specs.Sums.{total}
use Rattle.form.specs.declared.bundles.Bundle.{Bundle}
use Rattle.form.specs.declared.orders.Order.{Order}
use Rattle.form.specs.declared.orders.Side.{Side}
use Rattle.frac.specs.declared.frac128.Frac128.{Frac128}
use Rattle.frac.specs.Value.{fraction_of}
use Rattle.clearing_model.specs.Certificate.{IsFill}
use Rattle.limits.specs.declared.TheConstants.{MAX_SETTLEMENT_PRICE}
use Rattle.settlement.specs.declared.position.Position.{Position}
use Rattle.settlement.specs.Positions.{gain_at}
use Rattle.settlement.specs.Premium.{premium_of}
use Rattle.portfolio_margin.specs.Owed.{owed_by}
use Rattle.account_need.specs.Exposure.{Portfolio, IsEnough, IsSecured}

-- ---- a clear
-- a live order of the account and its fill
abbrev pub OrderFill : Type 0
OrderFill = Order × Frac128

abbrev pub order_in : OrderFill → Order
order_in fill = fill.0

abbrev pub IsFilled : OrderFill → Type 0
IsFilled fill = IsFill (fill.0, fraction_of fill.1)

abbrev pub is_some_fill : OrderFill → Bool
is_some_fill fill = int_lt (pos 0) (fraction_of fill.1).numerator

-- what a position holds, and what an order holds of its fill
abbrev pub Held : Type 0
Held = Side × Bundle × Frac128

abbrev pub held_of : Position → Held
held_of p = (p.side, p.bundle, p.fill)

abbrev pub held_by : OrderFill → Held
held_by fill = (fill.0.side, fill.0.bundle, fill.1)

-- the account is paid the premium of a sell, rounded down, and pays that of a buy, rounded up
abbrev pub premium_got : OrderFill → ℤ
premium_got fill = owed_by fill.0.side (pos (premium_of fill.0.side (fraction_of fill.1) fill.0.price))

abbrev pub premiums_got : List OrderFill → ℤ
premiums_got fills = total premium_got fills

-- each live order is filled from 0 to its quantity, and is gone; each fill above 0 is a position
pub record IsCleared (before after : Portfolio) (fills : List OrderFill) : Type 0 where
  pub underlyings : after.underlyings ≡ before.underlyings
  pub orders : map order_in fills ≡ before.live
  pub within : All IsFilled fills
  pub held : List Position
  pub positions : after.positions ≡ before.positions ++ held
  pub as_filled : map held_of held ≡ map held_by (filter is_some_fill fills)
  pub gone : after.live ≡ []

abbrev pub ClearsKeep : Type 0
ClearsKeep =
    (before after : Portfolio) (fills : List OrderFill) (balance : ℤ) → IsCleared before after fills
    → IsEnough before balance → IsEnough after (balance +ℤ premiums_got fills)

-- ---- a settlement
-- at prices within the limits each position is paid its gain, rounded down; positions and live
-- orders are gone
pub record IsSettled (before after : Portfolio) (prices : List ℕ) : Type 0 where
  pub on : length prices ≡ before.underlyings
  pub within : All (λ price. price ≤ MAX_SETTLEMENT_PRICE) prices
  pub paid_out : after.positions ≡ []
  pub lapsed : after.live ≡ []

abbrev pub gains_at : List ℕ → Portfolio → ℤ
gains_at prices p = total (gain_at prices) p.positions

abbrev pub SettlementsKeep : Type 0
SettlementsKeep =
    (before after : Portfolio) (prices : List ℕ) (balance : ℤ) → IsSettled before after prices
    → IsEnough before balance → IsEnough after (balance +ℤ gains_at prices before)

-- ---- a cancel, and a lapse
-- some live orders are taken out
pub record IsCancelled (before after : Portfolio) (stays : Order → Bool) : Type 0 where
  pub underlyings : after.underlyings ≡ before.underlyings
  pub positions : after.positions ≡ before.positions
  pub live : after.live ≡ filter stays before.live

abbrev pub CancelsKeep : Type 0
CancelsKeep =
    (before after : Portfolio) (stays : Order → Bool) (balance : ℤ) → IsCancelled before after stays
    → IsEnough before balance → IsEnough after balance

-- ---- an account
-- where one market moves, and what is enough for it stays enough with what it pays, the account
-- stays secured
abbrev pub MovesKeepSecured : Type 0
MovesKeepSecured =
    (front back : List Portfolio) (before after : Portfolio) (paid : ℤ) (balance : ℤ)
    → ((part : ℤ) → IsEnough before part → IsEnough after (part +ℤ paid))
    → IsSecured (front ++ before ∷ back) balance → IsSecured (front ++ after ∷ back) (balance +ℤ paid)

-- a balance that secures is not below 0, and each above it secures too
abbrev pub SecuredCanPay : Type 0
SecuredCanPay = (markets : List Portfolio) (balance : ℤ) → IsSecured markets balance → pos 0 ≤ℤ balance

abbrev pub MoreIsSecured : Type 0
MoreIsSecured = (markets : List Portfolio) (balance more : ℤ) → balance ≤ℤ more → IsSecured markets balance → IsSecured markets more
