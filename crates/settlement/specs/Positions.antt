-- What a contract sees of positions, and what is paid out for them.
use Rattle.std.specs.Prelude.{ℕ, ℤ, pos, negsuc, unsigned_abs, Bool, not, nat_eq, List, filter, map}
use Rattle.std.specs.List.{All}
use Rattle.form.specs.declared.orders.Side.{Side}
use Rattle.form.specs.declared.orders.Side.TheVariants.{Buy, Sell}
use Rattle.form.specs.Payoff.{bundle_legs}
use Rattle.frac.specs.Value.{fraction_of}
use Rattle.settlement.specs.declared.position.Position.{Position}
use Rattle.settlement.specs.declared.position.PaidOut.{PaidOut}
use Rattle.settlement.specs.Payout.{IsHolding, IsSettledAt, gain_of}

pub record PositionsState : Type 0 where
  -- the positions, in the order in which they were added
  pub list : List Position
  -- how many positions may come without more memory
  pub spare : ℕ

abbrev pub IsHeldPosition : Position → Type 0
IsHeldPosition position = IsHolding position.bundle (fraction_of position.fill)

abbrev pub is_of : ℕ → Position → Bool
is_of market position = nat_eq position.market market

-- the positions of a market, and the others
abbrev pub held_in : ℕ → List Position → List Position
held_in market positions = filter (is_of market) positions

abbrev pub outside : ℕ → List Position → List Position
outside market positions = filter (λ position. not (is_of market position)) positions

-- the house pays a gain to the trader, and is paid a loss
abbrev pub paid_side : ℤ → Side
paid_side (pos n) = Buy
paid_side (negsuc n) = Sell

abbrev pub gain_at : List ℕ → Position → ℤ
gain_at prices position = gain_of position.side (fraction_of position.fill) (bundle_legs position.bundle) prices

abbrev pub paid_out : List ℕ → Position → PaidOut
paid_out prices position = record {
  batch = position.batch;
  order = position.order;
  account = position.account;
  side = paid_side (gain_at prices position);
  amount = unsigned_abs (gain_at prices position);
}

-- one payout for each position of the market, in their order
abbrev pub payouts_of : ℕ → List ℕ → List Position → List PaidOut
payouts_of market prices positions = map (paid_out prices) (held_in market positions)

-- each position of the market can be settled at the prices
abbrev pub AreSettledAt : ℕ → List ℕ → List Position → Type 0
AreSettledAt market prices positions = All (λ (position : Position). IsSettledAt prices position.bundle) (held_in market positions)
