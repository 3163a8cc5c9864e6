-- What the code is given of an account, and what it finds on the way.
use Rattle.std.specs.Prelude.{ℕ, ℤ, ◌≤◌, ◌+◌, ◌*◌, ◌^◌, List, length, map, unsigned_abs, Result, Ok, Err}
use Rattle.std.specs.List.{All}
use Rattle.form.specs.declared.limits.TheConstants.{MAX_OPTIONS, MAX_UNDERLYINGS}
use Rattle.frac.specs.Range.{limit as largest}
use Rattle.settlement.specs.Positions.{IsHeldPosition}
use Rattle.account_need.specs.declared.market.Market.{Market}
use Rattle.account_need.specs.declared.sums.FormSum.{FormSum}
use Rattle.account_need.specs.declared.need.NoNeed.{NoNeed}
use Rattle.account_need.specs.Account.{Numbered, bound_of}
use Rattle.account_need.specs.Exposure.{Portfolio, asked_by}
use Rattle.account_need.specs.Prices.{IsOrderOn, IsPositionOn}
use Rattle.account_need.specs.Rounded.{summed, unit}
use Rattle.account_need.specs.Several.{Bounded}

-- a market on 1 to 8 underlyings, with positions and orders for bundles within the limits on just
-- these; at most 2^24 positions
pub record IsMarket (m : Market) : Type 0 where
  pub some : 1 ≤ m.underlyings
  pub few : m.underlyings ≤ MAX_UNDERLYINGS
  pub held : All IsHeldPosition m.positions.items
  pub counted : length m.positions.items ≤ 2 ^ 24
  pub positions : All (IsPositionOn (m.underlyings + 1)) m.positions.items
  pub orders : All (IsOrderOn (m.underlyings + 1)) m.live.items

abbrev pub portfolio_of : Market → Portfolio
portfolio_of m =
    record { underlyings = m.underlyings; positions = m.positions.items; live = m.live.items }

abbrev pub numbered_of : Market → Numbered
numbered_of m = (m.number, portfolio_of m)

abbrev pub numbered : List Market → List Numbered
numbered markets = map numbered_of markets

-- a sum that may stand in a batch
abbrev pub IsBatched : FormSum → Type 0
IsBatched s = unsigned_abs s.sum ≤ MAX_OPTIONS * unit

-- a bound and units, in numbers of the code
abbrev pub IsFound : ℤ × ℕ → Type 0
IsFound found = (unsigned_abs found.0 ≤ largest) × (found.1 ≤ 200)

-- ---- what a market may ask
abbrev pub Asked : Type 0
Asked = Result (ℕ × ℕ) NoNeed

abbrev pub asked_by_bound : Portfolio → Bounded → Asked
asked_by_bound p (Ok (S, spent)) = Ok (asked_by p S, spent)
asked_by_bound p (Err word) = Err word

abbrev pub asked_in : ℕ → Portfolio → Asked
asked_in spent p = asked_by_bound p (bound_of p.underlyings spent (summed p))

-- in numbers of the code
abbrev pub IsAsked : ℕ × ℕ → Type 0
IsAsked asked = (asked.0 ≤ largest + 2 ^ 80) × (asked.1 ≤ 200)
