-- The positions of a cleared batch.
use Rattle.std.specs.Prelude.{ℕ, ◌++◌, List, [], ◌∷◌, pos, int_lt, if◌then◌else◌}
use Rattle.form.specs.declared.orders.Order.{Order}
use Rattle.frac.specs.declared.frac128.Frac128.{Frac128}
use Rattle.frac.specs.Value.{fraction_of}
use Rattle.settlement.specs.declared.position.Position.{Position}

-- what an order holds of its bundle, filled so far in a batch of a market
abbrev pub position_of : ℕ → ℕ → Order → Frac128 → Position
position_of market batch order fill = record {
  market = market;
  batch = batch;
  order = order.id;
  account = order.account;
  side = order.side;
  bundle = order.bundle;
  fill = fill;
}

-- the position of one fill; an order that is not filled has none
abbrev pub positions_of : ℕ → ℕ → Order → Frac128 → List Position
positions_of market batch order fill =
    if int_lt (pos 0) (fraction_of fill).numerator then position_of market batch order fill ∷ [] else []

-- the positions of a batch, in order of number
abbrev pub positions_in : ℕ → ℕ → List Order → List Frac128 → List Position
positions_in market batch [] fills = []
positions_in market batch (order ∷ orders) [] = []
positions_in market batch (order ∷ orders) (fill ∷ fills) = positions_of market batch order fill ++ positions_in market batch orders fills
