-- The premiums of whole fills, side by side.
use Rattle.std.specs.Prelude.{ℕ, ◌+◌, ◌*◌, List, [], ◌∷◌}
use Rattle.clearing_model.specs.Clearing.{Filled, bought, sold}
use Rattle.form.specs.declared.orders.Side.{Side}
use Rattle.form.specs.declared.orders.Side.TheVariants.{Buy, Sell}

-- the amount of a fill, where its order is on the side, and else 0
abbrev pub amount_on : Side → Filled → ℕ
amount_on Buy fill = bought fill
amount_on Sell fill = sold fill

-- what the fills on a side pay
abbrev pub paid_total : Side → List Filled → ℕ
paid_total side [] = 0
paid_total side (fill ∷ fills) = fill.0.price * amount_on side fill + paid_total side fills
