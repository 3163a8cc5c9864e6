-- The premiums of a cleared batch: each order trades at its own limit price, and the house stands
-- between.
use Rattle.std.specs.Prelude.{ℕ, ◌++◌, List, [], ◌∷◌, pos, int_lt, if◌then◌else◌}
use Rattle.cash_ledger.specs.declared.entry.Entry.{Entry}
use Rattle.cash_ledger.specs.declared.entry.Cause.{Cause}
use Rattle.cash_ledger.specs.declared.entry.Cause.TheVariants.{Premium}
use Rattle.cash_ledger.specs.Entries.{transfer_of}
use Rattle.exact_num.specs.Fraction.{Fraction}
use Rattle.form.specs.declared.orders.Order.{Order}
use Rattle.form.specs.declared.orders.Side.{Side}
use Rattle.form.specs.declared.orders.Side.TheVariants.{Buy, Sell}
use Rattle.frac.specs.declared.frac128.Frac128.{Frac128}
use Rattle.frac.specs.Value.{fraction_of}
use Rattle.settlement.specs.Premium.{premium_of}

-- a buyer pays the house, and the house pays a seller
abbrev pub premium_transfer : Side → ℕ → ℕ → Cause → List Entry
premium_transfer Buy account amount cause = transfer_of account 0 amount cause
premium_transfer Sell account amount cause = transfer_of 0 account amount cause

-- the entries of one fill: its premium moves, even where it is 0; an order that is not filled has
-- none
abbrev pub premiums_of : ℕ → Order → Fraction → List Entry
premiums_of batch order fill =
    if int_lt (pos 0) fill.numerator then premium_transfer order.side order.account (premium_of order.side fill order.price) (Premium batch) else []

-- the entries of a batch, in order of number
abbrev pub premium_entries : ℕ → List Order → List Frac128 → List Entry
premium_entries batch [] fills = []
premium_entries batch (order ∷ orders) [] = []
premium_entries batch (order ∷ orders) (fill ∷ fills) = premiums_of batch order (fraction_of fill) ++ premium_entries batch orders fills
