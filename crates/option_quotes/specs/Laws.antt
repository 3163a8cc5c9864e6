-- What holds of the probes of each quote, and of the quote.
use Rattle.std.specs.Prelude.{ℕ, ◌≤◌, length}
use Rattle.form.specs.declared.limits.TheConstants.{MAX_QUANTITY}
use Rattle.form.specs.declared.forms.Form.{Form}
use Rattle.form.specs.declared.orders.Side.{Side}
use Rattle.form.specs.declared.orders.Order.{Order}
use Rattle.form.specs.declared.orders.Batch.{Batch}
use Rattle.option_quotes.specs.ByProbes.{quoted_of}
use Rattle.option_quotes.specs.Implied.{prices_of}
use Rattle.option_quotes.specs.Probes.{further, probes}
use Rattle.option_quotes.specs.Thresholds.{MayBeQuoted, Tells, TellPrices}

-- there are at most 43
abbrev pub ProbesAreFew : Type 0
ProbesAreFew = (batch : Batch) (order : Order) (limit : ℕ) → length (probes batch order limit) ≤ 43

-- the price of a quote is the one from which on a further order raises the greatest surplus of the
-- batch; where it tells none, no price raises it, or a clear is not marked optimal
abbrev pub QuotesAreThresholds : Type 0
QuotesAreThresholds =
    (batch : Batch) (form : Form) (side : Side) (limit : ℕ) → MayBeQuoted batch form
    → Tells batch (further form side) limit (quoted_of batch (further form side) limit)

-- so is each price that is implied; where none is, no price raises it, or a clear is not marked
-- optimal, or one probe more was wanted than a side may have
abbrev pub ImpliedPricesAreThresholds : Type 0
ImpliedPricesAreThresholds =
    (batch : Batch) (form : Form) (quantity limit : ℕ) → MayBeQuoted batch form → 1 ≤ quantity → quantity ≤ MAX_QUANTITY
    → TellPrices batch form quantity limit (prices_of batch form quantity limit)
