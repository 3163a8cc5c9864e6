-- What a clear would tell of a further order.
use Rattle.std.specs.Prelude.{ℕ, ◌≡◌, length, slice_get, Some, unwrap_or}
use Rattle.frac.specs.Value.{fraction_of}
use Rattle.frac.specs.ValueOf.{zero_128}
use Rattle.frac.specs.declared.frac128.Frac128.{Frac128}
use Rattle.form.specs.declared.forms.Form.{Form}
use Rattle.form.specs.declared.orders.Side.{Side}
use Rattle.form.specs.declared.orders.Order.{Order}
use Rattle.form.specs.declared.orders.Batch.{Batch}
use Rattle.clearing_model.specs.Certificate.{IsFill}
use Rattle.cert_check.specs.Laws.{IsCovered}
use Rattle.cert_check.specs.declared.outcome.Outcome.{Outcome}
use Rattle.option_quotes.specs.declared.trying.Tried.{Tried}
use Rattle.option_quotes.specs.Implied.{asked}
use Rattle.option_quotes.specs.Probes.{probe_outcome, with_order}

-- the fill of the order behind those of the batch
abbrev pub fill_behind : Batch → Outcome → Frac128
fill_behind batch outcome = unwrap_or (slice_get outcome.fills (length batch.orders)) zero_128

-- what an outcome of the batch with one order more tells of that order
abbrev pub tried_by : Batch → Outcome → Tried
tried_by batch outcome = record { fill = fill_behind batch outcome; outcome = outcome }

-- the outcome is a clear's of the batch with the order at its end, at its price
unfoldable pub tried_of : Batch → Form → Side → ℕ → ℕ → ℕ → Tried
tried_of batch form side quantity price limit = tried_by batch (probe_outcome batch (asked form side quantity) limit price)

-- the fills cover the surplus, which is not below 0; that of the order is there, and from 0 to its
-- quantity
pub record IsTried (batch : Batch) (order : Order) (tried : Tried) : Type 0 where
  pub covered : IsCovered (with_order batch order) tried.outcome
  pub there : slice_get tried.outcome.fills (length batch.orders) ≡ Some tried.fill
  pub fill : IsFill (order, fraction_of tried.fill)
