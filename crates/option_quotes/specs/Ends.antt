-- A price at which an order raises the surplus and a worse one at which it does not.
use Rattle.std.specs.Prelude.{ℕ, ◌≡◌, ◌<◌, ◌≤◌, true, false}
use Rattle.form.specs.declared.orders.Side.{Side}
use Rattle.form.specs.declared.orders.Side.TheVariants.{Buy, Sell}
use Rattle.form.specs.declared.orders.Order.{Order}
use Rattle.form.specs.declared.orders.Batch.{Batch}
use Rattle.form.specs.Limits.{IsWithinLimits}
use Rattle.form.specs.declared.limits.TheConstants.{MAX_BUDGET, MAX_PRICE}
use Rattle.cert_check.specs.declared.outcome.Outcome.{Outcome}
use Rattle.option_quotes.specs.declared.ends.Probed.{Probed}
use Rattle.option_quotes.specs.declared.ends.Ends.{Ends}
use Rattle.option_quotes.specs.declared.probes.Probing.{Probing}
use Rattle.option_quotes.specs.Probes.{is_optimal, is_raised, probe_outcome, with_order}

-- the batch with the order is within the limits, and the work may be so much
pub record IsProbing (p : Probing) : Type 0 where
  pub within : IsWithinLimits (with_order p.batch.now p.order)
  pub work : (1 ≤ p.limit) × (p.limit ≤ MAX_BUDGET)

-- the outcome is that of the batch with the order at this price, and marked optimal
pub record IsProbed (batch : Batch) (order : Order) (limit : ℕ) (p : Probed) : Type 0 where
  pub within : p.price ≤ MAX_PRICE
  pub is : p.outcome ≡ probe_outcome batch order limit p.price
  pub optimal : is_optimal p.outcome ≡ true

-- for a match the price q is better than p
abbrev pub IsBetter : Side → ℕ → ℕ → Type 0
IsBetter Buy p q = p < q
IsBetter Sell p q = q < p

pub record AreEnds (batch : Batch) (order : Order) (limit : ℕ) (base : Outcome) (ends : Ends) : Type 0 where
  pub raising : IsProbed batch order limit ends.raising
  pub other : IsProbed batch order limit ends.other
  pub raised : is_raised base ends.raising.outcome ≡ true
  pub not_raised : is_raised base ends.other.outcome ≡ false
  pub better : IsBetter order.side ends.other.price ends.raising.price
