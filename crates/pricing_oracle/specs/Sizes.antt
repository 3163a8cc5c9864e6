-- The sizes of rooms for searches.
use Rattle.std.specs.Prelude.{ℕ, ◌≤◌}
use Rattle.form.specs.declared.orders.Batch.{Batch}
use Rattle.sign_tree.specs.Legs.{leg_count}
use Rattle.pricing_oracle.specs.declared.sizes.SearchSizes.{SearchSizes}

-- what a search over the batch with so many units takes
abbrev pub sizes_for : Batch → ℕ → SearchSizes
sizes_for batch units = record { underlyings = batch.underlyings; legs = leg_count batch.orders; units = units }

-- each size is at most that of the others
abbrev pub AreWithin : SearchSizes → SearchSizes → Type 0
AreWithin sizes others = (sizes.underlyings ≤ others.underlyings) × (sizes.legs ≤ others.legs) × (sizes.units ≤ others.units)
