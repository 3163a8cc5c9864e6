-- The quote of a further order, as its probes give it.
use Rattle.std.specs.Prelude.{ℕ, ◌+◌, ◌-◌, ◌==◌, List, [], ◌∷◌, Option, Some, None, if◌then◌else◌}
use Rattle.std.specs.Option.{option_map_or, option_or}
use Rattle.form.specs.declared.orders.Side.{Side}
use Rattle.form.specs.declared.orders.Side.TheVariants.{Buy, Sell}
use Rattle.form.specs.declared.orders.Order.{Order}
use Rattle.form.specs.declared.orders.Batch.{Batch}
use Rattle.cert_check.specs.declared.outcome.Outcome.{Outcome}
use Rattle.clearing.specs.Outcome.{outcome_of}
use Rattle.option_quotes.specs.declared.quotes.Quoted.{Quoted}
use Rattle.option_quotes.specs.declared.quotes.Quoted.TheVariants.{At, Never, Unmarked}
use Rattle.option_quotes.specs.Probes.{Probe, best_price, worst_price, is_raised, probe_outcome, probes, first_unmarked}

-- the price of the last probe that raised the surplus
abbrev pub last_raising : Outcome → List Probe → Option ℕ
last_raising base [] = None
last_raising base (probe ∷ probes) = option_or (last_raising base probes) (if is_raised base probe.1 then probe.0 else None)

-- the next worse price for a match
abbrev pub next_worse : Side → ℕ → ℕ
next_worse Buy price = price - 1
next_worse Sell price = price + 1

-- the outcome at the next worse price, where there is one
abbrev pub beside_of : Batch → Order → ℕ → ℕ → Option Outcome
beside_of batch order limit price =
    if price == worst_price order.side then None else Some (probe_outcome batch order limit (next_worse order.side price))

-- the quote where each probe is marked optimal, by the price of the last that raised
abbrev pub marked_quote : Batch → Order → ℕ → Option ℕ → Quoted
marked_quote batch order limit None = Never (probe_outcome batch order limit (best_price order.side)) (outcome_of batch limit)
marked_quote batch order limit (Some price) =
    At price (probe_outcome batch order limit price) (beside_of batch order limit price) (outcome_of batch limit)

-- the quote: the first probe that is not marked optimal, else by the price of the last that raised
unfoldable pub quoted_of : Batch → Order → ℕ → Quoted
quoted_of batch order limit =
    let all = probes batch order limit in
    option_map_or (λ (probe : Probe). Unmarked probe.0 probe.1) (first_unmarked all)
    (marked_quote batch order limit (last_raising (outcome_of batch limit) all))
