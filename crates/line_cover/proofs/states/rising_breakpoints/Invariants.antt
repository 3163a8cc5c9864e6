use Rattle.std.proofs.Common.{◌≡◌, drop, map}
use Rattle.std.specs.List.{fold}
use Rattle.line_cover.specs.Line.{breakpoints_of}
use Rattle.line_cover.specs.Breakpoints.{insert, in_rising_price}
use Rattle.line_cover.specs.Prices.{price_vector}
use Rattle.line_cover.proofs.states.rising_breakpoints.Given as goal

-- the breakpoints that are left, put among those so far, are all of them
abbrev pub invariant-loop-order : goal.invariant-loop-order
invariant-loop-order l =
    fold insert (map price_vector l.prices.items) (breakpoints_of (drop l.order-index l.orders))
    ≡ in_rising_price (breakpoints_of l.orders)
