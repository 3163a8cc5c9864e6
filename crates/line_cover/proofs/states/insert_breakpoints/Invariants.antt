use Rattle.std.proofs.Common.{◌≡◌, drop, map}
use Rattle.std.specs.List.{filter_map, fold}
use Rattle.form.specs.Payoff.{bundle_legs, leg_of, legs_in}
use Rattle.line_cover.specs.Line.{breakpoint_of_leg}
use Rattle.line_cover.specs.Breakpoints.{insert}
use Rattle.line_cover.specs.Prices.{price_vector}
use Rattle.line_cover.proofs.states.insert_breakpoints.Given as goal

-- the breakpoints that are left, put among those so far, are all of them put among the first
abbrev pub invariant-loop-leg : goal.invariant-loop-leg
invariant-loop-leg l =
    fold insert (map price_vector l.prices.items) (filter_map breakpoint_of_leg (map leg_of (drop l.leg-index (legs_in l.bundle))))
    ≡ fold insert (map price_vector l.initial.prices.items) (filter_map breakpoint_of_leg (bundle_legs l.bundle))
