use Rattle.std.proofs.Common.{◌≡◌, drop, map}
use Rattle.std.specs.List.{filter_map}
use Rattle.exact_num.specs.Steps.{all_of}
use Rattle.form.specs.Payoff.{bundle_legs, leg_of, legs_in}
use Rattle.line_cover.specs.Line.{breakpoint_of_leg, holds_for}
use Rattle.line_cover.proofs.filled.Filled.holds_at_legs.Given as goal

-- the breakpoints that are left decide
abbrev pub invariant-loop-leg : goal.invariant-loop-leg
invariant-loop-leg l =
    let holds = holds_for l.self.orders.now l.self.fills.now l.self.liability.now in
    all_of holds (filter_map breakpoint_of_leg (bundle_legs l.bundle))
    ≡ all_of holds (filter_map breakpoint_of_leg (map leg_of (drop l.leg-index (legs_in l.bundle))))
