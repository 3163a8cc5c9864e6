use Rattle.std.proofs.Common.{◌≡◌, drop, take, true, Ok}
use Rattle.exact_num.specs.Steps.{all_of}
use Rattle.line_cover.specs.Line.{breakpoints_of, holds_for}
use Rattle.line_cover.proofs.filled.Filled.holds_at_breaks.Given as goal

-- the breakpoints that are left decide, and it holds at those before
abbrev pub invariant-loop-i : goal.invariant-loop-i
invariant-loop-i l =
    let holds = holds_for l.self.orders.now l.self.fills.now l.self.liability.now in
    (all_of holds (breakpoints_of l.self.orders.now) ≡ all_of holds (breakpoints_of (drop l.i l.self.orders.now)))
    × (all_of holds (breakpoints_of (take l.i l.self.orders.now)) ≡ Ok true)
