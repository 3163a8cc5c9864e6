use Rattle.std.proofs.Common.{◌≡◌, rules, ◌∙◌}
use Rattle.std.specs.List.{filter_map}
use Rattle.exact_num.specs.Steps.{all_of}
use Rattle.form.specs.Payoff.{bundle_legs}
use Rattle.line_cover.specs.Line.{breakpoint_of_leg, holds_for}
use Rattle.line_cover.proofs.BreakSteps.{tests_at, turn_holds, turn_fails, turn_stops}
use Rattle.line_cover.proofs.Earlier.{one_more}
use Rattle.line_cover.proofs.filled.Filled.holds_at_breaks.Goals as goal

pub returns-in_err-holds_at_legs : goal.returns-in_err-holds_at_legs
returns-in_err-holds_at_legs c =
    let holds = holds_for c.args.self.now.orders.now c.args.self.now.fills.now c.args.self.now.liability.now in
    let told : c.holds_at_legs.result ≡ all_of holds (filter_map breakpoint_of_leg (bundle_legs c.index-self-i.result.bundle)) = search rules in
    let left = c.loop-i.invariant.0 ∙ tests_at holds c.args.self.now.orders.now c.loop-i.i c.index-self-i.result c.loop-i-test.true c.index-self-i.is in
    turn_stops _ _ _ c.holds_at_legs.result c.from_residual.result _ left told c.in_err-holds_at_legs.was c.from_residual.ensures.1

pub returns-then-not-branch : goal.returns-then-not-branch
returns-then-not-branch c =
    let holds = holds_for c.args.self.now.orders.now c.args.self.now.fills.now c.args.self.now.liability.now in
    let told : c.holds_at_legs.result ≡ all_of holds (filter_map breakpoint_of_leg (bundle_legs c.index-self-i.result.bundle)) = search rules in
    let left = c.loop-i.invariant.0 ∙ tests_at holds c.args.self.now.orders.now c.loop-i.i c.index-self-i.result c.loop-i-test.true c.index-self-i.is in
    turn_fails _ _ _ c.holds_at_legs.result _ left told c.in_ok-holds_at_legs.was c.if-not-branch.true

pub loop-i-preserved : goal.loop-i-preserved
loop-i-preserved c =
    let holds = holds_for c.args.self.now.orders.now c.args.self.now.fills.now c.args.self.now.liability.now in
    let told : c.holds_at_legs.result ≡ all_of holds (filter_map breakpoint_of_leg (bundle_legs c.index-self-i.result.bundle)) = search rules in
    let left = c.loop-i.invariant.0 ∙ tests_at holds c.args.self.now.orders.now c.loop-i.i c.index-self-i.result c.loop-i-test.true c.index-self-i.is in (
      turn_holds _ _ _ c.holds_at_legs.result _ left told c.in_ok-holds_at_legs.was c.if-not-branch.false,
      one_more holds c.args.self.now.orders.now c.loop-i.i c.index-self-i.result c.holds_at_legs.result _ c.loop-i-test.true c.index-self-i.is
          c.loop-i.invariant.1 told c.in_ok-holds_at_legs.was c.if-not-branch.false,
    )
