use Rattle.std.proofs.Common.{ap, ◌∙◌}
use Rattle.exact_num.proofs.Loops.{first_holds}
use Rattle.line_cover.specs.Line.{holds_for}
use Rattle.line_cover.proofs.filled.Filled.line_holds.Goals as goal

pub returns : goal.returns
returns c =
    let holds = holds_for c.args.self.now.orders.now c.args.self.now.fills.now c.args.self.now.liability.now in
    first_holds _ _ _ _ _ (c.holds_at.ensures ∙ ap holds c.price_state.ensures.entries) c.in_ok-holds_at.was c.if-not-branch.false
    (first_holds _ _ _ _ _ c.holds_at_breaks.ensures c.in_ok-holds_at_breaks.was c.if-not-branch-2.false (c.holds_at-2.ensures ∙ ap holds c.price_state-2.ensures.entries))
