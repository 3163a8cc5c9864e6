use Rattle.std.proofs.Common.{◌≡◌, drop, map, zip}
use Rattle.exact_num.specs.Steps.{fold_steps}
use Rattle.frac.specs.Range.{limit}
use Rattle.frac.specs.Value.{fraction_of}
use Rattle.form.specs.States.{vector_of}
use Rattle.line_cover.specs.Net.{add_payoff, net_of}
use Rattle.line_cover.proofs.net.net.Given as goal

-- what is left to add, added to the total, is the whole net
abbrev pub invariant-loop-i : goal.invariant-loop-i
invariant-loop-i l =
    let fills = zip l.orders (map fraction_of l.fills) in
    net_of limit fills (vector_of l.state) ≡ fold_steps (add_payoff limit (vector_of l.state)) (fraction_of l.total) (drop l.i fills)
