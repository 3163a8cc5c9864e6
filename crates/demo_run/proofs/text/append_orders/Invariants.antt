use Rattle.std.proofs.Common.{◌≡◌, ◌*◌, ◌++◌, string_bytes}
use Rattle.demo_run.specs.Draws.{after}
use Rattle.demo_run.specs.Text.{each, order_lines}
use Rattle.demo_run.proofs.text.append_orders.Given as goal

abbrev pub invariant-loop-index : goal.invariant-loop-index
invariant-loop-index l =
    (string_bytes l.text ≡ string_bytes l.initial.text ++ each (order_lines l.initial.draws.state l.count) l.index)
    × (l.draws.state ≡ after (7 * l.index) l.initial.draws.state)
