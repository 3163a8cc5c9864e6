use Rattle.std.proofs.Common.{◌≡◌, ◌+◌, ◌++◌, string_bytes, ◌∙◌, ap, rules, ℕ}
use Rattle.demo_run.specs.Draws.{after}
use Rattle.demo_run.specs.Orders.{order_from, order_line}
use Rattle.demo_run.specs.Text.{clear_line}
use Rattle.demo_run.proofs.Steps.{seven_more}
use Rattle.demo_run.proofs.Lines.{order_more}
use Rattle.demo_run.proofs.text.append_orders.Goals as goal

pub loop-index-preserved : goal.loop-index-preserved
loop-index-preserved c =
    let k = c.loop-index.index in
    let seed = c.args.draws.now.state in
    let before = string_bytes c.loop-index.text in
    let lines : string_bytes c.push_str-in-loop-index.new.self ≡ (before ++ order_line (order_from c.loop-index.draws.state)) ++ clear_line c.args.count (k + 1) = search rules in (
      lines ∙ ap (λ (x : ℕ). (before ++ order_line (order_from x)) ++ clear_line c.args.count (k + 1)) c.loop-index.invariant.1 ∙ order_more seed c.args.count k (string_bytes c.args.text.now) before c.loop-index.invariant.0,
      c.draw-order.ensures.state ∙ ap (after 7) c.loop-index.invariant.1 ∙ seven_more k seed,
    )
