use Rattle.std.proofs.Common.{refl}
use Rattle.std.proofs.lemmas.Result.{on_ok_weaker}
use Rattle.reply_print.proofs.Behind.{next_node, all_nodes}
use Rattle.reply_print.proofs.printed_outcomes.add_nodes.Goals as goal

pub loop-node-preserved : goal.loop-node-preserved
loop-node-preserved c =
    let l = c.loop-node in
    next_node c.args.nodes.now l.node-index _ c.count_of.result c.split.result.0.now c.split.result.1.now l.left.now l.line.items c.append-in-loop-node.new.line.items c.add_node.new.line.items
    c.comma.result.now _ l.later c.loop-node-test.true c.count_of.ensures c.split.ensures.own c.split.ensures.rest l.invariant c.comma.ensures c.in_ok-append-2.ensures c.in_ok-add_node.ensures

pub returns : goal.returns
returns c =
    let l = c.loop-node in
    on_ok_weaker c.append-2.result
    (λ e. all_nodes c.args.nodes.now l.node-index l.left.now c.args.multipliers.now c.args.line.now.items _ l.line.items c.append-2.new.line.items l.later c.loop-node-test.false
    refl l.invariant e)
    c.append-2.ensures
