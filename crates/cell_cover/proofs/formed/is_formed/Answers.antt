use Rattle.std.proofs.Common.{◌+◌, map, drop, sym, ap, ◌∙◌, arith}
use Rattle.arithmetic.proofs.Lists.{drop_map, drop_map_end}
use Rattle.cell_cover.specs.Formed.{are_formed}
use Rattle.cell_cover.specs.Read.{node_of}
use Rattle.cell_cover.proofs.FormedNodes.{formed_by_nodes, stops_here, goes_past, ends_here, few_more}
use Rattle.cell_cover.proofs.formed.is_formed.Goals as goal

pub returns-then-not-may_follow : goal.returns-then-not-may_follow
returns-then-not-may_follow c =
    let node = c.node-item.result in
    let first = drop_map node_of c.args.nodes.now c.loop-node.node-index node c.loop-node-test.true c.node-item.is in
    sym (formed_by_nodes c.args.count (map node_of c.args.nodes.now) ∙ c.loop-node.invariant.formed ∙ stops_here c.args.count c.loop-node.left (node_of node) _ _ first (sym c.may_follow.ensures ∙ c.if-not-may_follow.true))

pub loop-node-preserved : goal.loop-node-preserved
loop-node-preserved c =
    let node = c.node-item.result in
    let first = drop_map node_of c.args.nodes.now c.loop-node.node-index node c.loop-node-test.true c.node-item.is in
    record {
      formed =
          c.loop-node.invariant.formed ∙ goes_past c.args.count c.loop-node.left (node_of node) _ _ first (sym c.may_follow.ensures ∙ c.if-not-may_follow.false)
          ∙ ap (λ k. are_formed c.args.count k (drop (c.loop-node.node-index + 1) (map node_of c.args.nodes.now))) (sym c.left_behind-left.ensures);
      few = omega (arith, c.loop-node.invariant.few, few_more c.loop-node.left (node_of node), c.left_behind-left.ensures);
    }

pub returns : goal.returns
returns c =
    let none = drop_map_end node_of c.args.nodes.now c.loop-node.node-index c.loop-node-test.false in
    sym (formed_by_nodes c.args.count (map node_of c.args.nodes.now) ∙ c.loop-node.invariant.formed ∙ ends_here c.args.count c.loop-node.left _ none)
