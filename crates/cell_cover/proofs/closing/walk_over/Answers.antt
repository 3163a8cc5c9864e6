use Rattle.std.proofs.Common.{◌-◌, ap, sym, ◌∙◌, Ok, Err}
use Rattle.arithmetic.proofs.Lists.{drop_map}
use Rattle.frac.specs.Range.{limit}
use Rattle.frac.specs.Value.{fraction_of}
use Rattle.cell_cover.specs.Read.{node_of}
use Rattle.cell_cover.specs.Kept.{state_of, taken_as}
use Rattle.cell_cover.specs.Kinked.{classes_as}
use Rattle.cell_cover.specs.NodeWalk.{Fails, Ends, GoesOn}
use Rattle.cell_cover.specs.Verdicts.{verdict_of}
use Rattle.cell_cover.proofs.NodeWalks.{walk_by}
use Rattle.cell_cover.proofs.closing.walk_over.Goals as goal

pub returns-in-Ended : goal.returns-in-Ended
returns-in-Ended c =
    let kinked = c.args.kinked in
    let n = kinked.entries in
    let node = c.node-item.result in
    let first = drop_map node_of c.args.nodes.now c.loop-node.node-index node c.loop-node-test.true c.node-item.is in
    let step = sym (ap (λ t. taken_as n t c.take.new.self) c.in-Ended.is) ∙ c.in_ok-take.ensures.step in
    ap verdict_of (sym (c.loop-node.invariant.nodes ∙ walk_by limit (n - 1) (classes_as kinked) (fraction_of kinked.liability.now) _ _ (node_of node) (state_of n c.loop-node.walk) (Ok Ends) first step))

pub returns-in-Open : goal.returns-in-Open
returns-in-Open c =
    let kinked = c.args.kinked in
    let n = kinked.entries in
    let node = c.node-item.result in
    let first = drop_map node_of c.args.nodes.now c.loop-node.node-index node c.loop-node-test.true c.node-item.is in
    let step = sym (ap (λ t. taken_as n t c.take.new.self) c.in-Open.is) ∙ c.in_ok-take.ensures.step in
    ap verdict_of (sym (c.loop-node.invariant.nodes ∙ walk_by limit (n - 1) (classes_as kinked) (fraction_of kinked.liability.now) _ _ (node_of node) (state_of n c.loop-node.walk) (Ok Fails) first step))

pub returns-in-Wide : goal.returns-in-Wide
returns-in-Wide c =
    let kinked = c.args.kinked in
    let n = kinked.entries in
    let node = c.node-item.result in
    let first = drop_map node_of c.args.nodes.now c.loop-node.node-index node c.loop-node-test.true c.node-item.is in
    let step = sym (ap (λ t. taken_as n t c.take.new.self) c.in-Wide.is) ∙ c.in_ok-take.ensures.step in
    ap verdict_of (sym (c.loop-node.invariant.nodes ∙ walk_by limit (n - 1) (classes_as kinked) (fraction_of kinked.liability.now) _ _ (node_of node) (state_of n c.loop-node.walk) (Err c.in-Wide.wide) first step))

pub loop-node-preserved : goal.loop-node-preserved
loop-node-preserved c =
    let kinked = c.args.kinked in
    let n = kinked.entries in
    let node = c.node-item.result in
    let first = drop_map node_of c.args.nodes.now c.loop-node.node-index node c.loop-node-test.true c.node-item.is in
    let step = sym (ap (λ t. taken_as n t c.take.new.self) c.in-On.is) ∙ c.in_ok-take.ensures.step in
    record {
      as_many = c.in_ok-take.ensures.as_many ∙ c.loop-node.invariant.as_many;
      nodes = c.loop-node.invariant.nodes ∙ walk_by limit (n - 1) (classes_as kinked) (fraction_of kinked.liability.now) _ _ (node_of node) (state_of n c.loop-node.walk) (Ok (GoesOn (state_of n c.take.new.self))) first step;
    }
