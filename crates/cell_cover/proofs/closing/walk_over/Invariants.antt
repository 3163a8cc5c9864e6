use Rattle.std.proofs.Common.{◌≡◌, ◌-◌, drop, length, map}
use Rattle.frac.specs.Range.{limit}
use Rattle.frac.specs.Value.{fraction_of}
use Rattle.cell_cover.specs.Read.{node_of}
use Rattle.cell_cover.specs.Kept.{state_of}
use Rattle.cell_cover.specs.Kinked.{classes_as}
use Rattle.cell_cover.specs.NodeWalk.{walk_nodes}
use Rattle.cell_cover.proofs.closing.walk_over.Given as goal

-- the nodes from here on decide
abbrev pub invariant-loop-node : goal.invariant-loop-node
invariant-loop-node l = record {
  as_many : length l.walk.known.items ≡ length l.kinked.classes.now;
  nodes : walk_nodes limit (l.kinked.entries - 1) (classes_as l.kinked) (fraction_of l.kinked.liability.now) (map node_of l.nodes) (state_of l.kinked.entries l.fn.walk)
      ≡ walk_nodes limit (l.kinked.entries - 1) (classes_as l.kinked) (fraction_of l.kinked.liability.now) (drop l.node-index (map node_of l.nodes)) (state_of l.kinked.entries l.walk);
}
