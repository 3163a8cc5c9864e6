use Rattle.std.proofs.Common.{◌≡◌, ◌≤◌, ◌+◌, drop, map}
use Rattle.cell_cover.specs.Formed.{are_formed}
use Rattle.cell_cover.specs.Read.{node_of}
use Rattle.cell_cover.proofs.formed.is_formed.Given as goal

-- the nodes from here on are those of as many trees as are left
abbrev pub invariant-loop-node : goal.invariant-loop-node
invariant-loop-node l = record {
  formed : are_formed l.count 1 (map node_of l.nodes) ≡ are_formed l.count l.left (drop l.node-index (map node_of l.nodes));
  few : l.left ≤ l.node-index + 1;
}
