-- Covers of the code as those of the model.
use Rattle.std.specs.Prelude.{map}
use Rattle.frac.specs.Value.{fraction_of}
use Rattle.cell_cover.specs.Cells.{ClassMultiplier, CellNode, SplitNode, BoundNode, LeafNode}
use Rattle.cell_cover.specs.declared.cover.Multiplier.{Multiplier}
use Rattle.cell_cover.specs.declared.cover.Node.{Node}
use Rattle.cell_cover.specs.declared.cover.Node.TheVariants.{Split, Bound, Leaf}

abbrev pub multiplier_of : Multiplier → ClassMultiplier
multiplier_of m = record { class = m.class; by = fraction_of m.by }

abbrev pub node_of : Node → CellNode
node_of (Split class) = SplitNode class
node_of (Bound class minus plus) = BoundNode class (map multiplier_of minus) (map multiplier_of plus)
node_of (Leaf full multipliers) = LeafNode full (map multiplier_of multipliers)
