-- Trees, fills and signs of the code as those of the model.
use Rattle.std.specs.Prelude.{zero, suc, ℤ, pos, negsuc}
use Rattle.frac.specs.Value.{fraction_of}
use Rattle.clearing_model.specs.Written.{WrittenNode, SplitNode, LeafNode, PlacedMultiplier}
use Rattle.clearing_model.specs.Tree.{Sign, Unsigned, Plus, Minus}
use Rattle.sign_tree.specs.declared.trees.Node.{Node}
use Rattle.sign_tree.specs.declared.trees.Node.TheVariants.{Split, Leaf}
use Rattle.sign_tree.specs.declared.trees.Multiplier.{Multiplier}

abbrev pub node_of : Node → WrittenNode
node_of (Split place) = SplitNode place
node_of (Leaf count) = LeafNode count

abbrev pub placed_of : Multiplier → PlacedMultiplier
placed_of m = record { place = m.place; by = fraction_of m.by }

-- the sign that a number stands for: 0 is none
abbrev pub sign_of : ℤ → Sign
sign_of (pos zero) = Unsigned
sign_of (pos (suc n)) = Plus
sign_of (negsuc n) = Minus
