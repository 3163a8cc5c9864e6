-- What is taken from the nodes of a tree, a node at a time.
use Rattle.std.proofs.Common.{◌≡◌, ℕ, ◌+◌, List, [], ◌++◌, drop, option_map}
use Rattle.serde_json.specs.View.{items_view}
use Rattle.serde_json.specs.declared.value.Value.{Value}
use Rattle.sign_tree.specs.declared.trees.Node.{Node}
use Rattle.sign_tree.specs.declared.trees.Multiplier.{Multiplier}
use Rattle.reply_text.specs.OutcomeValues.{TreeParts, nodes_from}

-- nodes and multipliers before others
abbrev pub before : List Node → List Multiplier → TreeParts → TreeParts
before nodes ms more = (nodes ++ more.0, ms ++ more.1)

module _ (vs : List Value) where
  -- what is left follows what was taken
  abbrev pub CollectsNodes : ℕ → List Node → List Multiplier → Type 0
  CollectsNodes i nodes ms = nodes_from (items_view vs) ≡ option_map (before nodes ms) (nodes_from (items_view (drop i vs)))
