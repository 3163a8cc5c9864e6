-- The room of searches, as its callers see it.
use Rattle.std.specs.Prelude.{ℕ, ◌+◌, ◌≤◌, vec_capacity, vec_len}
use Rattle.sign_tree.specs.declared.trees.SignTree.{SignTree}
use Rattle.pricing_oracle.specs.Programs.{HasSameSize}
use Rattle.pricing_oracle.specs.declared.node.NodeRoom.{NodeRoom}
use Rattle.pricing_oracle.specs.declared.node.TreeParts.{TreeParts}
use Rattle.pricing_oracle.specs.declared.sizes.SearchSizes.{SearchSizes}

-- the sizes of the searches that have room, and the tree of the last one
pub record SearchSpace : Type 0 where
  pub sizes : SearchSizes
  pub tree : SignTree

abbrev pub tree_of : TreeParts → SignTree
tree_of tree = record { nodes = tree.nodes.items; multipliers = tree.multipliers.items }

abbrev pub search_space : SearchSizes → TreeParts → SearchSpace
search_space sizes tree = record { sizes = sizes; tree = tree_of tree }

-- room for a tree of so many nodes and as many multipliers
pub record HasTreeRoom (units : ℕ) (tree : TreeParts) : Type 0 where
  pub nodes : units ≤ vec_capacity tree.nodes
  pub multipliers : units ≤ vec_capacity tree.multipliers

-- a space in which the program of a node with so many legs has room, and room for a row of it
pub record HasNodeRoom {A : Type 0} (underlyings legs : ℕ) (room : NodeRoom A) : Type 0 where
  pub rows : 1 + legs ≤ room.space.rows
  pub columns : underlyings + 1 + legs ≤ room.space.columns
  pub row : underlyings + 1 + legs ≤ vec_capacity room.row

-- that, and room for so many signs and for a tree
pub record IsRoom {A : Type 0} (sizes : SearchSizes) (nodes : NodeRoom A) (signs : ℕ) : Type 0 where
  pub node : HasNodeRoom sizes.underlyings sizes.legs nodes
  pub tree : HasTreeRoom sizes.units nodes.tree
  pub sign_room : sizes.legs ≤ signs

-- the tree has no more nodes and multipliers than units were spent, in room for as many as may be
pub record HasRoom (tree : TreeParts) (spent limit : ℕ) : Type 0 where
  pub nodes : vec_len tree.nodes ≤ spent
  pub multipliers : vec_len tree.multipliers ≤ spent
  pub room : HasTreeRoom limit tree

-- its lists have no less room than before
abbrev pub KeepsRoom : TreeParts → TreeParts → Type 0
KeepsRoom old new = (vec_capacity old.nodes ≤ vec_capacity new.nodes) × (vec_capacity old.multipliers ≤ vec_capacity new.multipliers)

-- no less room than before
pub record KeepsNodeRoom {A : Type 0} (old new : NodeRoom A) : Type 0 where
  pub space : HasSameSize old.space new.space
  pub row : vec_capacity old.row ≤ vec_capacity new.row
  pub tree : KeepsRoom old.tree new.tree
