-- The sizes of a tree by the units that are spent, and the room that is left for it.
use Rattle.std.proofs.Common.{◌≡◌, ℕ, ◌+◌, ◌<◌, ◌≤◌, List, length, map, arith, refl, ap, subst, Ok, None}
use Rattle.std.specs.Prelude.{vec_capacity, vec_len}
use Rattle.std.proofs.lemmas.List.{length-append, length-map}
use Rattle.clearing_model.specs.Tree.{Sign}
use Rattle.clearing_model.specs.Written.{PlacedMultiplier, WrittenTree, nodes_of, multipliers_of}
use Rattle.sign_tree.specs.Read.{node_of, placed_of}
use Rattle.simplex_run.specs.Ending.{done}
use Rattle.master_program.specs.Search.{Question, leaf, splits, closed, node_end, search_from}
use Rattle.search_laws.specs.Search.{IsAsked}
use Rattle.search_laws.specs.Sizes.{IsNodePaid, IsPaid}
use Rattle.search_laws.proofs.Sizes.{branches_are_paid, nodes_are_paid}
use Rattle.pricing_oracle.specs.declared.node.Shown.TheVariants.{Splits}
use Rattle.pricing_oracle.specs.declared.node.TreeParts.{TreeParts}
use Rattle.pricing_oracle.specs.declared.node.NodeRoom.{NodeRoom}
use Rattle.pricing_oracle.specs.Programs.{HasSameSize}
use Rattle.pricing_oracle.specs.Rooms.{HasNodeRoom, HasRoom, HasTreeRoom, KeepsRoom}
use Rattle.pricing_oracle.specs.Searches.{HasSearched, HasShown, WrittenParts, parts_of, with_tree}

-- a leaf has spent a unit for its node and for each multiplier
pub leaf_sized : (q : Question) (signs : List Sign) (spent units : ℕ) (ms : List PlacedMultiplier) → IsAsked q → node_end q signs spent ≡ done (leaf ms) units → spent + 1 + length ms ≤ units
leaf_sized q signs spent units ms asked h = subst (IsNodePaid spent) h (nodes_are_paid q signs spent asked)

split_sized : (q : Question) (signs : List Sign) (spent units place : ℕ) → IsAsked q → node_end q signs spent ≡ done (splits place) units → spent + 2 ≤ units
split_sized q signs spent units place asked h = subst (IsNodePaid spent) h (nodes_are_paid q signs spent asked)

tree_sized : (q : Question) (depth : ℕ) (signs : List Sign) (spent units : ℕ) (tree : WrittenTree) → IsAsked q → search_from q depth signs spent ≡ done (closed tree) units
    → spent + (length (nodes_of tree) + length (multipliers_of tree)) ≤ units
tree_sized q depth signs spent units tree asked h = subst (IsPaid spent) h (branches_are_paid q depth signs spent asked)

-- the lists of a tree, by what is written
as_written : (tree : TreeParts) (parts : WrittenParts) → parts_of tree ≡ parts → (vec_len tree.nodes ≡ length parts.nodes) × (vec_len tree.multipliers ≡ length parts.multipliers)
as_written tree parts is = (
  omega (arith, ap (λ (p : WrittenParts). length p.nodes) is, length-map tree.nodes.items node_of, tree.nodes.ok),
  omega (arith, ap (λ (p : WrittenParts). length p.multipliers) is, length-map tree.multipliers.items placed_of, tree.multipliers.ok),
)

keeps_room : (old new : TreeParts) (limit : ℕ) → KeepsRoom old new → HasTreeRoom limit old → HasTreeRoom limit new
keeps_room old new limit kept room = record { nodes = omega (arith, kept.0, room.nodes); multipliers = omega (arith, kept.1, room.multipliers) }

-- a node that splits leaves the tree as it was, and room for one node more
pub room_at_split : (q : Question) (signs : List Sign) (before spent limit place : ℕ) (old new : TreeParts) → IsAsked q → HasRoom old before limit → KeepsRoom old new
    → HasShown (parts_of old) (parts_of new) (node_end q signs before) (Ok (Splits place)) spent → HasRoom new spent limit × (vec_len new.nodes < spent)
room_at_split q signs before spent limit place old new asked room kept (parts, ends) =
    let sized = split_sized q signs before spent place asked ends in
    let now = as_written new (parts_of old) parts in
    let were = as_written old (parts_of old) refl in (
      record {
        nodes = omega (arith, sized, now.0, were.0, room.nodes);
        multipliers = omega (arith, sized, now.1, were.1, room.multipliers);
        room = keeps_room old new limit kept room.room;
      },
      omega (arith, sized, now.0, were.0, room.nodes),
    )

-- which the split then takes
pub split_added : (old new : TreeParts) (spent limit : ℕ) → HasRoom old spent limit → vec_len old.nodes < spent → vec_len new.nodes ≡ vec_len old.nodes + 1 → new.multipliers ≡ old.multipliers → KeepsRoom old new → HasRoom new spent limit
split_added old new spent limit room one more same kept =
    record {
      nodes = omega (arith, one, more);
      multipliers = omega (arith, ap (λ (ms : _). vec_len ms) same, room.multipliers);
      room = keeps_room old new limit kept room.room;
    }

-- a side that closes leaves room
pub room_after : (q : Question) (depth : ℕ) (signs : List Sign) (before spent limit : ℕ) (old new : TreeParts) → IsAsked q → HasRoom old before limit → KeepsRoom old new
    → HasSearched (parts_of old) (parts_of new) (search_from q depth signs before) (Ok None) spent → HasRoom new spent limit
room_after q depth signs before spent limit old new asked room kept (tree, parts, ends) =
    let sized = tree_sized q depth signs before spent tree asked ends in
    let now = as_written new (with_tree (parts_of old) tree) parts in
    let were = as_written old (parts_of old) refl in
    record {
      nodes = omega (arith, sized, now.0, were.0, length-append (map node_of old.nodes.items) (nodes_of tree), room.nodes);
      multipliers = omega (arith, sized, now.1, were.1, length-append (map placed_of old.multipliers.items) (multipliers_of tree), room.multipliers);
      room = keeps_room old new limit kept room.room;
    }

-- room for a node serves one with as many legs
pub room_for : {A : Type 0} (underlyings legs more : ℕ) (old new : NodeRoom A) → more ≡ legs → HasNodeRoom underlyings legs old → HasSameSize old.space new.space → vec_capacity old.row ≤ vec_capacity new.row → HasNodeRoom underlyings more new
room_for underlyings legs more old new same room size row =
    record { rows = omega (arith, same, size.0, room.rows); columns = omega (arith, same, size.1, room.columns); row = omega (arith, same, row, room.row) }
