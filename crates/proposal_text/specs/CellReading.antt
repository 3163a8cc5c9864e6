-- A cover by cells: its shape, whether its texts are numbers, and the nodes that are taken out, where
-- they are within their ranges.
use Rattle.std.specs.Prelude.{ℕ, List, [], ◌∷◌, length, Bool, true, false, ◌&&◌, ◌||◌, not, nat_lt, nat_le, Option, Some, None, option_map, option_and_then, unwrap_or, codes, if◌then◌else◌}
use Rattle.frac.specs.declared.frac128.Frac128.{Frac128}
use Rattle.cell_cover.specs.declared.cover.Multiplier.{Multiplier}
use Rattle.cell_cover.specs.declared.cover.Node.{Node}
use Rattle.cell_cover.specs.declared.cover.Node.TheVariants.{Split, Bound, Leaf}
use Rattle.serde_json.specs.Data.{Data, Items, no_items, item}
use Rattle.serde_json.specs.Find.{get, as_array, as_number, as_u64}
use Rattle.reply_print.specs.Look.{has_members, has_at, is_whole, is_text, is_list}
use Rattle.reply_print.specs.NumberTexts.{is_fraction}
use Rattle.reply_text.specs.BatchValues.{fraction_from}
use Rattle.reply_text.specs.Taking.{items_at, list_at, take_at}
use Rattle.proposal_text.specs.CoverPieces.{is_some_class}
use Rattle.proposal_text.specs.CellRanges.{listed}
use Rattle.proposal_text.specs.declared.cells.TheConstants.{MAX_CLASS, MAX_CELLS, MAX_LISTED}

-- ---- shapes

-- a class, or the text of its multiplier
abbrev pub kind_of : Bool → Data → Bool
kind_of true d = is_whole d
kind_of false d = is_text d

-- classes and multipliers in turn; whether a class comes next
abbrev pub are_in_turn : Bool → Items → Bool
are_in_turn is_class no_items = is_class
are_in_turn is_class (item d ds) = kind_of is_class d && are_in_turn (not is_class) ds

abbrev pub are_multipliers : Data → Bool
are_multipliers d = unwrap_or (option_map (are_in_turn true) (as_array d)) false

abbrev pub split_shape : Data → Bool
split_shape d = has_members 1 d && has_at (codes "split") is_whole d

abbrev pub bound_shape : Data → Bool
bound_shape d =
    has_members 3 d && (has_at (codes "bound") is_whole d && (has_at (codes "minus") are_multipliers d && has_at (codes "plus") are_multipliers d))

-- the classes with their whole kink may be left out
abbrev pub leaf_shape : Data → Bool
leaf_shape d = has_at (codes "leaf") are_multipliers d && (has_members 1 d || (has_members 2 d && has_at (codes "full") (is_list is_whole) d))

abbrev pub cell_shape : Data → Bool
cell_shape d = split_shape d || (bound_shape d || leaf_shape d)

abbrev pub cells_shape : Data → Bool
cells_shape d = has_members 1 d && has_at (codes "cells") (is_list cell_shape) d

-- ---- texts of numbers

abbrev pub is_class_or_fraction : Data → Bool
is_class_or_fraction d = is_whole d || is_fraction d

-- the list at a key, if it is there
abbrev pub multiplier_numbers_at : List ℕ → Data → Bool
multiplier_numbers_at key d = unwrap_or (option_map (is_list is_class_or_fraction) (get key d)) true

abbrev pub cell_numbers : Data → Bool
cell_numbers d = multiplier_numbers_at (codes "leaf") d && (multiplier_numbers_at (codes "minus") d && multiplier_numbers_at (codes "plus") d)

abbrev pub cells_numbers : Data → Bool
cells_numbers d = has_at (codes "cells") (is_list cell_numbers) d

-- ---- nodes

-- a class past the one before it, and not past the last
abbrev pub class_of : ℕ → ℕ → Option ℕ
class_of before n = if nat_lt before n && nat_le n MAX_CLASS then Some n else None

abbrev pub class_from : ℕ → Data → Option ℕ
class_from before d = option_and_then (class_of before) (option_and_then as_u64 (as_number d))

abbrev pub class_at : List ℕ → Data → Option ℕ
class_at key d = take_at key (class_from 0) d

-- classes that rise
abbrev pub classes_from : ℕ → Items → Option (List ℕ)
classes_from before no_items = Some []
classes_from before (item d ds) = option_and_then (λ class. option_map (λ classes. class ∷ classes) (classes_from class ds)) (class_from before d)

abbrev pub multiplier_with : ℕ → Frac128 → Multiplier
multiplier_with class by = record { class = class; by = by }

abbrev mutual
  -- classes that rise, each before its multiplier
  pub multipliers_from : ℕ → Items → Option (List Multiplier)
  multipliers_from before no_items = Some []
  multipliers_from before (item d ds) = option_and_then (λ class. multipliers_of class ds) (class_from before d)

  -- the multiplier of this class, and those behind it
  pub multipliers_of : ℕ → Items → Option (List Multiplier)
  multipliers_of class no_items = None
  multipliers_of class (item d ds) = option_and_then (λ by. option_map (λ ms. multiplier_with class by ∷ ms) (multipliers_from class ds)) (fraction_from d)

abbrev pub multipliers_at : List ℕ → Data → Option (List Multiplier)
multipliers_at key d = option_and_then (multipliers_from 0) (items_at key d)

-- a list that is written has classes
abbrev pub some_classes : List ℕ → Option (List ℕ)
some_classes classes = if is_some_class classes then Some classes else None

abbrev pub full_at : Data → Option (List ℕ)
full_at d =
    if has_at (codes "full") (λ e. true) d then option_and_then some_classes (option_and_then (classes_from 0) (items_at (codes "full") d)) else Some []

abbrev pub split_from : Data → Option Node
split_from d = option_map Split (class_at (codes "split") d)

abbrev pub bound_from : Data → Option Node
bound_from d =
    option_and_then (λ class. option_and_then (λ minus. option_map (Bound class minus) (multipliers_at (codes "plus") d)) (multipliers_at (codes "minus") d))
    (class_at (codes "bound") d)

abbrev pub leaf_from : Data → Option Node
leaf_from d = option_and_then (λ full. option_map (Leaf full) (multipliers_at (codes "leaf") d)) (full_at d)

abbrev pub cell_from : Data → Option Node
cell_from d =
    if has_at (codes "split") (λ e. true) d then split_from d
    else if has_at (codes "bound") (λ e. true) d then bound_from d
    else leaf_from d

-- not too many nodes, and not too many classes in their lists
abbrev pub few_cells : List Node → Option (List Node)
few_cells nodes = if nat_le (length nodes) MAX_CELLS && nat_le (listed nodes) MAX_LISTED then Some nodes else None

abbrev pub cells_from : Data → Option (List Node)
cells_from d = option_and_then few_cells (list_at (codes "cells") cell_from d)
