-- The nodes of a cover by cells within their ranges.
use Rattle.std.specs.Prelude.{ℕ, ◌+◌, ◌≡◌, ◌≤◌, List, [], ◌∷◌, length, map, true}
use Rattle.std.specs.List.{AllByRecursion}
use Rattle.form.specs.Between.{Between}
use Rattle.cell_cover.specs.Cells.{classes_rise}
use Rattle.cell_cover.specs.declared.cover.Multiplier.{Multiplier}
use Rattle.cell_cover.specs.declared.cover.Node.{Node}
use Rattle.cell_cover.specs.declared.cover.Node.TheVariants.{Split, Bound, Leaf}
use Rattle.proposal_text.specs.declared.cells.TheConstants.{MAX_CLASS, MAX_CELLS, MAX_LISTED}

-- how many classes stand in the lists of a node
abbrev pub listed_in : Node → ℕ
listed_in (Split class) = 0
listed_in (Bound class minus plus) = length minus + length plus
listed_in (Leaf full ms) = length full + length ms

abbrev pub listed : List Node → ℕ
listed [] = 0
listed (node ∷ nodes) = listed_in node + listed nodes

-- the classes rise, from 1 to the last
abbrev pub AreClasses : List ℕ → Type 0
AreClasses classes = classes_rise MAX_CLASS 0 classes ≡ true

abbrev pub classes_in : List Multiplier → List ℕ
classes_in ms = map (λ (m : Multiplier). m.class) ms

abbrev pub IsCellWithin : Node → Type 0
IsCellWithin (Split class) = Between 1 MAX_CLASS class
IsCellWithin (Bound class minus plus) = Between 1 MAX_CLASS class × AreClasses (classes_in minus) × AreClasses (classes_in plus)
IsCellWithin (Leaf full ms) = AreClasses full × AreClasses (classes_in ms)

-- at most 100,000 nodes, and 1,000,000 classes in their lists
abbrev pub AreCellsWithin : List Node → Type 0
AreCellsWithin nodes = (length nodes ≤ MAX_CELLS) × (listed nodes ≤ MAX_LISTED) × AllByRecursion IsCellWithin nodes
