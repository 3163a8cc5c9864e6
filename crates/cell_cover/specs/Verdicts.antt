-- What the check of a cover answers.
use Rattle.std.specs.Prelude.{ℕ, Bool, true, false, List, [], Option, Some, None, Result, Ok, Err}
use Rattle.exact_num.specs.declared.misfit.Wide.{Wide as Misfit}
use Rattle.exact_num.specs.Fraction.{Fraction}
use Rattle.exact_num.specs.Fits.{after}
use Rattle.form.specs.declared.orders.Order.{Order}
use Rattle.frac.specs.Range.{limit}
use Rattle.sign_tree.specs.Legs.{fraction_legs}
use Rattle.cell_cover.specs.declared.cover.CellVerdict.{CellVerdict}
use Rattle.cell_cover.specs.declared.cover.CellVerdict.TheVariants.{Closed, Open, Wide}
use Rattle.cell_cover.specs.Cells.{CellNode, CellTree, tree_in}
use Rattle.cell_cover.specs.Classes.{options_in}
use Rattle.cell_cover.specs.Walk.{WalkClass, Cell, walk_steps}
use Rattle.cell_cover.specs.NodeWalk.{walk_nodes}

abbrev pub verdict_of : Result Bool Misfit → CellVerdict
verdict_of (Ok true) = Closed
verdict_of (Ok false) = Open
verdict_of (Err w) = Wide w

-- the walk over the nodes from the root on
abbrev pub nodes_answer : ℕ → List WalkClass → Fraction → List CellNode → Result Cell Misfit → Result Bool Misfit
nodes_answer n classes L nodes root = after root (λ cell. walk_nodes limit n classes L nodes (record { cell = cell; pending = [] }))

-- the walk over the tree that the nodes are
abbrev pub tree_answer : ℕ → List Order → List Fraction → Fraction → Option CellTree → Result Bool Misfit
tree_answer n orders fills L None = Ok false
tree_answer n orders fills L (Some tree) = walk_steps limit n (options_in orders) (fraction_legs orders fills) L tree

abbrev pub cells_verdict : ℕ → List Order → List Fraction → Fraction → List CellNode → CellVerdict
cells_verdict n orders fills L nodes = verdict_of (tree_answer n orders fills L (tree_in nodes))
