-- What the check of cells answers is what the walk over them does.
use Rattle.std.proofs.Common.{◌≡◌, ℕ, Bool, true, false, List, Result, Ok, Err, Option, Some, None, refl, ◌∙◌}
use Rattle.exact_num.specs.declared.misfit.Wide.{Wide as Misfit}
use Rattle.exact_num.specs.Fraction.{Fraction}
use Rattle.frac.specs.Range.{limit}
use Rattle.form.specs.declared.orders.Order.{Order}
use Rattle.cell_cover.specs.Cells.{CellNode, CellTree, tree_in}
use Rattle.cell_cover.specs.Verdicts.{cells_verdict, tree_answer, verdict_of}
use Rattle.proposal_check.specs.Covers.{cells_close, of_cells}

back : (r : Result Bool Misfit) → of_cells (verdict_of r) ≡ r
back (Ok true) = refl
back (Ok false) = refl
back (Err w) = refl

pub same_walk : (n : ℕ) (orders : List Order) (fills : List Fraction) (L : Fraction) (found : Option CellTree) → tree_answer n orders fills L found ≡ cells_close limit n orders fills L found
same_walk n orders fills L None = refl
same_walk n orders fills L (Some tree) = refl

pub answer_back : (n : ℕ) (orders : List Order) (fills : List Fraction) (L : Fraction) (nodes : List CellNode) → of_cells (cells_verdict n orders fills L nodes) ≡ cells_close limit n orders fills L (tree_in nodes)
answer_back n orders fills L nodes = back (tree_answer n orders fills L (tree_in nodes)) ∙ same_walk n orders fills L (tree_in nodes)
