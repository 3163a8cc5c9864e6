-- Covers of proposals: those that a verdict knows, the match of each bundle by itself, and cells.
use Rattle.std.specs.Prelude.{ℕ, ◌*◌, ◌≡◌, List, length, map, nat_le, Bool, true, false, ◌&&◌, Option, Some, None, Result, Ok, Err}
use Rattle.exact_num.specs.declared.misfit.Wide.{Wide as Misfit}
use Rattle.exact_num.specs.Fraction.{Fraction}
use Rattle.frac.specs.declared.frac128.Frac128.{Frac128}
use Rattle.frac.specs.Value.{fraction_of}
use Rattle.form.specs.declared.orders.Order.{Order}
use Rattle.form.specs.declared.orders.Batch.{Batch}
use Rattle.sign_tree.specs.Legs.{fraction_legs, leg_count}
use Rattle.cell_cover.specs.Cells.{CellTree, tree_in}
use Rattle.cell_cover.specs.Classes.{classes_of, options_in}
use Rattle.cell_cover.specs.Formed.{is_formed}
use Rattle.cell_cover.specs.Laws.{ClosesByCells}
use Rattle.cell_cover.specs.Read.{node_of}
use Rattle.cell_cover.specs.Walk.{walk_steps}
use Rattle.cell_cover.specs.declared.cover.CellVerdict.{CellVerdict}
use Rattle.cell_cover.specs.declared.cover.CellVerdict.TheVariants.{Closed, Open, Wide}
use Rattle.cert_check.specs.declared.outcome.Cover.{Cover}
use Rattle.cert_check.specs.declared.outcome.Cover.TheVariants.{Line, Tree}
use Rattle.cert_check.specs.Conditions.{IsCoverOn, Closes, OwesNothing}
use Rattle.cert_check.specs.Cover.{batch_balances}
use Rattle.cert_check.specs.Shape.{cover_fits}
use Rattle.cert_check.specs.Tests.{batch_covered}
use Rattle.proposal_check.specs.declared.covers.ProposalCover.{ProposalCover}
use Rattle.proposal_check.specs.declared.covers.ProposalCover.TheVariants.{Checked, Match, Cells}
use Rattle.proposal_check.specs.declared.shape.TheConstants.{MAX_WALKED}

-- ---- the shape
-- a tree is walked where its nodes times the legs are not too many: each leaf is summed over all
-- legs, and one judgement may not hold up all others
abbrev pub is_walkable : ℕ → Cover → Bool
is_walkable legs Line = true
is_walkable legs (Tree tree) = nat_le (length tree.nodes * legs) MAX_WALKED

-- a line of one underlying, or a tree of several that is walked; a match of any; and cells that are
-- the nodes of one tree over classes of the batch
abbrev pub fits_batch : Batch → ProposalCover → Bool
fits_batch batch (Checked cover) = cover_fits batch.underlyings cover && is_walkable (leg_count batch.orders) cover
fits_batch batch Match = true
fits_batch batch (Cells nodes) = is_formed (length (classes_of batch.orders)) (map node_of nodes)

-- the same in the words of the model
abbrev pub IsCoverOf : Batch → ProposalCover → Type 0
IsCoverOf batch (Checked cover) = IsCoverOn batch.underlyings cover × (is_walkable (leg_count batch.orders) cover ≡ true)
IsCoverOf batch Match = Unit {0}
IsCoverOf batch (Cells nodes) = is_formed (length (classes_of batch.orders)) (map node_of nodes) ≡ true

-- ---- what it shows
-- the cover shows that the liability L is enough for the fills: the line or the tree closes, nothing
-- is owed, or the cells close
abbrev pub IsEnough : Batch → List Fraction → Fraction → ProposalCover → Type 0
IsEnough batch fills L (Checked cover) = Closes batch.underlyings batch.orders fills L cover
IsEnough batch fills L Match = OwesNothing batch.orders fills L
IsEnough batch fills L (Cells nodes) = ClosesByCells batch.underlyings batch.orders fills L (map node_of nodes)

-- the steps of the walk over the cells that are written, with a limit
abbrev pub cells_close : ℕ → ℕ → List Order → List Fraction → Fraction → Option CellTree → Result Bool Misfit
cells_close limit n orders fills L None = Ok false
cells_close limit n orders fills L (Some tree) = walk_steps limit n (options_in orders) (fraction_legs orders fills) L tree

-- what the check of cells answers, as the walk does
abbrev pub of_cells : CellVerdict → Result Bool Misfit
of_cells Closed = Ok true
of_cells Open = Ok false
of_cells (Wide w) = Err w

-- the steps that show whether the liability is enough
abbrev pub cover_shows : ℕ → Batch → List Frac128 → Frac128 → ProposalCover → Result Bool Misfit
cover_shows limit batch fills L (Checked cover) = batch_covered limit batch fills L cover
cover_shows limit batch fills L Match = batch_balances limit batch.orders fills L
cover_shows limit batch fills L (Cells nodes) =
    cells_close limit batch.underlyings batch.orders (map fraction_of fills) (fraction_of L) (tree_in (map node_of nodes))
