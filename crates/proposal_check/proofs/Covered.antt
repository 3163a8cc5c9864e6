-- The condition of the cover: what the steps of each kind decide, and that its fills cover.
use Rattle.std.proofs.Common.{◌≡◌, ℕ, Bool, true, false, List, map, Result, Ok, All, refl, ap, inl, inr, ◌∙◌}
use Rattle.exact_num.specs.declared.misfit.Wide.{Wide as Misfit}
use Rattle.exact_num.specs.Fraction.{Fraction}
use Rattle.exact_num.proofs.Loops.{both, not_both}
use Rattle.frac.proofs.Lowest.{lowest_of}
use Rattle.frac.specs.Range.{limit}
use Rattle.frac.specs.Value.{fraction_of}
use Rattle.form.specs.declared.orders.Order.{Order}
use Rattle.form.specs.declared.orders.Batch.{Batch}
use Rattle.form.specs.Payoff.{IsState}
use Rattle.clearing_model.specs.Certificate.{AreFractionFills, FillsCover, Point}
use Rattle.cell_cover.specs.Cells.{CellNode, tree_in}
use Rattle.cell_cover.specs.Read.{node_of}
use Rattle.cell_cover.specs.Verdicts.{cells_verdict, verdict_of}
use Rattle.cell_cover.proofs.Certificate.{cell_certificate_covers}
use Rattle.cell_cover.proofs.Covered.{closed_by_cells, closed_by_none}
use Rattle.cert_check.specs.Points.{points_of}
use Rattle.cert_check.specs.Conditions.{LeavesSurplus}
use Rattle.cert_check.specs.Laws.{IsCovered}
use Rattle.cert_check.specs.Tests.{claim_holds}
use Rattle.cert_check.specs.declared.outcome.Mark.TheVariants.{Optimal, Budget}
use Rattle.cert_check.specs.declared.outcome.FailedCondition.TheVariants as no
use Rattle.cert_check.proofs.Certified.{fills_cover}
use Rattle.cert_check.proofs.Decided.{enough as checked_enough, not_enough as checked_not_enough}
use Rattle.cert_check.proofs.Surplus.{surplus_is, surplus_is_not}
use Rattle.proposal_check.specs.declared.covers.Proposal.{Proposal}
use Rattle.proposal_check.specs.declared.covers.ProposalCover.{ProposalCover}
use Rattle.proposal_check.specs.declared.covers.ProposalCover.TheVariants.{Checked, Match, Cells}
use Rattle.proposal_check.specs.Conditions.{Meets}
use Rattle.proposal_check.specs.Covers.{IsCoverOf, IsEnough, cells_close, cover_shows}
use Rattle.proposal_check.specs.Proposals.{as_outcome, proposal_covered}
use Rattle.proposal_check.proofs.Answered.{same_walk}
use Rattle.proposal_check.proofs.Shapes.{Shaped}

-- ---- whether it is enough
cells_answer : (n : ℕ) (orders : List Order) (fills : List Fraction) (L : Fraction) (nodes : List CellNode) (b : Bool) → cells_close limit n orders fills L (tree_in nodes) ≡ Ok b
    → cells_verdict n orders fills L nodes ≡ verdict_of (Ok b)
cells_answer n orders fills L nodes b h = ap verdict_of (same_walk n orders fills L (tree_in nodes) ∙ h)

enough : (batch : Batch) (proposal : Proposal) (cover : ProposalCover) → Shaped batch proposal → AreFractionFills batch.orders (map fraction_of proposal.fills) → IsCoverOf batch cover
    → cover_shows limit batch proposal.fills proposal.claim.liability cover ≡ Ok true
    → IsEnough batch (map fraction_of proposal.fills) (fraction_of proposal.claim.liability) cover
enough batch proposal (Checked cover) shape are of h = checked_enough batch proposal.fills proposal.claim.liability (Optimal cover proposal.measure) are h
enough batch proposal Match shape are of h = checked_enough batch proposal.fills proposal.claim.liability Budget are h
enough batch proposal (Cells nodes) shape are of h =
    let n = batch.underlyings in
    let fs = map fraction_of proposal.fills in
    let L = proposal.claim.liability in
    let written = map node_of nodes in
    closed_by_cells n batch.orders proposal.fills L nodes (cells_verdict n batch.orders fs (fraction_of L) written) shape.on.fills shape.on.forms of refl
    (cells_answer n batch.orders fs (fraction_of L) written true h)

not_enough : (batch : Batch) (proposal : Proposal) (cover : ProposalCover) → Shaped batch proposal → AreFractionFills batch.orders (map fraction_of proposal.fills) → IsCoverOf batch cover
    → cover_shows limit batch proposal.fills proposal.claim.liability cover ≡ Ok false
    → ¬ (IsEnough batch (map fraction_of proposal.fills) (fraction_of proposal.claim.liability) cover)
not_enough batch proposal (Checked cover) shape are of h = checked_not_enough batch proposal.fills proposal.claim.liability (Optimal cover proposal.measure) are h
not_enough batch proposal Match shape are of h = checked_not_enough batch proposal.fills proposal.claim.liability Budget are h
not_enough batch proposal (Cells nodes) shape are of h =
    let n = batch.underlyings in
    let fs = map fraction_of proposal.fills in
    let L = proposal.claim.liability in
    let written = map node_of nodes in
    closed_by_none n batch.orders proposal.fills L nodes (cells_verdict n batch.orders fs (fraction_of L) written) shape.on.fills shape.on.forms of refl
    (cells_answer n batch.orders fs (fraction_of L) written false h)

-- ---- the condition
abbrev surplus_step : Batch → Proposal → Result Bool Misfit
surplus_step batch proposal = claim_holds limit batch.orders proposal.fills proposal.claim

abbrev cover_step : Batch → Proposal → Result Bool Misfit
cover_step batch proposal = cover_shows limit batch proposal.fills proposal.claim.liability proposal.cover

pub cover_met : (batch : Batch) (proposal : Proposal) → Shaped batch proposal → Meets batch proposal no.Fill → proposal_covered limit batch proposal ≡ Ok true → Meets batch proposal no.Cover
cover_met batch proposal shape are h =
    let parts = both (surplus_step batch proposal) (cover_step batch proposal) h in
    let surplus = surplus_is batch.orders (map fraction_of proposal.fills) (fraction_of proposal.claim.liability) (fraction_of proposal.claim.surplus) (lowest_of proposal.fills) proposal.claim.liability.lowest proposal.claim.surplus.lowest parts.0 in
    let leaves : LeavesSurplus batch (as_outcome proposal) = record { left = surplus.0; not_below_zero = surplus.1 } in
    (leaves, enough batch proposal proposal.cover shape are shape.cover parts.1)

pub cover_unmet : (batch : Batch) (proposal : Proposal) → Shaped batch proposal → Meets batch proposal no.Fill → proposal_covered limit batch proposal ≡ Ok false → ¬ (Meets batch proposal no.Cover)
cover_unmet batch proposal shape are h meets =
    elim (not_both (surplus_step batch proposal) (cover_step batch proposal) h) [
      | inl surplus ↦ surplus_is_not batch.orders (map fraction_of proposal.fills) (fraction_of proposal.claim.liability) (fraction_of proposal.claim.surplus) (lowest_of proposal.fills) proposal.claim.liability.lowest surplus meets.0.left meets.0.not_below_zero
      | inr shows ↦ not_enough batch proposal proposal.cover shape are shape.cover shows.1 meets.1
    ]

-- ---- so the fills cover
fills_covered : (batch : Batch) (proposal : Proposal) (cover : ProposalCover) → AreFractionFills batch.orders (map fraction_of proposal.fills) → LeavesSurplus batch (as_outcome proposal)
    → All (λ (point : Point). IsState batch.underlyings point.0) (points_of proposal.measure) → IsCoverOf batch cover
    → IsEnough batch (map fraction_of proposal.fills) (fraction_of proposal.claim.liability) cover
    → FillsCover batch.underlyings batch.orders (map fraction_of proposal.fills) (fraction_of proposal.claim.surplus)
fills_covered batch proposal (Checked cover) are leaves states of holds = fills_cover batch (as_outcome proposal) (Optimal cover proposal.measure) are leaves (of.0, states) holds
fills_covered batch proposal Match are leaves states of holds = fills_cover batch (as_outcome proposal) Budget are leaves tt holds
fills_covered batch proposal (Cells nodes) are leaves states of holds =
    cell_certificate_covers batch.underlyings batch.orders (map fraction_of proposal.fills) (fraction_of proposal.claim.liability) (fraction_of proposal.claim.surplus) (map node_of nodes)
    are proposal.claim.liability.lowest.positive holds leaves.left

pub covered : (batch : Batch) (proposal : Proposal) → Meets batch proposal no.BatchShape → Meets batch proposal no.Fill → Meets batch proposal no.Cover → IsCovered batch (as_outcome proposal)
covered batch proposal shape fills cover =
    record {
      on_underlyings = shape.orders;
      covers = fills_covered batch proposal proposal.cover fills cover.0 shape.states shape.cover cover.1;
      not_below_zero = cover.0.not_below_zero;
    }
