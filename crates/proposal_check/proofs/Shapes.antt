-- What the test of a proposal's shape says.
use Rattle.std.proofs.Common.{◌≡◌, ◌+◌, true, false, ◌==◌, length, get_or, All, refl, eqb-true}
use Rattle.std.proofs.lemmas.Bool.{and_from, and_parts, eq-eqb}
use Rattle.form.specs.declared.orders.Order.{Order}
use Rattle.form.specs.declared.orders.Batch.{Batch}
use Rattle.form.specs.Payoff.{IsOnCount}
use Rattle.form.proofs.BundleLegs.{is_bundle_of}
use Rattle.sign_tree.specs.Legs.{leg_count}
use Rattle.cert_check.specs.Points.{IsOnStates}
use Rattle.cert_check.specs.Shape.{cover_fits, forms_have, has_fills, states_have}
use Rattle.cert_check.proofs.Shapes.{cover_is_on, cover_passes, forms_all, forms_pass, states_all, states_are, states_pass}
use Rattle.proposal_check.specs.declared.covers.Proposal.{Proposal}
use Rattle.proposal_check.specs.declared.covers.ProposalCover.{ProposalCover}
use Rattle.proposal_check.specs.declared.covers.ProposalCover.TheVariants.{Checked, Match, Cells}
use Rattle.proposal_check.specs.Conditions.{IsOfBatch}
use Rattle.proposal_check.specs.Covers.{IsCoverOf, fits_batch, is_walkable}
use Rattle.proposal_check.specs.Proposals.{has_shape, is_on_underlyings}

-- ---- the cover
cover_is_of : (batch : Batch) (cover : ProposalCover) → fits_batch batch cover ≡ true → IsCoverOf batch cover
cover_is_of batch (Checked cover) h =
    let parts = and_parts (cover_fits batch.underlyings cover) (is_walkable (leg_count batch.orders) cover) h in
    (cover_is_on batch.underlyings cover parts.0, parts.1)
cover_is_of batch Match h = tt
cover_is_of batch (Cells nodes) h = h

cover_is_fit : (batch : Batch) (cover : ProposalCover) → IsCoverOf batch cover → fits_batch batch cover ≡ true
cover_is_fit batch (Checked cover) is =
    and_from (cover_fits batch.underlyings cover) (is_walkable (leg_count batch.orders) cover) (cover_passes batch.underlyings cover is.0) is.1
cover_is_fit batch Match is = refl
cover_is_fit batch (Cells nodes) is = is

-- ---- what a shape that passes says to the functions after it
pub record OnUnderlyings (batch : Batch) (proposal : Proposal) : Type 0 where
  pub fills : length proposal.fills ≡ length batch.orders
  pub forms : All (λ (order : Order). IsOnCount (batch.underlyings + 1) order.bundle) batch.orders
  pub states : IsOnStates batch.underlyings proposal.measure

pub on_underlyings : (batch : Batch) (proposal : Proposal) → is_on_underlyings batch proposal ≡ true → OnUnderlyings batch proposal
on_underlyings batch proposal h =
    let entries = batch.underlyings + 1 in
    let parts = and_parts (has_fills batch proposal.fills) (states_have entries proposal.measure.points) h in
    let first = and_parts (length proposal.fills == length batch.orders) (forms_have entries batch.orders) parts.0 in
    record {
      fills = eqb-true (length proposal.fills) (length batch.orders) first.0;
      forms = forms_all entries batch.orders first.1;
      states = states_all entries proposal.measure.points parts.1;
    }

pub record Shaped (batch : Batch) (proposal : Proposal) : Type 0 where
  pub on : OnUnderlyings batch proposal
  pub cover : IsCoverOf batch proposal.cover

pub shaped : (batch : Batch) (proposal : Proposal) → has_shape batch proposal ≡ true → Shaped batch proposal
shaped batch proposal h =
    let parts = and_parts (is_on_underlyings batch proposal) (fits_batch batch proposal.cover) h in
    record { on = on_underlyings batch proposal parts.0; cover = cover_is_of batch proposal.cover parts.1 }

-- ---- the condition of the shape
pub shape_met : (batch : Batch) (proposal : Proposal) → has_shape batch proposal ≡ true → IsOfBatch batch proposal
shape_met batch proposal h =
    let shape = shaped batch proposal h in
    record {
      orders = λ k d lt. is_bundle_of batch.underlyings (get_or batch.orders k d) (shape.on.forms k d lt);
      fills = shape.on.fills;
      cover = shape.cover;
      states = states_are batch.underlyings proposal.measure.points shape.on.states;
    }

pub shape_unmet : (batch : Batch) (proposal : Proposal) → has_shape batch proposal ≡ false → ¬ (IsOfBatch batch proposal)
shape_unmet batch proposal h is =
    let n = batch.underlyings in
    let many = eq-eqb (length proposal.fills) (length batch.orders) is.fills in
    let forms = forms_pass n batch.orders is.orders in
    let filled = and_from (length proposal.fills == length batch.orders) (forms_have (n + 1) batch.orders) many forms in
    let on = and_from (has_fills batch proposal.fills) (states_have (n + 1) proposal.measure.points) filled (states_pass n proposal.measure.points is.states) in
    let passes = and_from (is_on_underlyings batch proposal) (fits_batch batch proposal.cover) on (cover_is_fit batch proposal.cover is.cover) in
    cc (h, passes)
