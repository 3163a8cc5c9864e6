-- The conditions of a proposal, in the words of the model.
use Rattle.std.specs.Prelude.{◌≡◌, length, map}
use Rattle.std.specs.List.{All}
use Rattle.frac.specs.Value.{fraction_of}
use Rattle.form.specs.declared.orders.Batch.{Batch}
use Rattle.form.specs.Payoff.{IsState}
use Rattle.clearing_model.specs.Clearing.{AreOn}
use Rattle.clearing_model.specs.Certificate.{AreFractionFills, Point, HasUnitMass, MeasureProves}
use Rattle.cert_check.specs.Points.{points_of}
use Rattle.cert_check.specs.declared.outcome.FailedCondition.{FailedCondition}
use Rattle.cert_check.specs.declared.outcome.FailedCondition.TheVariants as no
use Rattle.cert_check.specs.Conditions.{LeavesSurplus, conditions_before}
use Rattle.proposal_check.specs.declared.covers.Proposal.{Proposal}
use Rattle.proposal_check.specs.Covers.{IsCoverOf, IsEnough}
use Rattle.proposal_check.specs.Proposals.{as_outcome}

-- each order is on the batch's underlyings and has a fill, the cover is one of the batch, and the
-- states of the measure are on its underlyings
pub record IsOfBatch (batch : Batch) (proposal : Proposal) : Type 0 where
  pub orders : AreOn batch.underlyings batch.orders
  pub fills : length proposal.fills ≡ length batch.orders
  pub cover : IsCoverOf batch proposal.cover
  pub states : All (λ (point : Point). IsState batch.underlyings point.0) (points_of proposal.measure)

-- a batch and a proposal for it meet the condition
abbrev pub Meets : Batch → Proposal → FailedCondition → Type 0
Meets batch proposal no.BatchShape = IsOfBatch batch proposal
Meets batch proposal no.Fill = AreFractionFills batch.orders (map fraction_of proposal.fills)
Meets batch proposal no.Cover =
    LeavesSurplus batch (as_outcome proposal)
    × IsEnough batch (map fraction_of proposal.fills) (fraction_of proposal.claim.liability) proposal.cover
Meets batch proposal no.Measure = HasUnitMass (points_of proposal.measure)
Meets batch proposal no.Bound = MeasureProves batch.orders (points_of proposal.measure) (fraction_of proposal.claim.surplus)

-- the condition is the first that the batch and the proposal do not meet
pub record IsFirstUnmet (batch : Batch) (proposal : Proposal) (condition : FailedCondition) : Type 0 where
  pub before : All (Meets batch proposal) (conditions_before condition)
  pub unmet : ¬ (Meets batch proposal condition)
