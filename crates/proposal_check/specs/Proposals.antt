-- The judgement of a proposal: the conditions of an outcome marked optimal up to its measure, with
-- the cover of a proposal, and then the bound.
use Rattle.std.specs.Prelude.{ℕ, ◌+◌, ◌&&◌, List, Bool, true, false, Result, Ok, Err}
use Rattle.exact_num.specs.declared.misfit.Wide.{Wide as Misfit}
use Rattle.exact_num.specs.Fraction.{Fraction}
use Rattle.exact_num.specs.Steps.{and_then}
use Rattle.exact_num.specs.Tests.{is_same}
use Rattle.frac.specs.declared.frac128.Frac128.{Frac128}
use Rattle.frac.specs.Value.{fraction_of}
use Rattle.form.specs.declared.orders.Order.{Order}
use Rattle.form.specs.declared.orders.Batch.{Batch}
use Rattle.cert_check.specs.declared.measures.Measure.{Measure}
use Rattle.cert_check.specs.Points.{points_of}
use Rattle.cert_check.specs.MeasureSums.{bound_of}
use Rattle.cert_check.specs.declared.outcome.Claim.{Claim}
use Rattle.cert_check.specs.declared.outcome.Cover.{Cover}
use Rattle.cert_check.specs.declared.outcome.Mark.{Mark}
use Rattle.cert_check.specs.declared.outcome.Mark.TheVariants.{Optimal, Budget}
use Rattle.cert_check.specs.declared.outcome.FailedCondition.{FailedCondition}
use Rattle.cert_check.specs.declared.outcome.FailedCondition.TheVariants as no
use Rattle.cert_check.specs.declared.outcome.Outcome.{Outcome}
use Rattle.cert_check.specs.declared.outcome.Verdict.{Verdict}
use Rattle.cert_check.specs.declared.outcome.Verdict.TheVariants.{Yes, No as Refused, Wide}
use Rattle.cert_check.specs.Shape.{has_fills, states_have, are_fills}
use Rattle.cert_check.specs.Tests.{claim_holds, measure_holds}
use Rattle.cert_check.specs.Events.{check}
use Rattle.proposal_check.specs.declared.covers.Proposal.{Proposal}
use Rattle.proposal_check.specs.declared.covers.ProposalCover.{ProposalCover}
use Rattle.proposal_check.specs.declared.covers.ProposalCover.TheVariants.{Checked, Match, Cells}
use Rattle.proposal_check.specs.declared.covers.BoundFailure.{BoundFailure}
use Rattle.proposal_check.specs.declared.covers.BoundFailure.TheVariants.{No as Fails, Wide as DoesNotFit}
use Rattle.proposal_check.specs.Covers.{cover_shows, fits_batch}

-- ---- proposals as outcomes
-- a cover that a verdict knows is that of the mark optimal; no mark has another, and what fills and
-- claim show by themselves depends on no mark
abbrev pub mark_as : ProposalCover → Measure → Mark
mark_as (Checked cover) measure = Optimal cover measure
mark_as Match measure = Budget
mark_as (Cells nodes) measure = Budget

abbrev pub as_outcome : Proposal → Outcome
as_outcome proposal = record {
  fills = proposal.fills;
  claim = proposal.claim;
  mark = mark_as proposal.cover proposal.measure;
  units = 0;
}

-- a proposal with a cover that a verdict knows
abbrev pub proposal_by : List Frac128 → Claim → Cover → Measure → Proposal
proposal_by fills claim cover measure = record {
  fills = fills;
  claim = claim;
  cover = Checked cover;
  measure = measure;
}

-- ---- the shape
-- there are as many fills as orders, and forms and states are those of the batch's underlyings
abbrev pub is_on_underlyings : Batch → Proposal → Bool
is_on_underlyings batch proposal = has_fills batch proposal.fills && states_have (batch.underlyings + 1) proposal.measure.points

-- and the cover is one of the batch
abbrev pub has_shape : Batch → Proposal → Bool
has_shape batch proposal = is_on_underlyings batch proposal && fits_batch batch proposal.cover

-- ---- the bound
-- the bound as a fraction
abbrev pub as_fraction : Result Frac128 BoundFailure → Result Fraction BoundFailure
as_fraction (Ok bound) = Ok (fraction_of bound)
as_fraction (Err failed) = Err failed

-- what comes next where a condition holds
abbrev pub require : FailedCondition → Result Bool Misfit → Result Fraction BoundFailure → Result Fraction BoundFailure
require condition (Ok true) next = next
require condition (Ok false) next = Err (Fails condition)
require condition (Err w) next = Err (DoesNotFit w)

-- a sum, where its steps fit
abbrev pub fitting : Result Fraction Misfit → Result Fraction BoundFailure
fitting (Ok sum) = Ok sum
fitting (Err w) = Err (DoesNotFit w)

-- the bound of the measure, where it is one
abbrev pub measured_bound : ℕ → List Order → Measure → Result Fraction BoundFailure
measured_bound limit orders measure =
    require no.Measure (measure_holds limit (points_of measure)) (fitting (bound_of limit orders (points_of measure)))

-- the surplus is what it should be, and the cover shows that the liability is enough
abbrev pub proposal_covered : ℕ → Batch → Proposal → Result Bool Misfit
proposal_covered limit batch proposal =
    and_then (claim_holds limit batch.orders proposal.fills proposal.claim)
    (cover_shows limit batch proposal.fills proposal.claim.liability proposal.cover)

-- the bound of the measure, where the condition of the cover holds
abbrev pub bound_where : ℕ → List Order → Result Bool Misfit → Measure → Result Fraction BoundFailure
bound_where limit orders covered measure = require no.Cover covered (measured_bound limit orders measure)

-- from the cover on
abbrev pub covered_bound : ℕ → Batch → Proposal → Result Fraction BoundFailure
covered_bound limit batch proposal = bound_where limit batch.orders (proposal_covered limit batch proposal) proposal.measure

-- the conditions in order: shape, fills, cover and measure; then the bound
abbrev pub proposal_bound : ℕ → Batch → Proposal → Result Fraction BoundFailure
proposal_bound limit batch proposal =
    require no.BatchShape (Ok (has_shape batch proposal))
    (require no.Fill (Ok (are_fills batch.orders proposal.fills))
    (covered_bound limit batch proposal))

-- the judgement where the bound is said to be B
abbrev pub compared : Result Fraction BoundFailure → Fraction → Verdict
compared (Ok bound) B = check no.Bound (Ok (is_same bound B)) Yes
compared (Err (Fails condition)) B = Refused condition
compared (Err (DoesNotFit w)) B = Wide w

abbrev pub bounded_verdict_of : ℕ → Batch → Proposal → Fraction → Verdict
bounded_verdict_of limit batch proposal B = compared (proposal_bound limit batch proposal) B
