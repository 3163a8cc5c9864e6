-- What the judgement of a proposal shows.
use Rattle.std.specs.Prelude.{◌≡◌, ◌≢◌, ◌↔◌, true, false, List, Ok, Err}
use Rattle.std.specs.List.{All}
use Rattle.exact_num.specs.Fraction.{Fraction}
use Rattle.frac.specs.Range.{limit}
use Rattle.frac.specs.Value.{fraction_of}
use Rattle.frac.specs.declared.frac128.Frac128.{Frac128}
use Rattle.form.specs.declared.orders.Batch.{Batch}
use Rattle.sign_tree.specs.Legs.{leg_count}
use Rattle.clearing_model.specs.Certificate.{IsFractionMeasure, MeasureProves}
use Rattle.market_laws.specs.Bounds.{BoundTheGreatest}
use Rattle.cert_check.specs.declared.measures.Measure.{Measure}
use Rattle.cert_check.specs.Points.{points_of}
use Rattle.cert_check.specs.declared.outcome.Claim.{Claim}
use Rattle.cert_check.specs.declared.outcome.Cover.{Cover}
use Rattle.cert_check.specs.declared.outcome.FailedCondition.{FailedCondition}
use Rattle.cert_check.specs.declared.outcome.FailedCondition.TheVariants as no
use Rattle.cert_check.specs.declared.outcome.Outcome.{Outcome}
use Rattle.cert_check.specs.declared.outcome.Verdict.TheVariants.{Yes}
use Rattle.cert_check.specs.Conditions.{conditions_before, is_optimal_mark, Meets as OutcomeMeets}
use Rattle.cert_check.specs.Events.{verdict_of}
use Rattle.cert_check.specs.Laws.{IsCovered}
use Rattle.proposal_check.specs.declared.covers.Proposal.{Proposal}
use Rattle.proposal_check.specs.declared.covers.ProposalCover.TheVariants.{Match}
use Rattle.proposal_check.specs.declared.covers.BoundFailure.{BoundFailure}
use Rattle.proposal_check.specs.declared.covers.BoundFailure.TheVariants.{No as Fails, Wide as DoesNotFit}
use Rattle.proposal_check.specs.Covers.{is_walkable}
use Rattle.proposal_check.specs.Conditions.{Meets, IsFirstUnmet}
use Rattle.proposal_check.specs.Proposals.{as_outcome, proposal_by, proposal_bound, bounded_verdict_of}

-- a proposal meets each condition before that of the bound
abbrev pub AreMet : Batch → Proposal → Type 0
AreMet batch proposal = All (Meets batch proposal) (conditions_before no.Bound)

-- the condition is the first that it does not meet, and not that of the bound
abbrev pub IsUnproved : Batch → Proposal → BoundFailure → Type 0
IsUnproved batch proposal (Fails condition) = (condition ≢ no.Bound) × IsFirstUnmet batch proposal condition
IsUnproved batch proposal (DoesNotFit w) = Unit {0}

-- its measure is one of the batch's underlyings, and has the bound B
pub record HasBound (batch : Batch) (proposal : Proposal) (B : Fraction) : Type 0 where
  pub is_measure : IsFractionMeasure batch.underlyings (points_of proposal.measure)
  pub bound : MeasureProves batch.orders (points_of proposal.measure) B

-- the greatest surplus is from the claimed surplus to B
abbrev pub BoundSurplus : Batch → Proposal → Fraction → Type 0
BoundSurplus batch proposal B = BoundTheGreatest batch.underlyings batch.orders (fraction_of proposal.claim.surplus) B

-- the condition is the first that is not met, where the bound is said to be B
abbrev pub IsFirstUnmetBounded : Batch → Proposal → Fraction → FailedCondition → Type 0
IsFirstUnmetBounded batch proposal B no.Bound = AreMet batch proposal × ¬ (HasBound batch proposal B)
IsFirstUnmetBounded batch proposal B no.BatchShape = IsFirstUnmet batch proposal no.BatchShape
IsFirstUnmetBounded batch proposal B no.Fill = IsFirstUnmet batch proposal no.Fill
IsFirstUnmetBounded batch proposal B no.Cover = IsFirstUnmet batch proposal no.Cover
IsFirstUnmetBounded batch proposal B no.Measure = IsFirstUnmet batch proposal no.Measure

-- what a proposal shows whose bound is B
pub record Proves (batch : Batch) (proposal : Proposal) (B : Fraction) : Type 0 where
  pub met : AreMet batch proposal
  pub covered : IsCovered batch (as_outcome proposal)
  pub measured : HasBound batch proposal B
  pub bounds : BoundSurplus batch proposal B

-- a proposal that is judged a bound shows that, and else the condition that is told is the first
-- that it does not meet
pub record ProposalsDecide (batch : Batch) (proposal : Proposal) : Type 0 where
  pub proved : (B : Fraction) → proposal_bound limit batch proposal ≡ Ok B → Proves batch proposal B
  pub unproved : (failed : BoundFailure) → proposal_bound limit batch proposal ≡ Err failed → IsUnproved batch proposal failed

abbrev pub ProposalsAreDecided : Type 0
ProposalsAreDecided = (batch : Batch) (proposal : Proposal) → ProposalsDecide batch proposal

-- with a line, or a tree that is walked, the conditions are those of the outcome marked optimal
abbrev pub CheckedAsVerdicts : Type 0
CheckedAsVerdicts =
    (batch : Batch) (fills : List Frac128) (claim : Claim) (cover : Cover) (measure : Measure) (condition : FailedCondition)
    → is_walkable (leg_count batch.orders) cover ≡ true
    → (Meets batch (proposal_by fills claim cover measure) condition) ↔ (OutcomeMeets batch (as_outcome (proposal_by fills claim cover measure)) condition)

-- and the verdict on that outcome is that on its proposal, the surplus told as the bound
abbrev pub OptimalIsBounded : Type 0
OptimalIsBounded =
    (batch : Batch) (fills : List Frac128) (claim : Claim) (cover : Cover) (measure : Measure)
    → is_walkable (leg_count batch.orders) cover ≡ true
    → verdict_of limit batch (as_outcome (proposal_by fills claim cover measure))
    ≡ bounded_verdict_of limit batch (proposal_by fills claim cover measure) (fraction_of claim.surplus)

-- a proposal with the measure of another
abbrev pub with_measure : Proposal → Measure → Proposal
with_measure proposal measure = record {
  fills = proposal.fills;
  claim = proposal.claim;
  cover = proposal.cover;
  measure = measure;
}

-- where both prove a bound for the batch, it proves that of the other
abbrev pub HalvesJoin : Type 0
HalvesJoin =
    (batch : Batch) (one other : Proposal) (A B : Fraction)
    → proposal_bound limit batch one ≡ Ok A → proposal_bound limit batch other ≡ Ok B
    → proposal_bound limit batch (with_measure one other.measure) ≡ Ok B

-- an outcome without a certificate as a proposal, with this measure
abbrev pub as_match : Outcome → Measure → Proposal
as_match outcome measure = record {
  fills = outcome.fills;
  claim = outcome.claim;
  cover = Match;
  measure = measure;
}

-- where the verdict accepts it, it proves as a match the bound of the other
abbrev pub MatchesJoin : Type 0
MatchesJoin =
    (batch : Batch) (outcome : Outcome) (other : Proposal) (B : Fraction)
    → is_optimal_mark outcome.mark ≡ false → verdict_of limit batch outcome ≡ Yes
    → proposal_bound limit batch other ≡ Ok B
    → proposal_bound limit batch (as_match outcome other.measure) ≡ Ok B
