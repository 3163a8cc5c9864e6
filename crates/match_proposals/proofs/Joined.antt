-- An outcome without a certificate that the verdict accepts is, as a match with the measure of a
-- proposal that is judged a bound, judged one too.
use Rattle.std.proofs.Common.{◌≡◌, true, false, Result, Ok, Err, refl, sym, subst}
use Rattle.std.specs.Prelude.{IsOk}
use Rattle.exact_num.specs.Fraction.{Fraction}
use Rattle.frac.specs.Range.{limit}
use Rattle.form.specs.declared.orders.Batch.{Batch}
use Rattle.cert_check.specs.declared.outcome.Outcome.{Outcome}
use Rattle.cert_check.specs.declared.outcome.Verdict.TheVariants.{Yes}
use Rattle.cert_check.specs.Conditions.{is_optimal_mark}
use Rattle.cert_check.specs.Events.{verdict_of}
use Rattle.proposal_check.specs.declared.covers.Proposal.{Proposal}
use Rattle.proposal_check.specs.declared.covers.BoundFailure.{BoundFailure}
use Rattle.proposal_check.specs.Proposals.{proposal_bound}
use Rattle.proposal_check.specs.ProposalLaws.{as_match}
use Rattle.proposal_check.proofs.Proposals.{matches_join}
use Rattle.proposals.specs.Judged.{IsJudgedBound}

module _ (batch : Batch) (outcome : Outcome) (other : Proposal) (stopped : is_optimal_mark outcome.mark ≡ false) (yes : verdict_of limit batch outcome ≡ Yes) where
  joined_by : (r : Result Fraction BoundFailure) → proposal_bound limit batch other ≡ r → IsOk r → IsJudgedBound batch (as_match outcome other.measure)
  joined_by (Ok B) is ok = subst IsOk (sym (matches_join batch outcome other B stopped yes is)) ok
  joined_by (Err failed) is ok = let no : false ≡ true = ok in absurd (cc (no))

  pub match_is_judged : IsJudgedBound batch other → IsJudgedBound batch (as_match outcome other.measure)
  match_is_judged judged = joined_by (proposal_bound limit batch other) refl judged
