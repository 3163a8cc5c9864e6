-- What a proposal earns at least.
use Rattle.std.specs.Prelude.{◌≡◌, true, false}
use Rattle.exact_num.specs.Tests.{is_at_most}
use Rattle.frac.specs.Value.{fraction_of}
use Rattle.form.specs.declared.orders.Batch.{Batch}
use Rattle.cert_check.specs.declared.outcome.Outcome.{Outcome}
use Rattle.cert_check.specs.Conditions.{is_optimal_mark}
use Rattle.proposal_check.specs.declared.covers.Proposal.{Proposal}
use Rattle.clearing.specs.Outcome.{outcome_of}

-- a surplus is at least that of an outcome
abbrev pub EarnsAtLeast : Outcome → Proposal → Type 0
EarnsAtLeast outcome proposal = is_at_most (fraction_of outcome.claim.surplus) (fraction_of proposal.claim.surplus) ≡ true

-- where a reference run of one unit stops, the surplus is at least what its outcome earns, which is
-- the match of each bundle by itself then. Where it ends, so does each with more units
abbrev pub EarnsTheMatch : Batch → Proposal → Type 0
EarnsTheMatch batch proposal = let reference = outcome_of batch 1 in is_optimal_mark reference.mark ≡ false → EarnsAtLeast reference proposal
