-- What is kept does not get worse, and proves what it did.
use Rattle.std.specs.Prelude.{ℕ, ◌≡◌, List, Option, Ok, IfSome}
use Rattle.exact_num.specs.Fraction.{AtMost}
use Rattle.frac.specs.Range.{limit}
use Rattle.frac.specs.declared.frac128.Frac128.{Frac128}
use Rattle.frac.specs.Value.{fraction_of}
use Rattle.form.specs.declared.orders.Batch.{Batch}
use Rattle.proposal_check.specs.declared.covers.Proposal.{Proposal}
use Rattle.proposal_check.specs.Proposals.{proposal_bound}
use Rattle.proposals.specs.declared.best.Best.{Best}
use Rattle.proposals.specs.Best.{surplus_of, after_offer, best_for}

-- for the same orders the surplus is not below, and the bound not above
pub record IsNoWorse (kept new : Best) : Type 0 where
  pub surplus : AtMost (surplus_of kept.covered) (surplus_of new.covered)
  pub bound : AtMost (fraction_of new.bounded.bound) (fraction_of kept.bounded.bound)

abbrev pub LosesNothing : Option Best → List ℕ → Best → Type 0
LosesNothing kept orders new = IfSome (best_for kept orders) (λ best. IsNoWorse best new)

abbrev pub OffersLoseNothing : Type 0
OffersLoseNothing =
    (kept : Option Best) (orders : List ℕ) (proposal : Proposal) (bound : Frac128)
    → LosesNothing kept orders (after_offer kept orders proposal bound)

-- the two halves as one proposal prove their bound for the batch
abbrev pub as_proposal : Best → Proposal
as_proposal best = record {
  fills = best.covered.fills;
  claim = best.covered.claim;
  cover = best.covered.cover;
  measure = best.bounded.measure;
}

abbrev pub IsProvedBest : Batch → Best → Type 0
IsProvedBest batch best = proposal_bound limit batch (as_proposal best) ≡ Ok (fraction_of best.bounded.bound)

abbrev pub OffersStayProved : Type 0
OffersStayProved =
    (batch : Batch) (kept : Option Best) (orders : List ℕ) (proposal : Proposal) (bound : Frac128)
    → IfSome (best_for kept orders) (IsProvedBest batch)
    → proposal_bound limit batch proposal ≡ Ok (fraction_of bound)
    → IsProvedBest batch (after_offer kept orders proposal bound)
