-- What is proposed for a line: for the print of a book reply a proposal that is judged a bound for
-- its orders, and nothing for any other.
use Rattle.std.specs.Prelude.{ℕ, ◌≡◌, ◌+◌, ◌≤◌, ◌⊎◌, List, [], ◌∷◌, ◌++◌, length, map, codes, decimal}
use Rattle.form.specs.declared.orders.Batch.{Batch}
use Rattle.form.specs.declared.orders.Order.{Order}
use Rattle.form.specs.Limits.{IsWithinLimits}
use Rattle.proposal_check.specs.declared.covers.Proposal.{Proposal}
use Rattle.proposals.specs.Judged.{IsJudgedBound, ProposesNothing}
use Rattle.match_proposals.specs.Least.{EarnsTheMatch}
use Rattle.limits.specs.declared.TheConstants.{MAX_BYTES}
use Rattle.proposal_text.specs.declared.submissions.Submission.{Submission}
use Rattle.proposal_text.specs.declared.replies.ProposalReply.TheVariants.{Book}
use Rattle.proposal_text.specs.Pieces.{submission_text}
use Rattle.proposal_text.specs.ReplyValues.{IsProposalLineOf}
use Rattle.proposal_text.specs.Within.{IsSubmissionWithin}

-- The line is the print of a reply that tells the live orders of a market, and they are such: each
-- is for options on its underlyings. For options on others no proposal is judged a bound, and
-- nothing is written for the line. That there are no orders is told too, and something is proposed
-- for them.
pub record IsBookOf (line : List ℕ) (market : ℕ) (batch : Batch) : Type 0 where
  pub number : ℕ
  pub told : IsProposalLineOf line number (Book market batch)
  pub within : IsWithinLimits batch

-- a proposal for just these orders
abbrev pub submission_for : Batch → Proposal → Submission
submission_for batch proposal = record { orders = map (λ (order : Order). order.id) batch.orders; proposal = proposal }

-- the line that hands it in for a market, without its line feed
abbrev pub proposing_text : ℕ → Submission → List ℕ
proposing_text market submission = codes "propose," ++ (decimal market ++ (codes "," ++ submission_text submission))

-- the text is such a line, with its line feed, of a proposal that is judged a bound for the orders
-- and within its ranges; it earns at least the match of each bundle by itself, or is of nothing, with
-- the least cover; the line is as short as an exchange takes it
pub record IsProposed (market : ℕ) (batch : Batch) (text : List ℕ) : Type 0 where
  pub proposal : Proposal
  pub judged : IsJudgedBound batch proposal
  pub earned : EarnsTheMatch batch proposal ⊎ ProposesNothing batch proposal
  pub within : IsSubmissionWithin (submission_for batch proposal)
  pub is : text ≡ proposing_text market (submission_for batch proposal) ++ 10 ∷ []
  pub short : length text ≤ MAX_BYTES + 1

-- the line tells no market's live orders
abbrev pub IsNoBook : List ℕ → Type 0
IsNoBook line = (market : ℕ) (batch : Batch) → ¬ (IsBookOf line market batch)

abbrev pub IsAnswerTo : List ℕ → List ℕ → Type 0
IsAnswerTo line text =
    ((market : ℕ) × (batch : Batch) × IsBookOf line market batch × IsProposed market batch text) ⊎ (IsNoBook line × (text ≡ []))
