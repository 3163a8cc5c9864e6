-- What the lines that are written are read as.
use Rattle.std.specs.Prelude.{ℕ, ◌≡◌, ◌≤◌, List, [], ◌∷◌, ◌++◌, length, None, Ok}
use Rattle.command_text.specs.declared.requests.ProposeRequest.{ProposeRequest}
use Rattle.command_text.specs.declared.requests.Request.TheVariants.{Propose}
use Rattle.command_text.specs.declared.words.TheConstants.{SERVED}
use Rattle.command_text.specs.Said.{said_in}
use Rattle.exchange_core.specs.Refusals.{by_book}
use Rattle.exchange_core.specs.Step.{batch_in}
use Rattle.form.specs.declared.orders.Batch.{Batch}
use Rattle.proposal_check.specs.declared.covers.Proposal.{Proposal}
use Rattle.proposals.specs.Judged.{IsJudgedBound}
use Rattle.live_lines.specs.Open.{IsOneLine}
use Rattle.limits.specs.declared.TheConstants.{MAX_BYTES}
use Rattle.reply_print.specs.Within.{IsMarket}
use Rattle.order_book.specs.Refusals.{live_refusals}
use Rattle.proposal_lines.specs.Laws.{IsRefused}
use Rattle.proposal_lines.specs.Proposed.{proposed_of, proposed_reply}
use Rattle.proposal_lines.specs.ProposingState.{ProposingState}
use Rattle.proposal_text.specs.declared.submissions.Submission.{Submission}
use Rattle.proposal_text.specs.Within.{IsSubmissionWithin}
use Rattle.lists.specs.Refusals.{first_of}
use Rattle.book_proposals.specs.Answers.{IsBookOf, IsProposed, proposing_text, submission_for}

-- a line is read as handing in just this for the market
abbrev pub IsReadAs : List ℕ → ℕ → Submission → Type 0
IsReadAs line market submission =
    (request : ProposeRequest) × (said_in SERVED line ≡ Ok (Propose request)) × (proposed_of line request ≡ Ok (record { market = market; submission = submission }))

-- what hands in something for a market is read as that
abbrev pub ProposingIsRead : Type 0
ProposingIsRead =
    (market : ℕ) (submission : Submission) → IsMarket market → IsSubmissionWithin submission → IsReadAs (proposing_text market submission) market submission

-- one line, as short as an exchange takes it
abbrev pub IsShortLine : List ℕ → Type 0
IsShortLine line = IsOneLine line × (length line ≤ MAX_BYTES)

-- what is written for a book is one such line that is read as a proposal for the book's market and
-- orders, and it is judged a bound for them
abbrev pub ProposalsAreSubmissions : Type 0
ProposalsAreSubmissions =
    (told text : List ℕ) (market : ℕ) (batch : Batch) → IsBookOf told market batch → IsProposed market batch text
    → (line : List ℕ) × (proposal : Proposal) × (text ≡ line ++ 10 ∷ []) × IsShortLine line × IsReadAs line market (submission_for batch proposal)
    × IsJudgedBound batch proposal

-- where the market is there, what is judged a bound for its live orders is no proposal that an
-- exchange refuses
abbrev pub ProposalsAreTaken : Type 0
ProposalsAreTaken =
    (state : ProposingState) (market : ℕ) (proposal : Proposal) → first_of (by_book (live_refusals state.exchange.book market)) ≡ None
    → (let live = batch_in state.exchange market in
    IsJudgedBound live proposal → ¬ (IsRefused (proposed_reply state (Ok (record { market = market; submission = submission_for live proposal }))).0))
