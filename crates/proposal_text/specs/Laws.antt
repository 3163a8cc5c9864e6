-- What holds of the reading of all texts.
use Rattle.std.specs.Prelude.{◌≡◌, ◌↔◌, ℕ, List, Some, Ok}
use Rattle.proposal_text.specs.declared.cells.TheConstants.{MAX_CLASS, MAX_CELLS, MAX_LISTED}
use Rattle.proposal_text.specs.declared.counts.TheConstants.{MAX_POINTS, MAX_TREE_NODES}
use Rattle.proposal_text.specs.declared.submissions.Submission.{Submission}
use Rattle.proposal_text.specs.declared.replies.ProposalReply.{ProposalReply}
use Rattle.proposal_text.specs.ReplyValues.{IsProposalLineOf, reply_reading}
use Rattle.proposal_text.specs.Submissions.{IsTextOf, submission_of}

-- a text proposes something exactly where it is its print, and this is within its ranges
abbrev pub SubmissionsReadExactly : Type 0
SubmissionsReadExactly = (text : List ℕ) (s : Submission) → (submission_of text ≡ Some s) ↔ IsTextOf text s

-- a text reads as a line and its reply exactly where it is their print, and these are within their
-- ranges
abbrev pub RepliesReadExactly : Type 0
RepliesReadExactly = (text : List ℕ) (line : ℕ) (reply : ProposalReply) → (reply_reading text ≡ Ok (line, reply)) ↔ IsProposalLineOf text line reply

-- how much a certificate may have, as a proposal's author is told
pub record LimitsAsWorked : Type 0 where
  pub tree_nodes : MAX_TREE_NODES ≡ 20000
  pub points : MAX_POINTS ≡ 1024
  pub classes : MAX_CLASS ≡ 1024
  pub cells : MAX_CELLS ≡ 100000
  pub listed : MAX_LISTED ≡ 1000000
