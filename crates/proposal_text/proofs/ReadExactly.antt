-- A text is read as something exactly where it is its print, and this is within its ranges.
use Rattle.std.proofs.Common.{◌≡◌, ℕ, List, Option, Some, None, Result, Ok, Err, IfSome, refl, ap, ◌∙◌}
use Rattle.std.specs.Result.{result_ok}
use Rattle.std.proofs.lemmas.Option.{none-some, same_Some}
use Rattle.reply_print.specs.PieceData.{piece_data}
use Rattle.reply_text.specs.Tests.{read_by}
use Rattle.reply_text.specs.declared.faults.LineFault.{LineFault}
use Rattle.reply_text.proofs.FiveTests.{IsPairWithin, IsTaken, pair_sound, passes, written_passes}
use Rattle.proposal_text.specs.declared.submissions.Submission.{Submission}
use Rattle.proposal_text.specs.declared.replies.ProposalReply.{ProposalReply}
use Rattle.proposal_text.specs.Laws.{SubmissionsReadExactly, RepliesReadExactly}
use Rattle.proposal_text.specs.Pieces.{submission_piece, submission_text, proposal_piece, proposal_line}
use Rattle.proposal_text.specs.ReplyValues.{IsProposalLineOf, proposal_replies, proposal_tests, reply_reading}
use Rattle.proposal_text.specs.Submissions.{IsTextOf, submission_of, submission_tests}
use Rattle.proposal_text.specs.Within.{IsSubmissionWithin, IsProposalReplyWithin, IsProposalLineWithin}
use Rattle.proposal_text.proofs.PlainProposals.{submission_plain, reply_plain}
use Rattle.proposal_text.proofs.SoundProposals.{submission_sound, reply_sound}
use Rattle.proposal_text.proofs.TakenProposals.{submission_is, submission_numbered, submission_taken, reply_taken}
use Rattle.proposal_text.proofs.WrittenProposals.{submission_written, reply_written}

-- ---- what a text proposes

ok_of : (r : Result Submission LineFault) (s : Submission) → result_ok r ≡ Some s → r ≡ Ok s
ok_of (Ok x) s e = ap Ok (same_Some x s e)
ok_of (Err fault) s e = absurd (none-some s e)

pub text_of : (text : List ℕ) (s : Submission) → submission_of text ≡ Some s → IsTextOf text s
text_of text s e = passes submission_tests text IsSubmissionWithin submission_sound s (ok_of (read_by submission_tests text) s e)

if_some : (P : Submission → Type 0) (o : Option Submission) → ((s : Submission) → o ≡ Some s → P s) → IfSome o P
if_some P None h = tt
if_some P (Some s) h = h s refl

pub some_text : (text : List ℕ) → IfSome (submission_of text) (IsTextOf text)
some_text text = if_some (IsTextOf text) (submission_of text) (text_of text)

submission_passes : (s : Submission) → IsSubmissionWithin s → IsTaken submission_tests (piece_data (submission_piece s)) s
submission_passes s h = record { shape = submission_is s h; numbers = submission_numbered s h; taken = submission_taken s h }

pub submission_reads : (s : Submission) → IsSubmissionWithin s → submission_of (submission_text s) ≡ Some s
submission_reads s h = ap result_ok (written_passes submission_tests s (submission_piece s) refl (submission_plain s) (submission_written s h) (submission_passes s h))

pub submissions_read_exactly : SubmissionsReadExactly
submissions_read_exactly text s = (text_of text s, λ h. ap submission_of h.1 ∙ submission_reads s h.0)

-- ---- what a line is read as

pub reply_reads : (line : ℕ) (reply : ProposalReply) → IsProposalLineWithin line reply → reply_reading (proposal_line line reply) ≡ Ok (line, reply)
reply_reads line reply h = written_passes proposal_tests (line, reply) (proposal_piece line reply) refl (reply_plain line reply) (reply_written line reply h) (reply_taken line reply h)

pub line_of : (text : List ℕ) (line : ℕ) (reply : ProposalReply) → reply_reading text ≡ Ok (line, reply) → IsProposalLineOf text line reply
line_of text line reply e =
    passes proposal_tests text (IsPairWithin IsProposalReplyWithin) (pair_sound proposal_replies IsProposalReplyWithin reply_sound) (line, reply) e

pub replies_read_exactly : RepliesReadExactly
replies_read_exactly text line reply = (line_of text line reply, λ h. ap reply_reading h.1 ∙ reply_reads line reply h.0)
