-- The lines of replies within their ranges are sound ones, without a line feed.
use Rattle.std.proofs.Common.{◌≡◌, ℕ, List, [], ◌∷◌, ◌++◌, true, false, ◌==◌, inl, refl, arith}
use Rattle.std.proofs.lemmas.Bool.{and_parts}
use Rattle.std.proofs.lemmas.Bool.Decides.{nat_tests}
use Rattle.std.proofs.lemmas.List.Elements.{All-nil, All-cons, All-append}
use Rattle.cert_check.proofs.Yes.{yes_covers, yes_has_its_measure, yes_on_optimal_proves}
use Rattle.exchange_core.specs.Covered as core
use Rattle.exchange_lines.specs.Promises.{IsJudgedYes}
use Rattle.reply_print.specs.declared.replies.Reply.{Reply}
use Rattle.reply_print.specs.declared.replies.Reply.TheVariants.{Opened, Deposited, Withdrawn, Listed, Placed, Cancelled, Cleared, Settled, Balance, Refused}
use Rattle.reply_print.specs.ReplyPieces.{reply_line}
use Rattle.reply_print.specs.Within.{IsWithin}
use Rattle.reply_print.specs.Written.{is_plain, is_plain_byte}
use Rattle.reply_print.proofs.Ascii.{line_has_no_feed, piece_has_no_feed}
use Rattle.proposal_text.specs.declared.replies.ProposalReply.{ProposalReply}
use Rattle.proposal_text.specs.declared.replies.ServedReply.{ServedReply}
use Rattle.proposal_text.specs.declared.replies.ServedReply.TheVariants.{Plain, Told}
use Rattle.proposal_text.specs.Pieces.{proposal_line, proposal_piece, served_line}
use Rattle.proposal_text.specs.Within.{IsProposalLineWithin}
use Rattle.proposal_text.proofs.WrittenProposals.{reply_written as proposal_written}
use Rattle.journal_check.specs.Laws.{IfCleared, IsCertified}
use Rattle.journal_audit.specs.Laws.{IfBounded, IsServedLineOf, OfServe}
use Rattle.reply_ranges.proofs.Reports.{HasNoFeed, IsOneLine}

-- ---- plain texts have no line feed
other_byte : (b : ℕ) → is_plain_byte b ≡ true → (b == 10) ≡ false
other_byte b h = grind (arith, nat_tests)

abbrev IsNoFeed : ℕ → Type 0
IsNoFeed b = (b == 10) ≡ false

pub plain_has_none : (text : List ℕ) → is_plain text ≡ true → HasNoFeed text
plain_has_none [] h = All-nil IsNoFeed
plain_has_none (b ∷ text) h =
    let parts = and_parts (is_plain_byte b) (is_plain text) h in
    All-cons IsNoFeed b text (other_byte b parts.0) (plain_has_none text parts.1)

pub both_have_none : (front back : List ℕ) → HasNoFeed front → HasNoFeed back → HasNoFeed (front ++ back)
both_have_none front back f b = All-append IsNoFeed front back f b

-- a byte in front
pub with_byte : (b : ℕ) (text : List ℕ) → (b == 10) ≡ false → HasNoFeed text → HasNoFeed (b ∷ text)
with_byte b text other h = All-cons IsNoFeed b text other h

-- ---- the line of a reply, with its line feed
pub record IsServedText (bytes : List ℕ) : Type 0 where
  pub text : List ℕ
  pub is : bytes ≡ text ++ 10 ∷ []
  pub reply : ServedReply
  pub served : IsServedLineOf text reply
  pub one : HasNoFeed text

abbrev pub IsServedReply : ℕ → ServedReply → Type 0
IsServedReply number reply = IsServedText (served_line number reply ++ 10 ∷ [])

-- as a line of its own
pub as_line : (bytes : List ℕ) → IsServedText bytes → IsOneLine bytes
as_line bytes own = record { text = own.text; is = own.is; accepted = record { sound = record { reply = OfServe own.reply; is_line = inl own.served }; one = own.one } }

-- the verdict on a batch is yes, so it is certified
pub certified : (reply : Reply) → core.IfCleared IsJudgedYes reply → IfCleared reply IsCertified
certified (Opened account) h = tt
certified (Deposited account balance) h = tt
certified (Withdrawn account balance) h = tt
certified (Listed market underlyings) h = tt
certified (Placed order) h = tt
certified (Cancelled order) h = tt
certified (Cleared number market batch outcome) h = record {
  yes = h;
  covered = yes_covers batch outcome h;
  proved = yes_on_optimal_proves batch outcome h;
  measured = yes_has_its_measure batch outcome h;
}
certified (Settled market lapsed payouts) h = tt
certified (Balance account balance reserved) h = tt
certified (Refused number place) h = tt

pub run_text : (number : ℕ) (reply : Reply) → IsWithin number reply → core.IfCleared IsJudgedYes reply → IsServedReply number (Plain reply)
run_text number reply within judged = record {
  text = reply_line number reply;
  is = refl;
  reply = Plain reply;
  served = record { line = number; is_line = (within, refl); certified = certified reply judged };
  one = line_has_no_feed number reply within;
}

pub proposal_text : (number : ℕ) (reply : ProposalReply) → IsProposalLineWithin number reply → IfBounded reply → IsServedReply number (Told reply)
proposal_text number reply within proved = record {
  text = proposal_line number reply;
  is = refl;
  reply = Told reply;
  served = record { line = number; is_line = (within, refl); proved = proved };
  one = piece_has_no_feed 6 (proposal_piece number reply) (proposal_written number reply within);
}
