-- What a text proposes: something exactly where it passes the five tests of a line, with a proposal
-- in place of a reply.
use Rattle.std.specs.Prelude.{ℕ, ◌≡◌, List, length, Bool, ◌&&◌, nat_le, Option, Some, None, option_map, option_and_then, codes, if◌then◌else◌}
use Rattle.std.specs.Result.{result_ok}
use Rattle.form.specs.declared.limits.TheConstants.{MAX_ORDER, MAX_ORDERS}
use Rattle.proposal_check.specs.declared.covers.Proposal.{Proposal}
use Rattle.serde_json.specs.Data.{Data}
use Rattle.serde_json.specs.Find.{as_number, as_u64}
use Rattle.reply_print.specs.Look.{has_members, has_at, is_whole, is_text, is_list}
use Rattle.reply_print.specs.NumberTexts.{is_fraction}
use Rattle.reply_text.specs.BatchValues.{fraction_from}
use Rattle.reply_text.specs.OutcomeValues.{claim_from}
use Rattle.reply_text.specs.Taking.{from_to, list_at, take_at}
use Rattle.reply_text.specs.Tests.{Tests, read_by}
use Rattle.proposal_text.specs.declared.submissions.Submission.{Submission}
use Rattle.proposal_text.specs.CoverReading.{proof_numbers, proof_shape, proved_by}
use Rattle.proposal_text.specs.Pieces.{submission_text}
use Rattle.proposal_text.specs.Within.{IsSubmissionWithin}

-- certificate, fills, liability and surplus, of any object
abbrev pub proposal_shape : Data → Bool
proposal_shape d =
    has_at (codes "certificate") proof_shape d
    && (has_at (codes "fills") (is_list is_text) d && (has_at (codes "liability") is_text d && has_at (codes "surplus") is_text d))

abbrev pub proposal_numbers : Data → Bool
proposal_numbers d =
    has_at (codes "certificate") proof_numbers d
    && (has_at (codes "fills") (is_list is_fraction) d && (has_at (codes "liability") is_fraction d && has_at (codes "surplus") is_fraction d))

abbrev pub proposal_from : Data → Option Proposal
proposal_from d =
    option_and_then (λ claim.
    option_and_then (λ fills. take_at (codes "certificate") (proved_by fills claim) d)
    (list_at (codes "fills") fraction_from d))
    (claim_from d)

-- ---- the orders that it is for

abbrev pub order_number_from : Data → Option ℕ
order_number_from d = option_and_then (from_to 1 MAX_ORDER) (option_and_then as_u64 (as_number d))

abbrev pub few_numbers : List ℕ → Option (List ℕ)
few_numbers orders = if nat_le (length orders) MAX_ORDERS then Some orders else None

abbrev pub order_numbers_at : Data → Option (List ℕ)
order_numbers_at d = option_and_then few_numbers (list_at (codes "orders") order_number_from d)

-- ---- the whole text

abbrev pub submission_shape : Data → Bool
submission_shape d = has_members 5 d && (proposal_shape d && has_at (codes "orders") (is_list is_whole) d)

abbrev pub submission_with : List ℕ → Proposal → Submission
submission_with orders proposal = record { orders = orders; proposal = proposal }

abbrev pub submission_from : Data → Option Submission
submission_from d = option_and_then (λ orders. option_map (submission_with orders) (proposal_from d)) (order_numbers_at d)

-- the tests of a proposal
abbrev pub submission_tests : Tests Submission
submission_tests = record {
  has_shape = submission_shape;
  has_numbers = proposal_numbers;
  taken = submission_from;
  print = submission_text;
}

-- what passes the tests
abbrev pub submission_of : List ℕ → Option Submission
submission_of text = result_ok (read_by submission_tests text)

-- the text is the print of a proposal within its ranges
abbrev pub IsTextOf : List ℕ → Submission → Type 0
IsTextOf text s = IsSubmissionWithin s × (text ≡ submission_text s)
