-- A line that hands something in for a market is read as that.
use Rattle.std.proofs.Common.{◌≡◌, ℕ, suc, ◌+◌, ◌<◌, ◌≤◌, ◌^◌, ◌==◌, List, [], ◌∷◌, ◌++◌, true, false, not, length, take, drop, position, pos, codes, Option, Some, refl, ap, ◌∙◌, arith, length-append}
use Rattle.std.specs.Char.{is_ascii_digit}
use Rattle.std.specs.Fmt.{decimal}
use Rattle.std.specs.List.{list_all, prefix_len}
use Rattle.std.proofs.lemmas.Bool.{and_parts, lt-ltb}
use Rattle.std.proofs.lemmas.Bool.Decides.{nat_tests}
use Rattle.std.proofs.lemmas.Int.{ints}
use Rattle.std.proofs.lemmas.List.{take_at}
use Rattle.arithmetic.proofs.Tests.{int_le-true}
use Rattle.form.specs.Naturals.{is_natural, natural_value}
use Rattle.command_text.specs.declared.numbers.NumberRead.TheVariants.{Value}
use Rattle.command_text.specs.declared.ranges.TheConstants.{MARKET}
use Rattle.command_text.specs.Numbers.{number_in, placed_in}
use Rattle.command_text.specs.Requests.{proposed_for}
use Rattle.command_text.specs.Trades.{with_some}
use Rattle.limits.specs.declared.TheConstants.{MAX_BYTES}
use Rattle.reply_print.specs.Within.{IsMarket}
use Rattle.reply_text.proofs.Digits.{digits-decimal, is_natural-decimal, natural_value-decimal}
use Rattle.proposal_lines.specs.Proposed.{for_market}
use Rattle.proposal_text.specs.declared.submissions.Submission.{Submission}
use Rattle.proposal_text.specs.Pieces.{submission_text}
use Rattle.proposal_text.specs.Submissions.{submission_of}
use Rattle.proposal_text.proofs.ReadExactly.{submission_reads}
use Rattle.book_proposals.specs.Answers.{proposing_text, submission_for}
use Rattle.book_proposals.specs.Laws.{ProposalsAreSubmissions, ProposingIsRead}
use Rattle.book_proposals.proofs.ShortLines.{one_line}

-- ---- the first comma
other_byte : (d : ℕ) → is_ascii_digit d ≡ true → not (d == 44) ≡ true
other_byte d digit = grind (arith, nat_tests)

digits_long : (ds rest : List ℕ) → list_all is_ascii_digit ds ≡ true → prefix_len (λ b. not (b == 44)) (ds ++ 44 ∷ rest) ≡ length ds
digits_long [] rest digits = refl
digits_long (d ∷ ds) rest digits =
    let parts = and_parts (is_ascii_digit d) (list_all is_ascii_digit ds) digits in
    rw (other_byte d parts.0) (omega (arith, digits_long ds rest parts.1))

comma_behind : (ds rest : List ℕ) → list_all is_ascii_digit ds ≡ true → position (λ b. b == 44) (ds ++ 44 ∷ rest) ≡ Some (length ds)
comma_behind ds rest digits =
    rw (digits_long ds rest digits, lt-ltb (length ds) (length (ds ++ 44 ∷ rest)) (omega (arith, length-append ds (44 ∷ rest)))) refl

-- ---- the market
no_minus : (d : ℕ) → is_ascii_digit d ≡ true → (d == 45) ≡ false
no_minus d digit = grind (arith, nat_tests)

number_is : (low high : _) (ds : List ℕ) → list_all is_ascii_digit ds ≡ true → is_natural ds ≡ true → number_in low high ds ≡ placed_in low high (pos (natural_value ds))
number_is low high [] digits natural = absurd (cc (natural))
number_is low high (d ∷ ds) digits natural =
    let parts = and_parts (is_ascii_digit d) (list_all is_ascii_digit ds) digits in rw (no_minus d parts.0, natural) refl

placed : (market : ℕ) → IsMarket market → placed_in (pos 1) (pos 999999999) (pos market) ≡ Value (pos market)
placed market is = rw (int_le-true (pos 1) (pos market) (omega (arith, ints, is.0)), int_le-true (pos market) (pos 999999999) (omega (arith, ints, is.1))) refl

number_market : (market : ℕ) → IsMarket market → number_in (pos 1) (pos 999999999) (decimal market) ≡ Value (pos market)
number_market market is =
    let small : market < 10 ^ 64 = omega (arith, is.1) in
    number_is (pos 1) (pos 999999999) (decimal market) (digits-decimal market small) (is_natural-decimal market small)
    ∙ ap (λ (v : ℕ). placed_in (pos 1) (pos 999999999) (pos v)) (natural_value-decimal market small) ∙ placed market is

-- ---- the line
rest_behind : (ds rest : List ℕ) → drop (length ds + 1) (ds ++ 44 ∷ rest) ≡ rest
rest_behind [] rest = refl
rest_behind (d ∷ ds) rest =
    let moved : suc (length ds) + 1 ≡ suc (length ds + 1) = omega arith in ap (λ n. drop n (d ∷ (ds ++ 44 ∷ rest))) moved ∙ rest_behind ds rest

-- behind the word
text_behind : (k : ℕ) (rest : List ℕ) → drop (k + 9) (codes "propose," ++ rest) ≡ drop (k + 1) rest
text_behind k rest =
    let moved : k + 9 ≡ suc (suc (suc (suc (suc (suc (suc (suc (k + 1)))))))) = omega arith in ap (λ n. drop n (codes "propose," ++ rest)) moved

pub proposing_is_read : ProposingIsRead
proposing_is_read market s is within =
    let small : market < 10 ^ 64 = omega (arith, is.1) in
    let ds = decimal market in
    let text = submission_text s in
    let said = λ (f : List ℕ). proposed_for (length ds + 9) (number_in MARKET.low MARKET.high f) in
    let submitted = λ (o : Option Submission). with_some o (for_market (Some market)) in (
      record { market = Some market; from = length ds + 9 },
      ap (λ (o : Option ℕ). with_some o (λ place. proposed_for (place + 9) (number_in MARKET.low MARKET.high (take place (ds ++ 44 ∷ text))))) (comma_behind ds text (digits-decimal market small))
          ∙ ap said (take_at ds (44 ∷ text) (length ds) refl) ∙ ap (proposed_for (length ds + 9)) (number_market market is),
      ap (λ (t : List ℕ). submitted (submission_of t)) (text_behind (length ds) (ds ++ 44 ∷ text) ∙ rest_behind ds text) ∙ ap submitted (submission_reads s within),
    )

-- behind a line feed
line_short : (line text : List ℕ) → text ≡ line ++ 10 ∷ [] → length text ≤ MAX_BYTES + 1 → length line ≤ MAX_BYTES
line_short line text is short = omega (arith, ap length is, length-append line (10 ∷ []), short)

pub proposals_are_submissions : ProposalsAreSubmissions
proposals_are_submissions told text market batch book proposed =
    let submission = submission_for batch proposed.proposal in
    let line = proposing_text market submission in
    let listed = book.told.0.1.0 in (
      line,
      proposed.proposal,
      proposed.is,
      (one_line market submission listed proposed.within, line_short line text proposed.is proposed.short),
      proposing_is_read market submission listed proposed.within,
      proposed.judged,
    )
