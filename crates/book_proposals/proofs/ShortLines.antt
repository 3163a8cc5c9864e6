-- Lines that hand proposals in are one line each, and one that proposes nothing is short.
use Rattle.std.proofs.Common.{◌≡◌, ℕ, suc, ◌+◌, ◌*◌, ◌<◌, ◌≤◌, ◌^◌, ◌==◌, ℤ, pos, negsuc, List, [], ◌∷◌, ◌++◌, Bool, true, false, if◌then◌else◌, length, codes, refl, ap, sym, subst, arith, length-append}
use Rattle.std.specs.Fmt.{decimal, signed_decimal}
use Rattle.std.specs.List.{All, AllByRecursion}
use Rattle.std.proofs.lemmas.Bool.{lt-ltb}
use Rattle.std.proofs.lemmas.List.{length-map, length-replicate, length-take}
use Rattle.std.proofs.lemmas.List.Elements.{recursion_from_All}
use Rattle.std.proofs.lemmas.List.Folds.{list_any_none}
use Rattle.itoa.proofs.Decimal.{length_wide}
use Rattle.exact_num.specs.Fraction.{whole as whole_fraction}
use Rattle.form.specs.declared.orders.Batch.{Batch}
use Rattle.frac.specs.declared.frac128.Frac128.{Frac128}
use Rattle.frac.specs.Value.{fraction_of}
use Rattle.cert_check.specs.declared.measures.Weighted.{Weighted}
use Rattle.cert_check.specs.Points.{point_of}
use Rattle.cert_check.specs.declared.outcome.Cover.{Cover}
use Rattle.cert_check.specs.declared.outcome.Cover.TheVariants.{Line, Tree}
use Rattle.proposal_check.specs.declared.covers.Proposal.{Proposal}
use Rattle.proposal_check.specs.declared.covers.ProposalCover.{ProposalCover}
use Rattle.proposal_check.specs.declared.covers.ProposalCover.TheVariants.{Checked, Match, Cells}
use Rattle.proposals.specs.Judged.{IsBare, IsBareCover, ProposesNothing}
use Rattle.live_lines.specs.Open.{IsOneLine}
use Rattle.limits.specs.declared.TheConstants.{MAX_BYTES}
use Rattle.live_lines.proofs.OneLine.{one_append}
use Rattle.reply_print.specs.BatchPieces.{each, fraction, natural, pieces_of, whole_words}
use Rattle.reply_print.specs.Numbers.{fraction_text}
use Rattle.reply_print.specs.OutcomePieces.{cover_piece, node_pieces, point_piece, state_entries}
use Rattle.proposal_text.specs.CoverPieces.{proof_piece, proposal_cover_piece}
use Rattle.reply_print.specs.Piece.{Fields, Piece, comma_after, field, fields_text, list, no_fields, piece_text, pieces_text, whole, words}
use Rattle.reply_print.specs.Within.{IsBatchWithin, IsMarket, IsOrderNumber, IsPointWithin, IsSmall}
use Rattle.reply_print.proofs.Ascii.{piece_has_no_feed}
use Rattle.proposal_text.specs.declared.submissions.Submission.{Submission}
use Rattle.proposal_text.specs.Pieces.{submission_piece, submission_text}
use Rattle.proposal_text.specs.Within.{IsMeasureWithin, IsSubmissionWithin}
use Rattle.proposal_text.proofs.WrittenProposals.{submission_written}
use Rattle.book_proposals.specs.Answers.{proposing_text, submission_for}
use Rattle.book_proposals.proofs.ProposalsWithin.{nothing_within, submission_within}

-- ---- one line
without_feed : (text : List ℕ) → All (λ b. (b == 10) ≡ false) text → IsOneLine text
without_feed text none = list_any_none (λ b. b == 10) text none

pub one_line : (market : ℕ) (s : Submission) → IsMarket market → IsSubmissionWithin s → IsOneLine (proposing_text market s)
one_line market s is within =
    let number = without_feed (decimal market) (piece_has_no_feed 0 (whole (pos market)) (lt-ltb market (2 ^ 63) (omega (arith, is.1)))) in
    let proposed = without_feed (submission_text s) (piece_has_no_feed 6 (submission_piece s) (submission_written s within)) in
    one_append (codes "propose,") (decimal market ++ (codes "," ++ submission_text s)) refl
    (one_append (decimal market) (codes "," ++ submission_text s) number (one_append (codes ",") (submission_text s) refl proposed))

-- ---- sizes of texts
abbrev size : Piece → ℕ
size p = length (piece_text p)

words_size : (text : List ℕ) → size (words text) ≡ length text + 2
words_size text = omega (arith, length-append text (34 ∷ []))

signed_size : (z : ℤ) → IsSmall z → length (signed_decimal z) ≤ 40
signed_size (pos n) small = omega (arith, length_wide n (omega (arith, small)))
signed_size (negsuc n) small = omega (arith, length_wide (suc n) (omega (arith, small)))

ratio_size : (b : Bool) (above below : List ℕ) → length above ≤ 40 → length below ≤ 39 → length (if b then above else above ++ 47 ∷ below) ≤ 80
ratio_size true above below p q = omega (arith, p)
ratio_size false above below p q = omega (arith, p, q, length-append above (47 ∷ below))

fraction_size : (x : Frac128) → size (fraction x) ≤ 95
fraction_size x =
    let below = length_wide x.denominator (omega (arith, x.below_fits)) in
    let text = ratio_size (x.denominator == 1) (signed_decimal x.numerator) (decimal x.denominator) (signed_size x.numerator x.above_fits) below in
    omega (arith, text, words_size (fraction_text (fraction_of x)))

entry_size : (z : ℤ) → IsSmall z → size (whole_words z) ≤ 95
entry_size z small = omega (arith, words_size (signed_decimal z), signed_size z small)

number_size : (n : ℕ) → IsOrderNumber n → size (natural n) ≤ 95
number_size n is = omega (arith, length_wide n (omega (arith, is.1)))

comma_size : (later : Bool) → length (comma_after later) ≤ 1
comma_size true = omega arith
comma_size false = omega arith

each_size : {A : Type 0} (f : A → Piece) (P : A → Type 0) → ((x : A) → P x → size (f x) ≤ 95) → (later : Bool) (xs : List A) → AllByRecursion P xs
    → length (pieces_text later (pieces_of f xs)) ≤ 96 * length xs + 1
each_size f P short later [] all = omega arith
each_size f P short later (x ∷ xs) all =
    let more = pieces_text true (pieces_of f xs) in
    omega
    (arith, comma_size later, short x all.0, each_size f P short true xs all.1, length-append (comma_after later) (piece_text (f x) ++ more), length-append (piece_text (f x)) more)

fields_size : (later : Bool) (key : List ℕ) (p : Piece) (fs : Fields) → length (fields_text later (field key p fs)) ≤ length key + size p + length (fields_text true fs) + 4
fields_size later key p fs =
    let value = piece_text p ++ fields_text true fs in
    omega (
      arith,
      comma_size later,
      length-append (comma_after later) ((34 ∷ (key ++ 34 ∷ [])) ++ 58 ∷ value),
      length-append (34 ∷ (key ++ 34 ∷ [])) (58 ∷ value),
      length-append key (34 ∷ []),
      length-append (piece_text p) (fields_text true fs),
    )

-- ---- a proposal of nothing
point_size : (point : Weighted) → IsPointWithin point → size (point_piece point) ≤ 1000
point_size point within =
    let entries = state_entries point.state in
    let few : length entries ≤ 9 = omega (arith, length-take point.state.count point.state.entries, point.state.nine_entries) in
    let weight = field (codes "weight") (fraction point.weight) no_fields in
    omega (
      arith,
      few,
      each_size whole_words IsSmall entry_size false entries within,
      fields_size false (codes "state") (each whole_words entries) weight,
      fields_size true (codes "weight") (fraction point.weight) no_fields,
      fraction_size point.weight,
    )

points_size : (points : List Weighted) → length points ≡ 1 → AllByRecursion IsPointWithin points → size (each point_piece points) ≤ 1010
points_size [] one within = absurd (omega (arith, one))
points_size (point ∷ []) one within = omega (arith, point_size point within.0, length-append (piece_text (point_piece point)) (93 ∷ []))
points_size (point ∷ next ∷ more) one within = absurd (omega (arith, one))

cover_size : (n : ℕ) (cover : Cover) → IsBareCover n cover → size (cover_piece cover) ≤ 20
cover_size n Line bare = omega arith
cover_size n (Tree tree) bare = subst (λ nodes. size (list (node_pieces nodes tree.multipliers)) ≤ 20) (sym bare.1) (omega arith)

covered_size : (n : ℕ) (cover : ProposalCover) → IsBare n cover → size (proposal_cover_piece cover) ≤ 20
covered_size n (Checked cover) bare = cover_size n cover bare
covered_size n Match bare = absurd bare
covered_size n (Cells nodes) bare = absurd bare

module _ (batch : Batch) (proposal : Proposal) (ranges : IsBatchWithin batch) (nothing : ProposesNothing batch proposal) where
  certificate_size : size (proof_piece proposal.cover proposal.measure) ≤ 1100
  certificate_size =
      let points = proposal.measure.points in
      let one : length points ≡ 1 = omega (arith, length-map points point_of, ap length nothing.measure) in
      let measured = field (codes "measure") (each point_piece points) no_fields in
      let within : IsMeasureWithin proposal.measure = (nothing_within batch proposal nothing).1 in
      omega (
        arith,
        covered_size batch.underlyings proposal.cover nothing.cover,
        points_size points one within.1,
        fields_size false (codes "cover") (proposal_cover_piece proposal.cover) measured,
        fields_size true (codes "measure") (each point_piece points) no_fields,
      )

  fills_size : size (each fraction proposal.fills) ≤ 25000
  fills_size =
      let all = recursion_from_All (λ x. Unit {0}) proposal.fills (λ k d lt. tt) in
      let few : length proposal.fills ≤ 256
      = omega (arith, ranges.1, length-map proposal.fills fraction_of, ap length nothing.fills, length-replicate (length batch.orders) (whole_fraction (pos 0))) in
      omega (arith, few, each_size fraction (λ x. Unit {0}) (λ x any. fraction_size x) false proposal.fills all)

  orders_size : size (each natural (submission_for batch proposal).orders) ≤ 25000
  orders_size =
      let within = submission_within batch proposal ranges (nothing_within batch proposal nothing) in
      omega (arith, within.1, each_size natural IsOrderNumber number_size false (submission_for batch proposal).orders within.2)

  submission_size : size (submission_piece (submission_for batch proposal)) ≤ 60000
  submission_size =
      let claim = proposal.claim in
      let surplus = field (codes "surplus") (fraction claim.surplus) no_fields in
      let orders = field (codes "orders") (each natural (submission_for batch proposal).orders) surplus in
      let liability = field (codes "liability") (fraction claim.liability) orders in
      let fills = field (codes "fills") (each fraction proposal.fills) liability in
      omega (
        arith,
        certificate_size,
        fills_size,
        fraction_size claim.liability,
        orders_size,
        fraction_size claim.surplus,
        fields_size false (codes "certificate") (proof_piece proposal.cover proposal.measure) fills,
        fields_size true (codes "fills") (each fraction proposal.fills) liability,
        fields_size true (codes "liability") (fraction claim.liability) orders,
        fields_size true (codes "orders") (each natural (submission_for batch proposal).orders) surplus,
        fields_size true (codes "surplus") (fraction claim.surplus) no_fields,
      )

  pub nothing_short : (market : ℕ) (text : List ℕ) → market < 2 ^ 128 → text ≡ proposing_text market (submission_for batch proposal) ++ 10 ∷ [] → length text ≤ MAX_BYTES + 1
  nothing_short market text small is =
      let proposed = submission_text (submission_for batch proposal) in
      let line = proposing_text market (submission_for batch proposal) in
      omega (
        arith,
        ap length is,
        length-append line (10 ∷ []),
        length-append (codes "propose,") (decimal market ++ (codes "," ++ proposed)),
        length-append (decimal market) (codes "," ++ proposed),
        length-append (codes ",") proposed,
        length_wide market small,
        submission_size,
      )
