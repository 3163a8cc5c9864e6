-- The certificate of a proposal within its ranges is written as one, and taken out again.
use Rattle.std.proofs.Common.{◌≡◌, ◌≤◌, List, length, true, Some, option_map, refl, ap}
use Rattle.std.proofs.lemmas.Bool.{and_from, le-leb, or_left, or_right}
use Rattle.frac.specs.declared.frac128.Frac128.{Frac128}
use Rattle.cert_check.specs.declared.measures.Measure.{Measure}
use Rattle.cert_check.specs.declared.measures.Weighted.{Weighted}
use Rattle.cert_check.specs.declared.outcome.Claim.{Claim}
use Rattle.cert_check.specs.declared.outcome.Cover.{Cover}
use Rattle.cert_check.specs.declared.outcome.Cover.TheVariants.{Line, Tree}
use Rattle.proposal_check.specs.declared.covers.Proposal.{Proposal}
use Rattle.proposal_check.specs.declared.covers.ProposalCover.{ProposalCover}
use Rattle.proposal_check.specs.declared.covers.ProposalCover.TheVariants.{Checked, Match, Cells}
use Rattle.reply_print.specs.ClearedShape.{point_shape}
use Rattle.reply_print.specs.NumberTexts.{point_numbers}
use Rattle.reply_print.specs.OutcomePieces.{point_piece}
use Rattle.reply_print.specs.PieceData.{piece_data}
use Rattle.reply_print.specs.Piece.{Piece}
use Rattle.reply_print.specs.Within.{IsPointWithin}
use Rattle.reply_print.specs.Written.{IsWritten}
use Rattle.reply_print.proofs.WrittenReplies.{certificate_written, each_written, point_written}
use Rattle.reply_text.specs.OutcomeValues.{measure_of, point_from}
use Rattle.reply_text.proofs.Taken.{items_pass, items_taken}
use Rattle.reply_text.proofs.TakenOutcomes.{cover_is_cover, cover_is_numbered, cover_taken, point_is_numbered, point_is_point, point_taken}
use Rattle.reply_text.proofs.TakenReplies.{then_taken}
use Rattle.proposal_text.specs.CoverPieces.{proof_piece, proof_with, proposal_cover_piece}
use Rattle.proposal_text.specs.CoverReading.{proof_numbers, proof_shape, proposal_cover_at, proposal_cover_numbers, proposal_cover_shape, proposal_with, proved_by}
use Rattle.proposal_text.proofs.TakenCells.{cells_are, cells_are_numbered, cells_taken, cells_written}
use Rattle.proposal_text.specs.Counts.{IsShortCover, few_points, short_cover}
use Rattle.proposal_text.specs.declared.counts.TheConstants.{MAX_POINTS, MAX_TREE_NODES}
use Rattle.proposal_text.specs.Within.{IsMeasureWithin, IsProposalCoverWithin, IsProposalWithin}

-- ---- what is written

with_measure : (cover : Piece) (measure : Measure) → IsWritten 4 cover → IsMeasureWithin measure → IsWritten 5 (proof_with cover measure)
with_measure cover measure c m = (refl, (refl, c, (refl, each_written IsPointWithin 3 point_piece point_written measure.points m.1, tt)))

pub proof_written : (cover : ProposalCover) (measure : Measure) → IsProposalCoverWithin cover → IsMeasureWithin measure → IsWritten 5 (proof_piece cover measure)
proof_written (Checked cover) measure c m = certificate_written cover measure c.0 m.1
proof_written Match measure c m = with_measure (proposal_cover_piece Match) measure refl m
proof_written (Cells nodes) measure c m = with_measure (proposal_cover_piece (Cells nodes)) measure (cells_written nodes c) m

-- ---- covers

cover_is : (cover : ProposalCover) → IsProposalCoverWithin cover → proposal_cover_shape (piece_data (proposal_cover_piece cover)) ≡ true
cover_is (Checked cover) c = or_right _ _ (or_left _ _ (cover_is_cover cover c.0))
cover_is Match c = refl
cover_is (Cells nodes) c = cells_are nodes c

cover_numbered : (cover : ProposalCover) → IsProposalCoverWithin cover → proposal_cover_numbers (piece_data (proposal_cover_piece cover)) ≡ true
cover_numbered (Checked cover) c = or_right _ _ (or_left _ _ (cover_is_numbered cover c.0))
cover_numbered Match c = refl
cover_numbered (Cells nodes) c = cells_are_numbered nodes c

short_taken : (cover : Cover) → IsShortCover cover → short_cover cover ≡ Some cover
short_taken Line h = refl
short_taken (Tree tree) h = rw (le-leb (length tree.nodes) MAX_TREE_NODES h) refl

few_taken : (points : List Weighted) → length points ≤ MAX_POINTS → few_points points ≡ Some points
few_taken points h = rw (le-leb (length points) MAX_POINTS h) refl

checked_back : (cover : Cover) (measure : Measure) → IsProposalCoverWithin (Checked cover) → proposal_cover_at (piece_data (proof_piece (Checked cover) measure)) ≡ Some (Checked cover)
checked_back Line measure c = refl
checked_back (Tree tree) measure c = ap (option_map Checked) (then_taken _ _ (Tree tree) _ (cover_taken (Tree tree) c.0) (short_taken (Tree tree) c.1))

cover_back : (cover : ProposalCover) (measure : Measure) → IsProposalCoverWithin cover → proposal_cover_at (piece_data (proof_piece cover measure)) ≡ Some cover
cover_back (Checked cover) measure c = checked_back cover measure c
cover_back Match measure c = refl
cover_back (Cells nodes) measure c = ap (option_map Cells) (cells_taken nodes c)

-- ---- certificates

module _ (cover : ProposalCover) (measure : Measure) (c : IsProposalCoverWithin cover) (m : IsMeasureWithin measure) where
  pub proof_is : proof_shape (piece_data (proof_piece cover measure)) ≡ true
  proof_is = and_from _ _ (cover_is cover c) (items_pass IsPointWithin point_piece point_shape point_is_point measure.points m.1)

  pub proof_numbered : proof_numbers (piece_data (proof_piece cover measure)) ≡ true
  proof_numbered = and_from _ _ (cover_numbered cover c) (items_pass IsPointWithin point_piece point_numbers point_is_numbered measure.points m.1)

  proved_back : (fills : List Frac128) (claim : Claim) → proved_by fills claim (piece_data (proof_piece cover measure)) ≡ Some (proposal_with fills claim cover measure)
  proved_back fills claim =
      then_taken _ _ cover _ (cover_back cover measure c)
      (ap (option_map (λ points. proposal_with fills claim cover (measure_of points)))
      (then_taken _ _ measure.points _ (items_taken IsPointWithin point_piece point_from point_taken measure.points m.1) (few_taken measure.points m.0)))

pub proof_taken : (p : Proposal) → IsProposalWithin p → proved_by p.fills p.claim (piece_data (proof_piece p.cover p.measure)) ≡ Some p
proof_taken p within = proved_back p.cover p.measure within.0 within.1 p.fills p.claim
