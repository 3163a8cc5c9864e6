-- A certificate that is taken out is within its ranges.
use Rattle.std.proofs.Common.{List, Some, ◌≤◌, codes, length, nat_le}
use Rattle.std.specs.List.{AllByRecursion}
use Rattle.std.proofs.lemmas.Bool.{leb-true}
use Rattle.frac.specs.declared.frac128.Frac128.{Frac128}
use Rattle.cert_check.specs.declared.measures.Weighted.{Weighted}
use Rattle.cert_check.specs.declared.outcome.Claim.{Claim}
use Rattle.cert_check.specs.declared.outcome.Cover.{Cover}
use Rattle.cert_check.specs.declared.outcome.Cover.TheVariants.{Line, Tree}
use Rattle.proposal_check.specs.declared.covers.ProposalCover.TheVariants.{Checked, Match, Cells}
use Rattle.serde_json.specs.Data.{Data}
use Rattle.reply_print.specs.Look.{has_at}
use Rattle.reply_print.specs.Within.{IsCoverWithin, IsPointWithin}
use Rattle.reply_text.specs.OutcomeValues.{cover_from, point_from}
use Rattle.reply_text.proofs.Sound.{Sound, after, at_key, either, list_sound, mapped, where_true}
use Rattle.reply_text.proofs.SoundCleared.{cover_sound, point_sound}
use Rattle.proposal_text.specs.CellRanges.{AreCellsWithin}
use Rattle.proposal_text.specs.CellReading.{cells_from}
use Rattle.proposal_text.specs.Counts.{IsShortCover, few_points, short_cover}
use Rattle.proposal_text.specs.declared.counts.TheConstants.{MAX_POINTS, MAX_TREE_NODES}
use Rattle.proposal_text.specs.CoverReading.{has_cells, is_match, proposal_cover_at, proved_by}
use Rattle.proposal_text.proofs.SoundCells.{cells_sound}
use Rattle.proposal_text.specs.Within.{IsProposalCoverWithin, IsProposalWithin}

abbrev ArePointsWithin : List Weighted → Type 0
ArePointsWithin points = (length points ≤ MAX_POINTS) × AllByRecursion IsPointWithin points

abbrev IsCheckedWithin : Cover → Type 0
IsCheckedWithin cover = IsCoverWithin cover × IsShortCover cover

short_sound : (cover : Cover) → IsCoverWithin cover → Sound IsCheckedWithin (short_cover cover)
short_sound Line c = (c, tt)
short_sound (Tree tree) c = where_true IsCheckedWithin (nat_le (length tree.nodes) MAX_TREE_NODES) (Tree tree) (λ e. (c, leb-true (length tree.nodes) MAX_TREE_NODES e))

few_sound : (points : List Weighted) → AllByRecursion IsPointWithin points → Sound ArePointsWithin (few_points points)
few_sound points h = where_true ArePointsWithin (nat_le (length points) MAX_POINTS) points (λ e. (leb-true (length points) MAX_POINTS e, h))

proposal_cover_sound : (d : Data) → Sound IsProposalCoverWithin (proposal_cover_at d)
proposal_cover_sound d =
    either IsProposalCoverWithin (has_at (codes "cover") is_match d) (Some Match) _ tt
    (either IsProposalCoverWithin (has_at (codes "cover") has_cells d) _ _
    (mapped AreCellsWithin IsProposalCoverWithin Cells _ (at_key AreCellsWithin (codes "cover") cells_from d cells_sound) (λ nodes c. c))
    (mapped IsCheckedWithin IsProposalCoverWithin Checked _
    (after IsCoverWithin IsCheckedWithin short_cover _ (at_key IsCoverWithin (codes "cover") cover_from d cover_sound) short_sound) (λ cover c. c)))

pub proved_sound : (fills : List Frac128) (claim : Claim) (d : Data) → Sound IsProposalWithin (proved_by fills claim d)
proved_sound fills claim d =
    after IsProposalCoverWithin IsProposalWithin _ (proposal_cover_at d) (proposal_cover_sound d)
    (λ cover c. mapped ArePointsWithin IsProposalWithin _ _
    (after (AllByRecursion IsPointWithin) ArePointsWithin few_points _ (list_sound IsPointWithin (codes "measure") point_from d point_sound) few_sound) (λ points p. (c, p)))
