-- The certificate of a proposal: its shape, whether its texts are numbers, and the proposal that is
-- taken out with it, where it is within its ranges.
use Rattle.std.specs.Prelude.{List, Bool, true, ◌&&◌, ◌||◌, Option, Some, option_map, option_and_then, codes, if◌then◌else◌}
use Rattle.frac.specs.declared.frac128.Frac128.{Frac128}
use Rattle.cert_check.specs.declared.measures.Measure.{Measure}
use Rattle.cert_check.specs.declared.outcome.Claim.{Claim}
use Rattle.proposal_check.specs.declared.covers.Proposal.{Proposal}
use Rattle.proposal_check.specs.declared.covers.ProposalCover.{ProposalCover}
use Rattle.proposal_check.specs.declared.covers.ProposalCover.TheVariants.{Checked, Match, Cells}
use Rattle.serde_json.specs.Data.{Data}
use Rattle.reply_print.specs.ClearedShape.{cover_shape, point_shape}
use Rattle.reply_print.specs.Look.{has_members, has_at, is_list, is_word}
use Rattle.reply_print.specs.NumberTexts.{cover_numbers, point_numbers}
use Rattle.reply_text.specs.OutcomeValues.{cover_from, measure_of, point_from}
use Rattle.reply_text.specs.Taking.{list_at, take_at}
use Rattle.proposal_text.specs.CellReading.{cells_from, cells_numbers, cells_shape}
use Rattle.proposal_text.specs.Counts.{few_points, short_cover}

-- the match of each bundle by itself has a word for its cover
abbrev pub is_match : Data → Bool
is_match d = is_word (codes "match") d

abbrev pub has_cells : Data → Bool
has_cells d = has_at (codes "cells") (λ e. true) d

abbrev pub proposal_cover_shape : Data → Bool
proposal_cover_shape d = is_match d || (cover_shape d || cells_shape d)

abbrev pub proof_shape : Data → Bool
proof_shape d = has_members 2 d && (has_at (codes "cover") proposal_cover_shape d && has_at (codes "measure") (is_list point_shape) d)

abbrev pub proposal_cover_numbers : Data → Bool
proposal_cover_numbers d = is_match d || (cover_numbers d || cells_numbers d)

abbrev pub proof_numbers : Data → Bool
proof_numbers d = has_at (codes "cover") proposal_cover_numbers d && has_at (codes "measure") (is_list point_numbers) d

-- cells, or a cover that a verdict knows and that is not too long
abbrev pub written_cover_at : Data → Option ProposalCover
written_cover_at d =
    if has_at (codes "cover") has_cells d then option_map Cells (take_at (codes "cover") cells_from d)
    else option_map Checked (option_and_then short_cover (take_at (codes "cover") cover_from d))

-- the cover of a certificate
abbrev pub proposal_cover_at : Data → Option ProposalCover
proposal_cover_at d = if has_at (codes "cover") is_match d then Some Match else written_cover_at d

abbrev pub proposal_with : List Frac128 → Claim → ProposalCover → Measure → Proposal
proposal_with fills claim cover measure = record { fills = fills; claim = claim; cover = cover; measure = measure }

-- the proposal of these fills and this claim under a certificate whose measure is not too long
abbrev pub proved_by : List Frac128 → Claim → Data → Option Proposal
proved_by fills claim d =
    option_and_then
    (λ cover. option_map (λ points. proposal_with fills claim cover (measure_of points)) (option_and_then few_points (list_at (codes "measure") point_from d)))
    (proposal_cover_at d)
