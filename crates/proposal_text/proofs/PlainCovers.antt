-- The texts in the pieces of the certificates of proposals are plain.
use Rattle.std.proofs.Common.{ℕ, List, [], ◌∷◌, refl}
use Rattle.cert_check.specs.declared.measures.Measure.{Measure}
use Rattle.cert_check.specs.declared.outcome.Cover.TheVariants.{Line}
use Rattle.cell_cover.specs.declared.cover.Multiplier.{Multiplier}
use Rattle.cell_cover.specs.declared.cover.Node.{Node}
use Rattle.cell_cover.specs.declared.cover.Node.TheVariants.{Split, Bound, Leaf}
use Rattle.proposal_check.specs.declared.covers.ProposalCover.{ProposalCover}
use Rattle.proposal_check.specs.declared.covers.ProposalCover.TheVariants.{Checked, Match, Cells}
use Rattle.reply_print.specs.BatchPieces.{natural}
use Rattle.reply_print.specs.Piece.{Fields}
use Rattle.reply_print.proofs.PlainPieces.{HasPlainTexts, HasPlainFields, each_plain, fraction_plain, certificate_plain}
use Rattle.proposal_text.specs.CoverPieces.{cell_piece, full_field, multipliers_piece, proof_piece}

flat_plain : (ms : List Multiplier) → HasPlainTexts (multipliers_piece ms)
flat_plain [] = tt
flat_plain (m ∷ ms) = (tt, (fraction_plain m.by, flat_plain ms))

full_plain : (full : List ℕ) (more : Fields) → HasPlainFields more → HasPlainFields (full_field full more)
full_plain [] more h = h
full_plain (k ∷ ks) more h = (refl, (tt, each_plain natural (λ n. tt) ks), h)

cell_plain : (node : Node) → HasPlainTexts (cell_piece node)
cell_plain (Split class) = (refl, tt, tt)
cell_plain (Bound class minus plus) = (refl, tt, (refl, flat_plain minus, (refl, flat_plain plus, tt)))
cell_plain (Leaf full ms) = full_plain full _ (refl, flat_plain ms, tt)

-- a measure stands beside a line as beside any cover
pub proof_plain : (cover : ProposalCover) (measure : Measure) → HasPlainTexts (proof_piece cover measure)
proof_plain (Checked cover) measure = certificate_plain cover measure
proof_plain Match measure = (refl, refl, (certificate_plain Line measure).2)
proof_plain (Cells nodes) measure = (refl, (refl, each_plain cell_piece cell_plain nodes, tt), (certificate_plain Line measure).2)
