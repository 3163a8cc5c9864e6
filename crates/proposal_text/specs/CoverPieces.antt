-- What the cover of a proposal is written as, with the measure beside it.
use Rattle.std.specs.Prelude.{ℕ, List, [], ◌∷◌, Bool, true, false, codes}
use Rattle.cert_check.specs.declared.measures.Measure.{Measure}
use Rattle.cell_cover.specs.declared.cover.Multiplier.{Multiplier}
use Rattle.cell_cover.specs.declared.cover.Node.{Node}
use Rattle.cell_cover.specs.declared.cover.Node.TheVariants.{Split, Bound, Leaf}
use Rattle.proposal_check.specs.declared.covers.ProposalCover.{ProposalCover}
use Rattle.proposal_check.specs.declared.covers.ProposalCover.TheVariants.{Checked, Match, Cells}
use Rattle.reply_print.specs.BatchPieces.{natural, fraction, each}
use Rattle.reply_print.specs.OutcomePieces.{cover_piece, point_piece}
use Rattle.reply_print.specs.Piece.{Piece, words, object, Fields, no_fields, field}

-- classes and their multipliers, in turn
abbrev pub flat_pieces : List Multiplier → List Piece
flat_pieces [] = []
flat_pieces (m ∷ ms) = natural m.class ∷ fraction m.by ∷ flat_pieces ms

abbrev pub multipliers_piece : List Multiplier → Piece
multipliers_piece ms = each (λ p. p) (flat_pieces ms)

abbrev pub is_some_class : List ℕ → Bool
is_some_class [] = false
is_some_class (k ∷ ks) = true

-- the classes with their whole kink, where there are any
abbrev pub full_field : List ℕ → Fields → Fields
full_field [] more = more
full_field (k ∷ ks) more = field (codes "full") (each natural (k ∷ ks)) more

abbrev pub cell_piece : Node → Piece
cell_piece (Split class) = object (field (codes "split") (natural class) no_fields)
cell_piece (Bound class minus plus) =
    object (field (codes "bound") (natural class)
    (field (codes "minus") (multipliers_piece minus)
    (field (codes "plus") (multipliers_piece plus) no_fields)))
cell_piece (Leaf full ms) = object (full_field full (field (codes "leaf") (multipliers_piece ms) no_fields))

abbrev pub cells_piece : List Node → Piece
cells_piece nodes = object (field (codes "cells") (each cell_piece nodes) no_fields)

abbrev pub proposal_cover_piece : ProposalCover → Piece
proposal_cover_piece (Checked cover) = cover_piece cover
proposal_cover_piece Match = words (codes "match")
proposal_cover_piece (Cells nodes) = cells_piece nodes

-- what is written as a cover, and a measure
abbrev pub proof_with : Piece → Measure → Piece
proof_with cover measure =
    object (field (codes "cover") cover (field (codes "measure") (each point_piece measure.points) no_fields))

-- the certificate of a proposal
abbrev pub proof_piece : ProposalCover → Measure → Piece
proof_piece cover measure = proof_with (proposal_cover_piece cover) measure
