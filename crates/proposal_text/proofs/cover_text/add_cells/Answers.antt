use Rattle.std.proofs.Common.{false, codes}
use Rattle.std.proofs.lemmas.Result.{on_ok_weaker}
use Rattle.reply_print.specs.BatchPieces.{each}
use Rattle.reply_print.specs.Piece.{no_fields}
use Rattle.reply_print.proofs.Behind.{closed, field_added, fields_of}
use Rattle.proposal_text.specs.CoverPieces.{cell_piece, cells_piece}
use Rattle.proposal_text.proofs.cover_text.add_cells.Goals as goal

pub returns : goal.returns
returns c =
    let cells = field_added c.append.new.line.items c.add_key.new.line.items c.add_nodes.new.line.items false (codes "cells") (each cell_piece c.args.nodes.now) c.in_ok-add_key.ensures c.in_ok-add_nodes.ensures no_fields in
    on_ok_weaker c.append-2.result
    (λ e. closed c.args.line.now.items c.append.new.line.items c.add_nodes.new.line.items c.append-2.new.line.items (fields_of (cells_piece c.args.nodes.now)) c.in_ok-append.ensures cells e)
    c.append-2.ensures
