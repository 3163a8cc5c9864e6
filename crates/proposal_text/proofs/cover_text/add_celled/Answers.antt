use Rattle.std.proofs.Common.{false, codes, ◌∙◌}
use Rattle.std.proofs.lemmas.Result.{on_ok_weaker}
use Rattle.reply_print.specs.OutcomePieces.{point_piece}
use Rattle.reply_print.specs.BatchPieces.{each}
use Rattle.reply_print.specs.Piece.{no_fields, field}
use Rattle.reply_print.proofs.Behind.{closed, field_added, fields_of}
use Rattle.proposal_text.specs.CoverPieces.{cells_piece, proof_with}
use Rattle.proposal_text.proofs.cover_text.add_celled.Goals as goal

pub returns : goal.returns
returns c =
    let points = field (codes "measure") (each point_piece c.as_slice.result.now) no_fields in
    let cover = field_added c.append.new.line.items c.add_key.new.line.items c.add_cells.new.line.items false (codes "cover") (cells_piece c.args.nodes.now) c.in_ok-add_key.ensures c.in_ok-add_cells.ensures in
    let fields = c.in_ok-add_items.ensures no_fields ∙ cover points in
    on_ok_weaker c.append-2.result
    (λ e. closed c.args.line.now.items c.append.new.line.items c.add_items.new.line.items c.append-2.new.line.items (fields_of (proof_with (cells_piece c.args.nodes.now) c.args.measure.now))
    c.in_ok-append.ensures (rw c.as_slice.ensures at fields) e)
    c.append-2.ensures
