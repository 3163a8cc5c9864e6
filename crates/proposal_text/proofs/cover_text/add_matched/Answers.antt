use Rattle.std.proofs.Common.{codes, ◌∙◌}
use Rattle.std.proofs.lemmas.Result.{on_ok_weaker}
use Rattle.reply_print.specs.OutcomePieces.{point_piece}
use Rattle.reply_print.specs.BatchPieces.{each}
use Rattle.reply_print.specs.Piece.{words, no_fields, field}
use Rattle.reply_print.proofs.Behind.{closed, fields_of}
use Rattle.proposal_text.specs.CoverPieces.{proof_with}
use Rattle.proposal_text.proofs.cover_text.add_matched.Goals as goal

pub returns : goal.returns
returns c =
    let points = field (codes "measure") (each point_piece c.as_slice.result.now) no_fields in
    let fields = c.in_ok-add_items.ensures no_fields ∙ c.in_ok-add_words.ensures points in
    on_ok_weaker c.append-2.result
    (λ e. closed c.args.line.now.items c.append.new.line.items c.add_items.new.line.items c.append-2.new.line.items (fields_of (proof_with (words (codes "match")) c.args.measure.now))
    c.in_ok-append.ensures (rw c.as_slice.ensures at fields) e)
    c.append-2.ensures
