use Rattle.std.proofs.Common.{true, codes, ◌∙◌}
use Rattle.std.proofs.lemmas.Result.{on_ok_weaker}
use Rattle.cell_cover.specs.declared.cover.Node.TheVariants as cell
use Rattle.reply_print.specs.Piece.{no_fields, field}
use Rattle.reply_print.proofs.Behind.{closed, field_added, fields_of}
use Rattle.proposal_text.specs.CoverPieces.{cell_piece, multipliers_piece}
use Rattle.proposal_text.proofs.cover_text.add_bound.Goals as goal

pub returns : goal.returns
returns c =
    let less = multipliers_piece c.args.minus.now in
    let more = multipliers_piece c.args.plus.now in
    let plus = field_added c.add_multipliers.new.line.items c.add_key-2.new.line.items c.add_multipliers-2.new.line.items true (codes "plus") more c.in_ok-add_key-2.ensures c.in_ok-add_multipliers-2.ensures in
    let minus = field_added c.add_number.new.line.items c.add_key.new.line.items c.add_multipliers.new.line.items true (codes "minus") less c.in_ok-add_key.ensures c.in_ok-add_multipliers.ensures in
    let last = field (codes "plus") more no_fields in
    let fields = plus no_fields ∙ minus last ∙ c.in_ok-add_number.ensures (field (codes "minus") less last) in
    on_ok_weaker c.append-2.result
    (λ e. closed c.args.line.now.items c.append.new.line.items c.add_multipliers-2.new.line.items c.append-2.new.line.items (fields_of (cell_piece (cell.Bound c.args.class c.args.minus.now c.args.plus.now)))
    c.in_ok-append.ensures (rw c.from.ensures at fields) e)
    c.append-2.ensures
