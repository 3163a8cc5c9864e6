use Rattle.std.proofs.Common.{codes, ◌∙◌}
use Rattle.std.proofs.lemmas.Result.{on_ok_weaker}
use Rattle.cell_cover.specs.declared.cover.Node.TheVariants as cell
use Rattle.reply_print.specs.Piece.{no_fields, field}
use Rattle.reply_print.proofs.Behind.{closed, field_added, fields_of}
use Rattle.proposal_text.specs.CoverPieces.{cell_piece, is_some_class, multipliers_piece}
use Rattle.proposal_text.proofs.cover_text.add_leaf.Goals as goal

pub returns : goal.returns
returns c =
    let ms = multipliers_piece c.args.multipliers.now in
    let leaf = field_added c.add_full.new.line.items c.add_key.new.line.items c.add_multipliers.new.line.items (is_some_class c.args.full.now) (codes "leaf") ms
    (rw c.is_some_class.ensures at c.in_ok-add_key.ensures) c.in_ok-add_multipliers.ensures in
    let fields = leaf no_fields ∙ c.in_ok-add_full.ensures (field (codes "leaf") ms no_fields) in
    on_ok_weaker c.append-2.result
    (λ e. closed c.args.line.now.items c.append.new.line.items c.add_multipliers.new.line.items c.append-2.new.line.items (fields_of (cell_piece (cell.Leaf c.args.full.now c.args.multipliers.now)))
    c.in_ok-append.ensures fields e)
    c.append-2.ensures
