use Rattle.std.proofs.Common.{rules, FitsSigned, codes, ◌∙◌}
use Rattle.std.proofs.lemmas.Int.{to_z-of_z}
use Rattle.std.proofs.lemmas.Result.{on_ok_weaker}
use mir.Syntax.{w16, w64}
use Rattle.reply_print.specs.BatchPieces.{form_piece, leg_piece}
use Rattle.reply_print.specs.Piece.{no_fields, field}
use Rattle.reply_print.proofs.Behind.{closed, fields_of}
use Rattle.reply_print.proofs.printed_orders.LegPrinted.print.Goals as goal

pub returns : goal.returns
returns c =
    let wide : FitsSigned w64 c.from.result = search rules in
    let short : FitsSigned w16 c.args.self.now.count = search rules in
    let form = field (codes "form") (form_piece c.args.self.now.form) no_fields in
    let fields = c.in_ok-add_field-2.ensures no_fields ∙ c.in_ok-add_field.ensures form in
    on_ok_weaker c.append-2.result
    (λ e. closed c.args.line.now.items c.append.new.line.items c.add_field-2.new.line.items c.append-2.new.line.items (fields_of (leg_piece c.args.self.now))
    c.in_ok-append.ensures
    (rw (to_z-of_z w64 c.from.result wide, c.from.ensures, to_z-of_z w16 c.args.self.now.count short) at fields) e)
    c.append-2.ensures
