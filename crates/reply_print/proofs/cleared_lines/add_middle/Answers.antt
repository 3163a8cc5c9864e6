use Rattle.std.proofs.Common.{◌++◌, true, codes, ap, ◌∙◌}
use Rattle.std.proofs.lemmas.Result.{on_ok_weaker}
use Rattle.reply_print.specs.BatchPieces.{natural, fraction, are_single}
use Rattle.reply_print.specs.Piece.{words, field, fields_text}
use Rattle.reply_print.specs.ReplyPieces.{cleared_end}
use Rattle.reply_print.proofs.cleared_lines.add_middle.Goals as goal

pub returns : goal.returns
returns c =
    let outcome = c.args.outcome.now in
    let end = cleared_end c.args.batch.now outcome outcome.mark (are_single c.args.batch.now.orders) in
    let market = field (codes "market") (natural c.from-2.result) end in
    let mark = field (codes "mark") (words c.mark.result.now) market in
    let line = field (codes "line") (natural c.from.result) mark in
    let liability = field (codes "liability") (fraction outcome.claim.liability) line in
    let fields =
    c.in_ok-add_number-2.ensures end ∙ c.in_ok-add_words.ensures market ∙ c.in_ok-add_number.ensures mark ∙ c.in_ok-add_field.ensures line
    ∙ c.in_ok-add_items.ensures liability in
    let shown = rw (c.from.ensures, c.from-2.ensures, c.mark.ensures, c.as_slice.ensures) at fields in
    let version = c.is_version_1.ensures ∙ ap are_single c.as_slice-2.ensures in
    let ended = ap (λ single. c.add_number-2.new.line.items ++ fields_text true (cleared_end c.args.batch.now outcome outcome.mark single)) version in
    on_ok_weaker c.add_end.result (λ e. e ∙ ended ∙ shown) c.add_end.ensures
