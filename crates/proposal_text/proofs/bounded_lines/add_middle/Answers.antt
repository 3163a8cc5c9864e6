use Rattle.std.proofs.Common.{codes, ◌∙◌}
use Rattle.std.proofs.lemmas.Result.{on_ok_weaker}
use Rattle.reply_print.specs.BatchPieces.{natural, fraction}
use Rattle.reply_print.specs.Piece.{words, field}
use Rattle.proposal_text.specs.Pieces.{bounded_end}
use Rattle.proposal_text.proofs.bounded_lines.add_middle.Goals as goal

pub returns : goal.returns
returns c =
    let outcome = c.args.outcome.now in
    let end = bounded_end c.args.batch.now outcome in
    let market = field (codes "market") (natural c.from-2.result) end in
    let mark = field (codes "mark") (words (codes "bounded")) market in
    let line = field (codes "line") (natural c.from.result) mark in
    let liability = field (codes "liability") (fraction outcome.proposal.claim.liability) line in
    let fields =
    c.in_ok-add_number-2.ensures end ∙ c.in_ok-add_words.ensures market ∙ c.in_ok-add_number.ensures mark ∙ c.in_ok-add_field.ensures line
    ∙ c.in_ok-add_items.ensures liability in
    let shown = rw (c.from.ensures, c.from-2.ensures, c.as_slice.ensures) at fields in
    on_ok_weaker c.add_end.result (λ e. e ∙ shown) c.add_end.ensures
