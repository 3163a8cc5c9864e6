use Rattle.std.proofs.Common.{true, codes, ◌∙◌}
use Rattle.std.proofs.lemmas.Result.{on_ok_weaker}
use Rattle.reply_print.specs.BatchPieces.{fraction}
use Rattle.reply_print.specs.Piece.{field}
use Rattle.proposal_text.specs.CoverPieces.{proof_piece}
use Rattle.proposal_text.specs.Pieces.{bounded_middle, bounded_piece}
use Rattle.reply_print.proofs.Behind.{closed, field_added, fields_of}
use Rattle.proposal_text.proofs.bounded_lines.add_bounded.Goals as goal

pub returns : goal.returns
returns c =
    let outcome = c.args.outcome.now in
    let middle = bounded_middle c.args.at c.args.market c.args.batch.now outcome in
    let proof = proof_piece outcome.proposal.cover outcome.proposal.measure in
    let certificate = field (codes "certificate") proof middle in
    let bound = field (codes "bound") (fraction outcome.bound) certificate in
    let added = field_added c.add_field.new.line.items c.add_key.new.line.items c.add_proof.new.line.items true (codes "certificate") proof c.in_ok-add_key.ensures c.in_ok-add_proof.ensures in
    let fields =
    c.in_ok-add_middle.ensures ∙ added middle ∙ c.in_ok-add_field.ensures certificate ∙ c.in_ok-add_number.ensures bound in
    on_ok_weaker c.append-2.result
    (λ e. closed c.args.line.now.items c.append.new.line.items c.add_middle.new.line.items c.append-2.new.line.items (fields_of (bounded_piece c.args.at c.args.number c.args.market c.args.batch.now outcome))
    c.in_ok-append.ensures
    (rw (c.from.ensures) at fields) e)
    c.append-2.ensures
