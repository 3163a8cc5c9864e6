use Rattle.std.proofs.Common.{false, codes, ◌∙◌}
use Rattle.std.proofs.lemmas.Result.{on_ok_weaker}
use Rattle.reply_print.specs.BatchPieces.{natural, fraction, each}
use Rattle.reply_print.specs.Piece.{no_fields, field}
use Rattle.proposal_text.specs.CoverPieces.{proof_piece}
use Rattle.proposal_text.specs.Pieces.{submission_piece}
use Rattle.reply_print.proofs.Behind.{closed, field_added, fields_of}
use Rattle.proposal_text.proofs.submission_text.add_submission.Goals as goal

pub returns : goal.returns
returns c =
    let p = c.args.submission.now.proposal in
    let proof = proof_piece p.cover p.measure in
    let surplus = field (codes "surplus") (fraction p.claim.surplus) no_fields in
    let orders = field (codes "orders") (each natural c.as_slice-2.result.now) surplus in
    let liability = field (codes "liability") (fraction p.claim.liability) orders in
    let fills = field (codes "fills") (each fraction c.as_slice.result.now) liability in
    let added = field_added c.append.new.line.items c.add_key.new.line.items c.add_proof.new.line.items false (codes "certificate") proof c.in_ok-add_key.ensures c.in_ok-add_proof.ensures in
    let fields =
    c.in_ok-add_field-2.ensures no_fields ∙ c.in_ok-add_items-2.ensures surplus ∙ c.in_ok-add_field.ensures orders ∙ c.in_ok-add_items.ensures liability ∙ added fills in
    on_ok_weaker c.append-2.result
    (λ e. closed c.args.line.now.items c.append.new.line.items c.add_field-2.new.line.items c.append-2.new.line.items (fields_of (submission_piece c.args.submission.now))
    c.in_ok-append.ensures
    (rw (c.as_slice.ensures, c.as_slice-2.ensures) at fields) e)
    c.append-2.ensures
