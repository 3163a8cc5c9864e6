use Rattle.std.proofs.Common.{◌++◌, refl, ap, ◌∙◌}
use Rattle.std.proofs.lemmas.Result.{on_ok_weaker}
use Rattle.cell_cover.specs.declared.cover.Multiplier.{Multiplier}
use Rattle.reply_print.specs.BatchPieces.{natural, fraction}
use Rattle.reply_print.specs.Piece.{piece, pieces_text}
use Rattle.proposal_text.proofs.CoverLists.{next_multiplier, all_multipliers}
use Rattle.proposal_text.proofs.cover_text.add_multipliers.Goals as goal

pub loop-multiplier-preserved : goal.loop-multiplier-preserved
loop-multiplier-preserved c =
    let l = c.loop-multiplier in
    next_multiplier c.args.multipliers.now l.multiplier-index c.multiplier-item.result l.line.items c.add_multiplier.new.line.items _ l.later c.loop-multiplier-test.true l.invariant
    (λ ps. c.in_ok-add_multiplier.ensures ps ∙ ap (λ (m : Multiplier). l.line.items ++ pieces_text l.later (piece (natural m.class) (piece (fraction m.by) ps))) c.multiplier-item.is)

pub returns : goal.returns
returns c =
    let l = c.loop-multiplier in
    on_ok_weaker c.append-2.result
    (λ e. all_multipliers c.args.multipliers.now l.multiplier-index c.args.line.now.items _ l.line.items c.append-2.new.line.items l.later c.loop-multiplier-test.false refl l.invariant e)
    c.append-2.ensures
