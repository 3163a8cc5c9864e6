use Rattle.std.proofs.Common.{refl}
use Rattle.std.proofs.lemmas.Result.{on_ok_weaker}
use Rattle.reply_print.specs.BatchPieces.{natural}
use Rattle.reply_print.proofs.Behind.{next_item, all_items}
use Rattle.proposal_text.proofs.cover_text.add_classes.Goals as goal

pub loop-class-preserved : goal.loop-class-preserved
loop-class-preserved c =
    let l = c.loop-class in
    next_item natural c.args.classes.now l.class-index _ l.line.items c.add_class.new.line.items _ l.later c.loop-class-test.true l.invariant c.in_ok-add_class.ensures

pub returns : goal.returns
returns c =
    let l = c.loop-class in
    on_ok_weaker c.append-2.result
    (λ e. all_items natural c.args.classes.now l.class-index c.args.line.now.items _ l.line.items c.append-2.new.line.items l.later c.loop-class-test.false refl l.invariant e)
    c.append-2.ensures
