use Rattle.std.proofs.Common.{false, codes, sym, ◌∙◌}
use Rattle.std.proofs.lemmas.Result.{on_ok_weaker}
use Rattle.reply_print.specs.BatchPieces.{each, natural}
use Rattle.reply_print.proofs.Behind.{field_added}
use Rattle.proposal_text.proofs.CoverLists.{full_added}
use Rattle.proposal_text.proofs.cover_text.add_full.Goals as goal

pub returns : goal.returns
returns c =
    on_ok_weaker c.add_classes.result
    (λ e. full_added c.args.full.now c.args.line.now.items c.add_classes.new.line.items (sym c.is_some_class.ensures ∙ c.if-not-is_some_class.false)
    (field_added c.args.line.now.items c.add_key.new.line.items c.add_classes.new.line.items false (codes "full") (each natural c.args.full.now) c.in_ok-add_key.ensures e))
    c.add_classes.ensures
