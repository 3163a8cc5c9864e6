use Rattle.reply_text.proofs.Collect.{Collects}
use Rattle.reply_text.proofs.taking.items_from.Given as goal

abbrev pub invariant-loop-item : goal.invariant-loop-item
invariant-loop-item g l = Collects (g.R.ItemReader.found l.reader) l.items l.item-index l.taken.items
