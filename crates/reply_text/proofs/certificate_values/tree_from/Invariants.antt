use Rattle.reply_text.proofs.CollectNodes.{CollectsNodes}
use Rattle.reply_text.proofs.certificate_values.tree_from.Given as goal

abbrev pub invariant-loop-item : goal.invariant-loop-item
invariant-loop-item l = CollectsNodes l.items l.item-index l.nodes.items l.multipliers.items
