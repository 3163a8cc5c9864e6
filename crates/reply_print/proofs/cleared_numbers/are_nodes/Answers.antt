use Rattle.std.proofs.Common.{rules}
use Rattle.reply_print.specs.NumberTexts.{node_numbers}
use Rattle.reply_print.proofs.cleared_numbers.are_nodes.Goals as goal

pub returns : goal.returns
returns c = c.is_list.ensures node_numbers (search rules)
