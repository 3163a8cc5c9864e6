use Rattle.std.proofs.Common.{rules}
use Rattle.reply_print.specs.Look.{is_whole}
use Rattle.proposal_text.proofs.cells_shape.are_wholes.Goals as goal

pub returns : goal.returns
returns c = c.is_list.ensures is_whole (search rules)
