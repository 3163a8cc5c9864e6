use Rattle.std.proofs.Common.{rules}
use Rattle.reply_print.specs.Look.{is_whole}
use Rattle.reply_print.proofs.cleared_shape.is_form.Goals as goal

pub returns : goal.returns
returns c = c.is_list_of.ensures is_whole (search rules)
