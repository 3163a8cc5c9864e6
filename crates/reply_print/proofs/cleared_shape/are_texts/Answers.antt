use Rattle.std.proofs.Common.{rules}
use Rattle.reply_print.specs.Look.{is_text}
use Rattle.reply_print.proofs.cleared_shape.are_texts.Goals as goal

pub returns : goal.returns
returns c = c.is_list.ensures is_text (search rules)
