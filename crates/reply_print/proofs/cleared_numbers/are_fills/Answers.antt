use Rattle.std.proofs.Common.{rules}
use Rattle.reply_print.specs.NumberTexts.{is_fraction}
use Rattle.reply_print.proofs.cleared_numbers.are_fills.Goals as goal

pub returns : goal.returns
returns c = c.is_list.ensures is_fraction (search rules)
