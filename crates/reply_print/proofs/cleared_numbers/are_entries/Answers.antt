use Rattle.std.proofs.Common.{rules}
use Rattle.reply_print.specs.NumberTexts.{is_whole_number}
use Rattle.reply_print.proofs.cleared_numbers.are_entries.Goals as goal

pub returns : goal.returns
returns c = c.is_list.ensures is_whole_number (search rules)
