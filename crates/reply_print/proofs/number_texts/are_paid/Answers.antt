use Rattle.std.proofs.Common.{rules}
use Rattle.reply_print.specs.NumberTexts.{paid_numbers}
use Rattle.reply_print.proofs.number_texts.are_paid.Goals as goal

pub returns : goal.returns
returns c = c.is_list.ensures paid_numbers (search rules)
