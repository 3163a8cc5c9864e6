use Rattle.std.proofs.Common.{rules}
use Rattle.reply_print.specs.NumberTexts.{multiplier_numbers}
use Rattle.reply_print.proofs.cleared_numbers.are_multipliers.Goals as goal

pub returns : goal.returns
returns c = c.is_list.ensures multiplier_numbers (search rules)
