use Rattle.std.proofs.Common.{rules}
use Rattle.reply_print.specs.NumberTexts.{point_numbers}
use Rattle.reply_print.proofs.cleared_numbers.are_points.Goals as goal

pub returns : goal.returns
returns c = c.is_list.ensures point_numbers (search rules)
