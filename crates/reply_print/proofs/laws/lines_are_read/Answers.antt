use Rattle.reply_print.proofs.LineLaws.{line_reads}
use Rattle.reply_print.proofs.laws.lines_are_read.Goals as goal

pub returns : goal.returns
returns c = line_reads
