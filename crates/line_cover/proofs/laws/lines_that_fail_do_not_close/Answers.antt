use Rattle.line_cover.proofs.Sound.{lines_that_fail_do_not_close}
use Rattle.line_cover.proofs.laws.lines_that_fail_do_not_close.Goals as goal

pub returns : goal.returns
returns c = lines_that_fail_do_not_close
