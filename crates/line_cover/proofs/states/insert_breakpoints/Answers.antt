use Rattle.std.proofs.Common.{arith}
use Rattle.std.proofs.lemmas.Grind.{common_steps}
use Rattle.line_cover.proofs.states.insert_breakpoints.Goals as goal

pub loop-leg-preserved : goal.loop-leg-preserved
loop-leg-preserved c = grind (arith, common_steps)
