-- The stops of a run, as those of a call.
use Rattle.simplex.specs.declared.stop.RunStop.{RunStop}
use Rattle.simplex.specs.declared.stop.RunStop.TheVariants.{Wide, Budget}
use Rattle.simplex.specs.declared.stop.SolveStop.{SolveStop}
use Rattle.simplex.specs.declared.stop.SolveStop.TheVariants.{Wide as WideStop, Budget as BudgetStop}

abbrev pub stop_of : RunStop → SolveStop
stop_of (Wide unit wide) = WideStop unit wide
stop_of Budget = BudgetStop
