use Rattle.form.proofs.Entries.{IsWrittenTo}
use Rattle.form.proofs.states.State.from_entries.Given as goal

abbrev pub invariant-loop-i : goal.invariant-loop-i
invariant-loop-i l = IsWrittenTo l.entries l.nine l.i
