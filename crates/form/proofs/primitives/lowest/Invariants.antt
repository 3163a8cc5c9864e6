use Rattle.std.proofs.Common.{map}
use Rattle.form.proofs.Divisors.{quotient}
use Rattle.form.proofs.Entries.{IsWrittenTo}
use Rattle.form.proofs.primitives.lowest.Given as goal

abbrev pub invariant-loop-i : goal.invariant-loop-i
invariant-loop-i l = IsWrittenTo (map (quotient l.divisor) l.state.entries) l.entries l.i
