use Rattle.std.proofs.Common.{neg_ℤ, map}
use Rattle.form.proofs.Entries.{IsFilledTo}
use Rattle.form.proofs.options.put.Given as goal

abbrev pub invariant-loop-i : goal.invariant-loop-i
invariant-loop-i l = IsFilledTo l.strike (map neg_ℤ l.weights) l.entries l.i
