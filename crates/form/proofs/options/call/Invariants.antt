use Rattle.std.proofs.Common.{neg_ℤ}
use Rattle.form.proofs.Entries.{IsFilledTo}
use Rattle.form.proofs.options.call.Given as goal

abbrev pub invariant-loop-i : goal.invariant-loop-i
invariant-loop-i l = IsFilledTo (neg_ℤ l.strike) l.weights l.entries l.i
