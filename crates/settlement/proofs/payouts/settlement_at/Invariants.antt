use Rattle.std.proofs.Common.{map, pos}
use Rattle.form.proofs.Entries.{IsFilledTo}
use Rattle.settlement.proofs.payouts.settlement_at.Given as goal

abbrev pub invariant-loop-i : goal.invariant-loop-i
invariant-loop-i l = IsFilledTo (pos 1) (map pos l.prices) l.entries l.i
