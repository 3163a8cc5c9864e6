use Rattle.std.proofs.Common.{◌≡◌, drop}
use Rattle.form.specs.Payoff.{option_of}
use Rattle.master_program.specs.Roles.{entries, has_above}
use Rattle.pricing_oracle.proofs.splitting.has_above.Given as goal

-- none of the entries before
abbrev pub invariant-loop-i : goal.invariant-loop-i
invariant-loop-i l = has_above (entries l.n (option_of l.form)) ≡ has_above (drop l.i (entries l.n (option_of l.form)))
