use Rattle.std.proofs.Common.{◌≡◌, drop}
use Rattle.form.specs.Payoff.{option_of}
use Rattle.form.specs.Vector.{weights_of}
use Rattle.cell_cover.specs.Classes.{begins_below}
use Rattle.cell_cover.proofs.factors.is_turned.Given as goal

abbrev pub invariant-loop-i : goal.invariant-loop-i
invariant-loop-i l = begins_below (weights_of (option_of l.form)) ≡ begins_below (drop l.i (option_of l.form))
