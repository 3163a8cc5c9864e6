use Rattle.exact_num.specs.Fraction.{whole}
use Rattle.form.specs.Payoff.{option_of}
use Rattle.cell_cover.specs.Classes.{class_of}
use Rattle.cell_cover.proofs.RowLoops.{MappedTo}
use Rattle.cell_cover.proofs.factors.class_of.Given as goal

abbrev pub invariant-loop-i : goal.invariant-loop-i
invariant-loop-i l = MappedTo whole (class_of (option_of l.form)) l.entries l.i
