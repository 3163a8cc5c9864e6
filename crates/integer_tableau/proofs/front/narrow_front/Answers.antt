use Rattle.run_equivalence.specs.IntegerRows.{widest}
use Rattle.integer_tableau.proofs.Fronts.{front_fits}
use Rattle.integer_tableau.proofs.front.narrow_front.Goals as goal

pub narrow-requires-clause-short : goal.narrow-requires-clause-short
narrow-requires-clause-short c = front_fits widest c.args.width c.args.wide.now c.requires.line
