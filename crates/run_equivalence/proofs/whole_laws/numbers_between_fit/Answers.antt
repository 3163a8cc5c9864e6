use Rattle.run_equivalence.proofs.IntegerRowSteps.{numbers_between_fit, steps_within_room, cross_products_fit}
use Rattle.run_equivalence.proofs.whole_laws.numbers_between_fit.Goals as goal

pub returns-clause-lines : goal.returns-clause-lines
returns-clause-lines c = numbers_between_fit

pub returns-clause-cross_products : goal.returns-clause-cross_products
returns-clause-cross_products c = cross_products_fit

pub returns-clause-room : goal.returns-clause-room
returns-clause-room c = steps_within_room
