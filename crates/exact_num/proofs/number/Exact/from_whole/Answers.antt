use Rattle.std.proofs.Common.{to_z-of_z, refl}
use Rattle.exact_num.specs.Fits.{whole_of}
use Rattle.exact_num.proofs.Answered.{some_answers, none_answers}
use Rattle.exact_num.proofs.number.Exact.from_whole.Goals as goal

pub returns-in-Some : goal.returns-in-Some
unfolding whole_of
returns-in-Some g c = some_answers _ _ _ _ (rw (to_z-of_z c.ranges.v) at c.in-Some.ensures)

pub returns-in-None : goal.returns-in-None
unfolding whole_of
returns-in-None g c = none_answers _ _ _ _ (rw (to_z-of_z c.ranges.v) refl) (rw (to_z-of_z c.ranges.v) at c.in-None.ensures)
