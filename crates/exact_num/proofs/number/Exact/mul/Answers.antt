use Rattle.exact_num.specs.Fits.{mul_of}
use Rattle.exact_num.proofs.Answered.{some_answers, none_answers}
use Rattle.exact_num.proofs.number.Exact.mul.Goals as goal

pub returns-in-Some : goal.returns-in-Some
unfolding mul_of
returns-in-Some g c = some_answers _ _ _ _ c.in-Some.ensures

pub returns-in-None : goal.returns-in-None
unfolding mul_of
returns-in-None g c = none_answers _ _ _ _ c.misfit.ensures c.in-None.ensures
