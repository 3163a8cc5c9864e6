use Rattle.exact_num.proofs.Exactness.{one_always_fits}
use Rattle.exact_num.proofs.laws.one_always_fits.Goals as goal

pub returns : goal.returns
returns c = one_always_fits
