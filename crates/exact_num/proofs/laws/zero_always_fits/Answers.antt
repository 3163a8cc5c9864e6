use Rattle.exact_num.proofs.Exactness.{zero_always_fits}
use Rattle.exact_num.proofs.laws.zero_always_fits.Goals as goal

pub returns : goal.returns
returns c = zero_always_fits
