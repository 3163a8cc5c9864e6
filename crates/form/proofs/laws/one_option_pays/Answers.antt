use Rattle.form.proofs.OneOption.{one_option_pays}
use Rattle.form.proofs.laws.one_option_pays.Goals as goal

pub returns : goal.returns
returns c = one_option_pays
