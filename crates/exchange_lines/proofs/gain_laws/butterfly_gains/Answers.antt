use Rattle.std.proofs.Common.{refl}
use Rattle.exact_num.specs.Fits.{operations}
use Rattle.form.specs.BundleOf.{bundle_one}
use Rattle.form.specs.FormOf.{form_of}
use Rattle.frac.specs.ValueOf.{value_of}
use Rattle.exchange_core.specs.RunSteps.{table_run, insert, in_rising_price, master_steps, reading_steps, solve_steps, joint_run, line_run, optimal_outcome, outcome_of}
use Rattle.exchange_lines.proofs.gain_laws.butterfly_gains.Goals as goal

pub returns : goal.returns
unfolding outcome_of optimal_outcome joint_run line_run insert in_rising_price solve_steps master_steps reading_steps table_run operations form_of bundle_one value_of
returns c = record { surplus = refl; premiums = refl; payoffs = refl; gain = refl; entered = refl }
