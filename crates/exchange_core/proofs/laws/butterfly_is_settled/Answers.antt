use Rattle.std.proofs.Common.{refl}
use Rattle.exact_num.specs.Fits.{operations}
use Rattle.form.specs.BundleOf.{bundle_one}
use Rattle.form.specs.FormOf.{form_of}
use Rattle.frac.specs.ValueOf.{value_of}
use Rattle.clearing.specs.RunSteps.{optimal_outcome, outcome_of, table_run, insert, in_rising_price, master_steps, reading_steps, solve_steps, joint_run, line_run}
use Rattle.exchange_core.proofs.laws.butterfly_is_settled.Goals as goal

pub returns : goal.returns
unfolding outcome_of optimal_outcome joint_run line_run insert in_rising_price solve_steps master_steps reading_steps table_run operations form_of bundle_one value_of
returns c = record {
  reply = refl;
  balances = refl;
  positions = refl;
  settle_again = refl;
  clear_again = refl;
  bid_again = refl;
  no_market = refl;
  two_prices = refl;
  settled_before_count = refl;
}
