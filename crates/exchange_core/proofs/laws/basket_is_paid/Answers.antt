use Rattle.std.proofs.Common.{refl}
use Rattle.exact_num.specs.Fits.{operations}
use Rattle.form.specs.BundleOf.{bundle_one}
use Rattle.form.specs.FormOf.{form_of}
use Rattle.form.specs.Payoff.{bundle_of}
use Rattle.frac.specs.ValueOf.{value_of}
use Rattle.clearing.specs.RunSteps.{fallback, optimal_outcome, outcome_of, table_run, master_steps, reading_steps, solve_steps, node_program_steps, search_steps, rounds_steps, run_steps, joint_run}
use Rattle.exchange_core.proofs.laws.basket_is_paid.Goals as goal

pub returns : goal.returns
unfolding outcome_of optimal_outcome fallback joint_run run_steps rounds_steps search_steps node_program_steps solve_steps master_steps reading_steps table_run operations form_of bundle_one bundle_of value_of
returns c = record { cleared = refl; one_short = refl }
