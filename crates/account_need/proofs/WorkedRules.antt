-- The worked needs of accounts, computed from the definitions.
use Rattle.std.proofs.Common.{refl}
use Rattle.exact_num.specs.Fits.{operations}
use Rattle.exact_num.specs.Fraction.{reduced}
use Rattle.frac.specs.ValueOf.{value_of}
use Rattle.simplex_run.specs.Run.{table_run}
use Rattle.form.specs.FormOf.{form_of}
use Rattle.form.specs.BundleOf.{bundle_one, bundle_made}
use Rattle.form.specs.Payoff.{bundle_of}
use Rattle.form.specs.Steps.{payoff_of, bundle_payoff_of}
use Rattle.master_program.specs.Master.{master_steps}
use Rattle.master_program.specs.NodeSteps.{node_program_steps}
use Rattle.master_program.specs.Search.{search_steps}
use Rattle.portfolio_margin.specs.Run.{margin_steps}
use Rattle.account_need.specs.WorkedAccounts.{BasketsByHand, RulesByHand}

pub rules_by_hand : RulesByHand
unfolding operations value_of form_of bundle_one bundle_made
rules_by_hand = record {
  nothing = refl;
  one_short = refl;
  enough = refl;
  two_out = refl;
  one_out = refl;
  call_offered = refl;
  spread_offered = refl;
  closing = refl;
  closing_short = refl;
  together = refl;
  together_short = refl;
}

pub baskets_by_hand : BasketsByHand
unfolding margin_steps search_steps node_program_steps master_steps operations reduced value_of form_of bundle_one bundle_made bundle_of payoff_of bundle_payoff_of table_run
baskets_by_hand = record { basket_held = refl; basket_alone = refl; two_baskets = refl }
