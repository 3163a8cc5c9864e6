-- The worked margins and their need, computed from the definitions.
use Rattle.std.proofs.Common.{refl}
use Rattle.exact_num.specs.Fits.{operations}
use Rattle.frac.specs.ValueOf.{value_of}
use Rattle.simplex_run.specs.Run.{table_run}
use Rattle.form.specs.FormOf.{form_of}
use Rattle.form.specs.BundleOf.{bundle_one, bundle_made}
use Rattle.form.specs.Payoff.{bundle_of}
use Rattle.form.specs.Steps.{payoff_of, bundle_payoff_of}
use Rattle.form.specs.StateOf.{state_of}
use Rattle.master_program.specs.Master.{master_steps}
use Rattle.master_program.specs.NodeSteps.{node_program_steps}
use Rattle.master_program.specs.Search.{search_steps}
use Rattle.portfolio_margin.specs.Run.{margin_steps}
use Rattle.portfolio_margin.specs.Worked.{MarginsByHand, NeedsByHand}

pub margins_by_hand : MarginsByHand
unfolding margin_steps search_steps node_program_steps master_steps operations value_of form_of bundle_one bundle_made bundle_of payoff_of bundle_payoff_of table_run
margins_by_hand = record { nothing = refl; put_sold = refl; put_one_short = refl; call_sold = refl; call_one_short = refl; spread_helps = refl; short_sold = refl }

pub needs_by_hand : NeedsByHand
unfolding operations value_of state_of
needs_by_hand = record { two = refl; largest = refl; too_large = refl; word_first = refl }
