-- The worked batches, computed from the definitions.
use Rattle.std.proofs.Common.{refl}
use Rattle.exact_num.specs.Fits.{operations}
use Rattle.simplex_run.specs.Run.{table_run}
use Rattle.form.specs.FormOf.{form_of}
use Rattle.form.specs.BundleOf.{bundle_one, bundle_made}
use Rattle.form.specs.Payoff.{bundle_of}
use Rattle.master_program.specs.Master.{master_steps}
use Rattle.master_program.specs.Reading.{reading_steps}
use Rattle.master_program.specs.Solve.{solve_steps}
use Rattle.master_program.specs.NodeSteps.{node_program_steps}
use Rattle.master_program.specs.Search.{search_steps}
use Rattle.master_program.specs.Rounds.{rounds_steps}
use Rattle.master_program.specs.WorkedRounds.{CoveredSum, TwoRounds, CoveredBundle, OtherBatches, LegsOfBundles}

pub sum_is_covered : CoveredSum
unfolding rounds_steps search_steps node_program_steps solve_steps master_steps reading_steps operations form_of bundle_one bundle_of table_run
sum_is_covered = record { clears = refl; just_enough = refl; one_short = refl; in_the_master = refl; at_the_first_node = refl; at_the_plus_side = refl }

pub second_round_clears : TwoRounds
unfolding rounds_steps search_steps node_program_steps solve_steps master_steps reading_steps operations form_of bundle_one bundle_of table_run
second_round_clears = refl

pub bundle_is_covered : CoveredBundle
unfolding rounds_steps search_steps node_program_steps solve_steps master_steps reading_steps operations form_of bundle_one bundle_made bundle_of table_run
bundle_is_covered = refl

pub other_batches_end : OtherBatches
unfolding rounds_steps search_steps node_program_steps solve_steps master_steps reading_steps operations form_of bundle_one bundle_of table_run
other_batches_end = record { deeper_tree = refl; three_rounds = refl; below_zero = refl; too_wide = refl }

pub legs_of_bundles_are_built : LegsOfBundles
unfolding node_program_steps operations
legs_of_bundles_are_built = record { unsigned = refl; plus = refl; minus_sign = refl }
