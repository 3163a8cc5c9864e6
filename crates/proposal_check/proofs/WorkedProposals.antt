-- The worked proposals, computed from the definitions.
use Rattle.std.proofs.Common.{refl}
use Rattle.exact_num.specs.Fits.{operations}
use Rattle.frac.specs.ValueOf.{value_of}
use Rattle.form.specs.FormOf.{form_of}
use Rattle.form.specs.StateOf.{state_of}
use Rattle.form.specs.BundleOf.{bundle_one, bundle_made}
use Rattle.form.specs.Payoff.{bundle_of}
use Rattle.form.specs.Steps.{payoff_of, bundle_payoff_of}
use Rattle.proposal_check.specs.Worked.{CellsAsProposed, MatchesAsWorked, ProposalsAsWorked}

pub proposals_as_worked : ProposalsAsWorked
unfolding operations value_of form_of state_of payoff_of bundle_one bundle_made bundle_of bundle_payoff_of
proposals_as_worked =
    record {
      sound = refl;
      price_zero_alone = refl;
      greatest = refl;
      above_its_quantity = refl;
      greater_surplus = refl;
      too_little_mass = refl;
      bound_told = refl;
      other_bound_told = refl;
    }

pub matches_as_worked : MatchesAsWorked
unfolding operations value_of form_of state_of payoff_of bundle_one bundle_made bundle_of bundle_payoff_of
matches_as_worked =
    record {
      sound = refl;
      on_its_line = refl;
      more_bought_than_sold = refl;
      liability_of_a_match = refl;
      liability_of_a_line = refl;
      too_little_mass = refl;
      cover_before_the_measure = refl;
      butterfly_is_no_match = refl;
    }

pub cells_as_proposed : CellsAsProposed
unfolding operations value_of form_of state_of payoff_of bundle_one bundle_made bundle_of bundle_payoff_of
cells_as_proposed =
    record {
      closed = refl;
      with_full = refl;
      above_its_kink = refl;
      without_the_split = refl;
      node_left_over = refl;
      node_missing = refl;
      no_such_class = refl;
      too_much_mass = refl;
      cover_before_the_measure = refl;
    }
