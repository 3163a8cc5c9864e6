-- The worked verdicts, computed from the definitions.
use Rattle.std.proofs.Common.{refl}
use Rattle.exact_num.specs.Fits.{operations}
use Rattle.frac.specs.ValueOf.{value_of}
use Rattle.form.specs.FormOf.{form_of}
use Rattle.form.specs.StateOf.{state_of}
use Rattle.form.specs.BundleOf.{bundle_one, bundle_made}
use Rattle.form.specs.Payoff.{bundle_of}
use Rattle.form.specs.Steps.{payoff_of, bundle_payoff_of}
use Rattle.cert_check.specs.Worked.{VerdictsAsWorked}

pub verdicts_as_worked : VerdictsAsWorked
unfolding operations value_of form_of state_of payoff_of bundle_one bundle_made bundle_of bundle_payoff_of
verdicts_as_worked =
    record {
      sound = refl;
      last_fill_gone = refl;
      above_its_quantity = refl;
      greater_surplus = refl;
      slope_not_covered = refl;
      too_little_mass = refl;
      smaller_weight_on_the_ray = refl;
      after_the_budget = refl;
      spread_covered = refl;
      spread_of_another_count = refl;
      spread_after_the_budget = refl;
    }
