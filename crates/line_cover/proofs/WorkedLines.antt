-- Worked batches, computed from the definitions.
use Rattle.std.proofs.Common.{refl}
use Rattle.exact_num.specs.Fits.{operations}
use Rattle.form.specs.FormOf.{form_of}
use Rattle.form.specs.BundleOf.{bundle_one, bundle_made}
use Rattle.form.specs.Payoff.{bundle_of}
use Rattle.form.specs.Steps.{payoff_of, bundle_payoff_of}
use Rattle.line_cover.specs.Breakpoints.{insert, in_rising_price}
use Rattle.line_cover.specs.Worked.{LinesByHand}

pub lines_by_hand : LinesByHand
unfolding operations form_of bundle_one bundle_made bundle_of payoff_of bundle_payoff_of insert in_rising_price
lines_by_hand = record {
  three_calls_bend = refl;
  shared_break_bends = refl;
  spread_bends = refl;
  spread_holds = refl;
  both_bought_owe_two = refl;
  both_bought_fail = refl;
}
