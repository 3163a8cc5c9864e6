-- The match computes on the worked batches.
use Rattle.std.proofs.Common.{refl}
use Rattle.form.specs.FormOf.{form_of}
use Rattle.form.specs.BundleOf.{bundle_one, bundle_made}
use Rattle.form.specs.Payoff.{bundle_of}
use Rattle.bundle_match.specs.Worked.{BatchesByHand}

pub batches_by_hand : BatchesByHand
unfolding form_of bundle_of bundle_one bundle_made
batches_by_hand = record {
  one_option_matched = refl;
  one_option_earns = refl;
  two_options_matched = refl;
  equal_prices_stay = refl;
  number_decides = refl;
  spreads_meet = refl;
  order_of_legs_decides = refl;
  price_decides = refl;
}
