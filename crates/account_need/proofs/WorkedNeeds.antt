-- The worked needs and sums, computed from the definitions.
use Rattle.std.proofs.Common.{refl}
use Rattle.exact_num.specs.Fits.{operations}
use Rattle.frac.specs.ValueOf.{value_of}
use Rattle.form.specs.FormOf.{form_of}
use Rattle.form.specs.BundleOf.{bundle_one, bundle_made}
use Rattle.account_need.specs.Worked.{NeedsByHand, SumsByHand}

pub needs_by_hand : NeedsByHand
unfolding operations value_of form_of bundle_one bundle_made
needs_by_hand = record { nothing = refl; put_offered = refl; put_sold = refl; call_offered = refl; spread_offered = refl; held_offered = refl; bid = refl }

pub sums_by_hand : SumsByHand
unfolding operations value_of form_of bundle_one bundle_made
sums_by_hand = record { sold = refl; bought = refl; once = refl; none = refl }
