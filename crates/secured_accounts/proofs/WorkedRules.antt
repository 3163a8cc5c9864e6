-- The worked rows, computed from the definitions.
use Rattle.std.proofs.Common.{refl}
use Rattle.exact_num.specs.Fits.{operations}
use Rattle.form.specs.BundleOf.{bundle_made, bundle_one}
use Rattle.form.specs.FormOf.{form_of}
use Rattle.frac.specs.ValueOf.{value_of}
use Rattle.secured_accounts.specs.Worked.{OffersByHand, RulesByHand}

pub offers_by_hand : OffersByHand
unfolding operations value_of form_of bundle_one bundle_made
offers_by_hand = record {
  one_short = refl;
  enough = refl;
  need = refl;
  withdrawal_while_live = refl;
  again = refl;
  balance_sold = refl;
  need_sold = refl;
  two_out = refl;
  one_out = refl;
  balance_settled = refl;
  need_settled = refl;
  call_offered = refl;
  spread_offered = refl;
  closing = refl;
  closing_short = refl;
}

pub rules_by_hand : RulesByHand
unfolding operations value_of form_of bundle_one bundle_made
rules_by_hand = record {
  not_secured = refl;
  another = refl;
  another_out = refl;
  cancel = refl;
  clear = refl;
  deposit = refl;
  no_funds = refl;
  too_much = refl;
  secure = refl;
  secure_short = refl;
  secure_closed = refl;
  need_closed = refl;
  secured = refl;
  secured_again = refl;
}
