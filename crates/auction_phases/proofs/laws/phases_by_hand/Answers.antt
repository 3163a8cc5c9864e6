use Rattle.std.proofs.Common.{refl}
use Rattle.form.specs.BundleOf.{bundle_one}
use Rattle.form.specs.FormOf.{form_of}
use Rattle.auction_phases.proofs.laws.phases_by_hand.Goals as goal

pub returns : goal.returns
unfolding form_of bundle_one
returns c = record {
  order = refl;
  cancel = refl;
  no_funds = refl;
  anothers = refl;
  unknown = refl;
  while_open = refl;
  deposit = refl;
  close = refl;
  close_again = refl;
  close_unknown = refl;
  reopen = refl;
  reopen_again = refl;
  cleared = refl;
  settles = refl;
  close_settled = refl;
}
