use Rattle.std.proofs.Common.{refl}
use Rattle.form.specs.BundleOf.{bundle_one}
use Rattle.form.specs.FormOf.{form_of}
use Rattle.members.proofs.laws.quota_by_hand.Goals as goal

pub returns : goal.returns
unfolding form_of bundle_one
returns c = record {
  sixteenth = refl;
  seventeenth = refl;
  there = refl;
  another = refl;
  placed = refl;
  below = refl;
  not_allowed = refl;
  live = refl;
  fewer = refl;
  others = refl;
}
