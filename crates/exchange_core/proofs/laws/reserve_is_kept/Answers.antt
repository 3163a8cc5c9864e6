use Rattle.std.proofs.Common.{refl}
use Rattle.form.specs.BundleOf.{bundle_one}
use Rattle.form.specs.FormOf.{form_of}
use Rattle.exchange_core.proofs.laws.reserve_is_kept.Goals as goal

pub returns : goal.returns
unfolding form_of bundle_one
returns c = (refl, refl, refl, refl, refl)
