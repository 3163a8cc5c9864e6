use Rattle.form.proofs.SameBundle.{bundles_are_legs}
use Rattle.form.proofs.laws.bundles_are_legs.Goals as goal

pub returns : goal.returns
returns c = bundles_are_legs
