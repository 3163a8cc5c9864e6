use Rattle.std.proofs.Common.{◌∙◌}
use Rattle.form.proofs.EqualBundles.{bundles_equal}
use Rattle.form.proofs.from_legs.is_same_bundle.Goals as goal

pub returns : goal.returns
returns c = c.eq.ensures ∙ bundles_equal c.args.a.now c.args.b.now
