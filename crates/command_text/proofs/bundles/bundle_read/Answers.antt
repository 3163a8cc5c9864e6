use Rattle.std.proofs.Common.{map, subst, sym, take, ◌∙◌}
use Rattle.command_text.specs.Bundles.{legs_of}
use Rattle.form.specs.Legs.{AreAlike}
use Rattle.form.proofs.MadeBundles.{bundle_is_made}
use Rattle.command_text.proofs.bundles.bundle_read.Goals as goal

pub of-requires-clause-alike : goal.of-requires-clause-alike
of-requires-clause-alike c =
    subst AreAlike (sym (λ i. take (c.from.ensures i) (c.four_legs-four.ensures i))) c.requires.whole.1

pub returns : goal.returns
returns c =
    bundle_is_made c.of.result (legs_of c.args.legs c.args.size (map (λ f. f.now) c.args.fields.now)) c.requires.whole.0
    (c.of.ensures ∙ (λ i. take (c.from.ensures i) (c.four_legs-four.ensures i)))
