use Rattle.std.proofs.Common.{◌≡◌, true, cond, Some, None, sym, ap, ◌∙◌}
use Rattle.form.specs.BundleOf.{are_legs, bundle_made}
use Rattle.form.proofs.MadeBundles.{bundle_is_made}
use Rattle.reply_text.proofs.batch_values.bundle_by.Goals as goal

pub returns-then-are_legs : goal.returns-then-are_legs
returns-then-are_legs c =
    let legs = c.args.legs.now in
    let are : are_legs legs ≡ true = sym c.are_legs.ensures.decides ∙ c.if-are_legs.true in
    ap Some (bundle_is_made c.from_legs.result legs (c.are_legs.ensures.legs c.if-are_legs.true) c.from_legs.ensures) ∙ sym (ap (λ b. cond b (Some (bundle_made legs)) None) are)
