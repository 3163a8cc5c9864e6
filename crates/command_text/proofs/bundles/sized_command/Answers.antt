use Rattle.std.proofs.Common.{◌≡◌, ◌-◌, ◌≤◌, length, map, None, Some, sym, ap, ◌∙◌, arith}
use Rattle.std.proofs.lemmas.List.{length-map}
use Rattle.command_text.specs.declared.ranges.TheConstants.{BUNDLE_QUANTITY, HEAD}
use Rattle.command_text.specs.Asked.{either_fault, fault_in, natural_in}
use Rattle.command_text.specs.Bundles.{bundle_fault, fields_each, legs_fault, legs_size, legs_weightless, too_many}
use Rattle.command_text.proofs.Bounds.{none_both}
use Rattle.command_text.proofs.LegsWithin.{legs_alike, legs_are}
use Rattle.command_text.proofs.bundles.sized_command.Goals as goal

pub bundle_read-requires-clause-whole : goal.bundle_read-requires-clause-whole
bundle_read-requires-clause-whole c =
    let texts = map (λ f. f.now) c.args.fields.now in
    let size = c.args.size in
    let long : length texts ≡ length c.args.fields.now = length-map c.args.fields.now (λ f. f.now) in
    let none : bundle_fault size texts ≡ None = sym c.wrong.ensures ∙ c.in-None.is in
    let over = too_many (natural_in texts BUNDLE_QUANTITY) (legs_size size texts) in
    let parts = none_both (either_fault (fault_in 0 HEAD texts) (legs_fault size texts)) (either_fault (legs_weightless size texts) over) none in
    let fault = (none_both (fault_in 0 HEAD texts) (legs_fault size texts) parts.0).1 in
    let weight = (none_both (legs_weightless size texts) over parts.1).0 in
    let each : fields_each (length texts - 7) c.args.legs ≡ Some size = ap (λ n. fields_each (n - 7) c.args.legs) long ∙ c.requires.each in
    let many : 7 ≤ length texts = omega (arith, long, c.requires.many) in (
      legs_are c.args.legs size texts c.requires.some many each fault weight,
      legs_alike c.args.legs size texts c.requires.some many each fault weight,
    )
