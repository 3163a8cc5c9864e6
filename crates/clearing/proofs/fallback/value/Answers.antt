use Rattle.std.proofs.Common.{FitsSigned, rules, ap, ◌∙◌}
use Rattle.std.proofs.lemmas.Int.{to_z-of_z}
use mir.Syntax.{w128}
use Rattle.exact_num.specs.Fraction.{whole}
use Rattle.clearing.proofs.Values.{value_is}
use Rattle.clearing.proofs.fallback.value.Goals as goal

pub returns : goal.returns
returns c =
    let fits : FitsSigned w128 c.args.v = search rules in
    value_is c.whole.result (whole c.args.v) (c.whole.ensures ∙ ap whole (to_z-of_z w128 c.args.v fits))
