use Rattle.std.proofs.Common.{◌∙◌}
use Rattle.clearing.proofs.OutcomeEnds.{fallback-parts}
use Rattle.clearing.proofs.fallback.fallback.Goals as goal

pub returns : goal.returns
returns c = λ orders kept.
    fallback-parts orders c.args.mark c.args.units c.from_vec.result c.value.result c.args.matched.surplus (c.from_vec.ensures ∙ kept.fills) c.value.ensures kept.surplus
