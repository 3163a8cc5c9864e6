use Rattle.std.proofs.Common.{◌∙◌}
use Rattle.clearing.proofs.OutcomeEnds.{outcome_with, optimal_outcome-parts}
use Rattle.clearing.proofs.clearing.optimal_outcome.Goals as goal

pub returns : goal.returns
returns c = λ cover is.
    let j = c.args.joint in
    (λ i. outcome_with (c.from_vec.ensures i) j.liability j.surplus j.cover j.measure.points c.args.units)
    ∙ optimal_outcome-parts j.fills.items j.liability j.surplus cover j.cover j.measure.points c.args.units is
