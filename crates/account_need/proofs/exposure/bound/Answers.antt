use Rattle.std.proofs.Common.{◌≡◌, ◌*◌, ℤ, ap, ◌∙◌}
use Rattle.std.proofs.lemmas.Int.{to_z-of_z}
use mir.Syntax.{w128}
use Rattle.portfolio_margin.specs.Need.{ceil_of}
use Rattle.account_need.specs.Rounded.{unit}
use Rattle.account_need.proofs.LineFits.{bound_fits}
use Rattle.account_need.proofs.exposure.bound.Goals as goal

pub returns-clause-bound : goal.returns-clause-bound
returns-clause-bound c = λ positions.
    let x = c.exposure.result in
    let bits = to_z-of_z w128 x (bound_fits x c.exposure.ensures.small) in
    let ticks : c.in_ticks.result ≡ ceil_of x (unit * c.args.at.now.t) = rw (bits) at c.in_ticks.ensures.ceil in
    let back = to_z-of_z w128 c.in_ticks.result (bound_fits c.in_ticks.result c.in_ticks.ensures.small) in
    back ∙ ticks ∙ ap (λ (z : ℤ). ceil_of z (unit * c.args.at.now.t)) (c.exposure.ensures.exposure positions)
