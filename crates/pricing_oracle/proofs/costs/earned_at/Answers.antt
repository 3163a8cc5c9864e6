use Rattle.std.proofs.Common.{◌∙◌, sym, map, unsigned_abs}
use Rattle.exact_num.proofs.Loops.{stops, ends}
use Rattle.sign_tree.specs.Read.{sign_of}
use Rattle.simplex_run.specs.Places.{fraction_zero}
use Rattle.pricing_oracle.specs.Nodes.{add_earned_by, legs_asked}
use Rattle.pricing_oracle.proofs.ByRole.{earned_is}
use Rattle.pricing_oracle.proofs.costs.earned_at.Goals as goal

pub returns-in_err-total : goal.returns-in_err-total
returns-in_err-total g c =
    let value = g.N.Exact.fraction in
    let limit = unsigned_abs g.N.Exact.LIMIT in
    stops value (add_earned_by limit c.args.i) c.loop-leg.total c.add_leg.result _ _ _ _ _ c.in_err-total.field-0.0 c.in-Some.ensures.0 c.loop-leg.invariant.0 c.add_leg.ensures c.in_err-total.was c.from_residual.ensures.1
    ∙ sym (earned_is limit c.args.i fraction_zero (legs_asked value c.args.asked) (map sign_of c.args.signs.now))

pub returns : goal.returns
returns g c =
    let value = g.N.Exact.fraction in
    let limit = unsigned_abs g.N.Exact.LIMIT in
    ends value (add_earned_by limit c.args.i) c.loop-leg.total _ _ c.in_default.ensures c.loop-leg.invariant.0
    ∙ sym (earned_is limit c.args.i fraction_zero (legs_asked value c.args.asked) (map sign_of c.args.signs.now))
