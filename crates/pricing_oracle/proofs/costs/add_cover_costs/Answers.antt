use Rattle.std.proofs.Common.{List, ◌∙◌, arith, sym, ap, length, map, unsigned_abs}
use Rattle.std.proofs.lemmas.Result.{err_from_is_err_and}
use Rattle.master_program.specs.Master.{map_steps}
use Rattle.sign_tree.specs.Left.{leg_as}
use Rattle.sign_tree.specs.Legs.{FractionLeg}
use Rattle.sign_tree.specs.Read.{sign_of}
use Rattle.master_program.specs.NodeSteps.{cover_cost_steps}
use Rattle.pricing_oracle.specs.Built.{list_then}
use Rattle.pricing_oracle.specs.Nodes.{covering_of, legs_asked, role_leg_as, roles_left}
use Rattle.pricing_oracle.proofs.Added.{adds, none_left, stops_first}
use Rattle.pricing_oracle.proofs.ByRole.{covering_first, covering_is, few_roles}
use Rattle.pricing_oracle.proofs.costs.add_cover_costs.Goals as goal

pub returns-in_err-cover_cost-clause-added : goal.returns-in_err-cover_cost-clause-added
returns-in_err-cover_cost-clause-added g c =
    let q = err_from_is_err_and c.from_residual.result c.from_residual.ensures.1 in
    let value = g.N.Exact.fraction in
    let f = cover_cost_steps (unsigned_abs g.N.Exact.LIMIT) in
    let l = c.loop-leg in
    let rest = roles_left value c.in-Some.after in
    let first = covering_first (roles_left value l.left) (role_leg_as value c.in-Some.leg) rest c.in-Some.ensures.0 (sym c.is_covering.ensures ∙ c.if-is_covering.true) in
    rw (q.1, q.2)
    (ap (λ (legs : List FractionLeg). list_then (map value c.args.row.now.items) (map_steps f legs)) (covering_is (legs_asked value c.args.asked) (map sign_of c.args.signs.now))
    ∙ l.invariant.added
    ∙ ap (λ (legs : List FractionLeg). list_then (map value l.row.items) (map_steps f legs)) first
    ∙ stops_first value f (map value l.row.items) (leg_as value c.in-Some.leg.leg) (covering_of rest) c.cover_cost.result c.in_err-cover_cost.field-0.0 c.cover_cost.ensures c.in_err-cover_cost.was)

pub loop-leg-init : goal.loop-leg-init
loop-leg-init g c =
    let value = g.N.Exact.fraction in
    let f = cover_cost_steps (unsigned_abs g.N.Exact.LIMIT) in
    let legs = c.legs_of-left.ensures.legs in
    record {
      added = ap (λ ls. list_then (map value c.args.row.now.items) (map_steps f (covering_of ls))) (sym legs);
      at = c.legs_of-left.ensures.at_leg;
      left = omega (arith, few_roles (legs_asked value c.args.asked) c.args.signs.now, ap length legs, c.requires.room);
      room = omega arith;
    }

pub loop-leg-preserved-in_ok-cover_cost : goal.loop-leg-preserved-in_ok-cover_cost
loop-leg-preserved-in_ok-cover_cost g c =
    let value = g.N.Exact.fraction in
    let f = cover_cost_steps (unsigned_abs g.N.Exact.LIMIT) in
    let l = c.loop-leg in
    let rest = roles_left value c.in-Some.after in
    let first = covering_first (roles_left value l.left) (role_leg_as value c.in-Some.leg) rest c.in-Some.ensures.0 (sym c.is_covering.ensures ∙ c.if-is_covering.true) in
    record {
      added =
          l.invariant.added
          ∙ ap (λ (legs : List FractionLeg). list_then (map value l.row.items) (map_steps f legs)) first
          ∙ adds value f l.row.items c.push_within.new.items.items (leg_as value c.in-Some.leg.leg) (covering_of rest) c.cover_cost.result c.in_ok-cover_cost.field-0 c.cover_cost.ensures c.in_ok-cover_cost.was c.push_within.ensures.items;
      at = c.in-Some.ensures.1;
      left = omega (arith, l.invariant.left, ap length c.in-Some.ensures.0, c.push_within.ensures.len, c.push_within.ensures.capacity);
      room = omega (arith, l.invariant.room, c.push_within.ensures.capacity);
    }

pub returns-clause-added : goal.returns-clause-added
returns-clause-added g c =
    let value = g.N.Exact.fraction in
    let f = cover_cost_steps (unsigned_abs g.N.Exact.LIMIT) in
    let l = c.loop-leg in
    ap (λ (legs : List FractionLeg). list_then (map value c.args.row.now.items) (map_steps f legs)) (covering_is (legs_asked value c.args.asked) (map sign_of c.args.signs.now))
    ∙ l.invariant.added
    ∙ ap (λ ls. list_then (map value l.row.items) (map_steps f (covering_of ls))) c.in_default.ensures
    ∙ none_left f (map value l.row.items)
