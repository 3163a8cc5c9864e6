use Rattle.std.proofs.Common.{◌∙◌, sym, ap, arith, map, length}
use Rattle.sign_tree.specs.Read.{sign_of}
use Rattle.master_program.specs.Roles.{split_place, split_from}
use Rattle.pricing_oracle.specs.Nodes.{legs_asked, node_leg, role_leg_as, roles_left}
use Rattle.pricing_oracle.proofs.ByRole.{few_roles, node_is}
use Rattle.pricing_oracle.proofs.SplitPlaces.{splits_here}
use Rattle.pricing_oracle.proofs.splitting.split_place.Goals as goal

pub returns-then-can_split-clause-place : goal.returns-then-can_split-clause-place
returns-then-can_split-clause-place g c =
    let value = g.N.Exact.fraction in
    let n = c.args.asked.underlyings in
    sym (ap (split_place n) (node_is (legs_asked value c.args.asked) (map sign_of c.args.signs.now))
    ∙ c.loop-leg.invariant.0
    ∙ splits_here n c.loop-leg.place (roles_left value c.loop-leg.left) (role_leg_as value c.in-Some.leg) (roles_left value c.in-Some.after) c.in-Some.ensures.0 (sym c.can_split.ensures ∙ c.if-can_split.true))

pub loop-leg-init : goal.loop-leg-init
loop-leg-init g c =
    let value = g.N.Exact.fraction in
    let n = c.args.asked.underlyings in
    let all = ap length c.legs_of-left.ensures.legs in (
      ap (λ legs. split_from n 0 (map node_leg legs)) (sym c.legs_of-left.ensures.legs),
      omega (arith, all, few_roles (legs_asked value c.args.asked) c.args.signs.now),
      c.legs_of-left.ensures.at_leg,
    )

pub returns-clause-place : goal.returns-clause-place
returns-clause-place g c =
    let value = g.N.Exact.fraction in
    let n = c.args.asked.underlyings in
    sym (ap (split_place n) (node_is (legs_asked value c.args.asked) (map sign_of c.args.signs.now))
    ∙ c.loop-leg.invariant.0
    ∙ ap (λ legs. split_from n c.loop-leg.place (map node_leg legs)) c.in_default.ensures)
