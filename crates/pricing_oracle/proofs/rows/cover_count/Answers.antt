use Rattle.std.proofs.Common.{ℕ, ◌≡◌, ◌+◌, ◌∙◌, arith, sym, ap, length, map}
use Rattle.sign_tree.specs.Read.{sign_of}
use Rattle.pricing_oracle.specs.Nodes.{covering_of, in_roles, legs_asked, role_leg_as, roles_left}
use Rattle.pricing_oracle.proofs.ByRole.{cover_count_is, covering_first, few_cover}
use Rattle.pricing_oracle.proofs.rows.cover_count.Goals as goal

pub overflow_add-count : goal.overflow_add-count
overflow_add-count g c =
    let value = g.N.Exact.fraction in
    let first = ap length (covering_first (roles_left value c.loop-leg.left) (role_leg_as value c.in-Some.leg) (roles_left value c.in-Some.after) c.in-Some.ensures.0 (sym c.is_covering.ensures ∙ c.if-is_covering.true)) in
    let few = few_cover (legs_asked value c.args.asked) c.args.signs.now in
    omega (arith, c.loop-leg.invariant.0, first, few, c.requires.signs)

counted : (count : ℕ) (left all : ℕ) → count + left ≡ all → left ≡ 0 → count ≡ all
counted count left all h none = omega (arith, h, none)

pub returns-clause-count : goal.returns-clause-count
returns-clause-count g c =
    let value = g.N.Exact.fraction in
    let all = length (covering_of (in_roles (legs_asked value c.args.asked) (map sign_of c.args.signs.now))) in
    counted c.loop-leg.count (length (covering_of (roles_left value c.loop-leg.left))) all c.loop-leg.invariant.0 (ap (λ legs. length (covering_of legs)) c.in_default.ensures)
    ∙ sym (cover_count_is (legs_asked value c.args.asked) (map sign_of c.args.signs.now))

pub returns-clause-few : goal.returns-clause-few
returns-clause-few g c =
    let value = g.N.Exact.fraction in
    omega (arith, c.loop-leg.invariant.0, few_cover (legs_asked value c.args.asked) c.args.signs.now)
