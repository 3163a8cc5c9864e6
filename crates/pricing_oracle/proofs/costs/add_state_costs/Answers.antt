use Rattle.std.proofs.Common.{ℕ, ◌≡◌, ◌<◌, ◌≤◌, ◌∙◌, suc, arith, sym, get_or, length, map, unsigned_abs}
use Rattle.std.proofs.lemmas.Result.{err_from_is_err_and}
use Rattle.sign_tree.specs.Read.{sign_of}
use Rattle.master_program.specs.Roles.{values}
use Rattle.master_program.specs.NodeSteps.{state_cost_steps}
use Rattle.pricing_oracle.specs.Nodes.{legs_asked}
use Rattle.pricing_oracle.proofs.Added.{goes_on, stops, ends}
use Rattle.pricing_oracle.proofs.ByRole.{value_at}
use Rattle.master_program.proofs.NodeShape.{length-values}
use Rattle.pricing_oracle.proofs.costs.add_state_costs.Goals as goal

pub returns-in_err-state_cost-clause-added : goal.returns-in_err-state_cost-clause-added
returns-in_err-state_cost-clause-added g c =
    let q = err_from_is_err_and c.from_residual.result c.from_residual.ensures.1 in
    let value = g.N.Exact.fraction in
    let f = state_cost_steps (unsigned_abs g.N.Exact.LIMIT) (legs_asked value c.args.asked) (value c.args.asked.liability.now) (map sign_of c.args.signs.now) in
    let l = c.loop-i in
    let all = values (λ i. i) (suc c.args.asked.underlyings) in
    let low : l.i < length all = omega (arith, length-values (λ (i : ℕ). i) (suc c.args.asked.underlyings), c.loop-i-test.true) in
    let is : l.i ≡ get_or all l.i l.i = sym (value_at (λ (i : ℕ). i) (suc c.args.asked.underlyings) l.i l.i (omega (arith, c.loop-i-test.true))) in
    rw (q.1, q.2) (l.invariant.added ∙ stops value f l.row.items all l.i l.i c.state_cost.result c.in_err-state_cost.field-0.0 low is c.state_cost.ensures c.in_err-state_cost.was)

pub loop-i-preserved : goal.loop-i-preserved
loop-i-preserved g c =
    let value = g.N.Exact.fraction in
    let f = state_cost_steps (unsigned_abs g.N.Exact.LIMIT) (legs_asked value c.args.asked) (value c.args.asked.liability.now) (map sign_of c.args.signs.now) in
    let l = c.loop-i in
    let all = values (λ i. i) (suc c.args.asked.underlyings) in
    let low : l.i < length all = omega (arith, length-values (λ (i : ℕ). i) (suc c.args.asked.underlyings), c.loop-i-test.true) in
    let is : l.i ≡ get_or all l.i l.i = sym (value_at (λ (i : ℕ). i) (suc c.args.asked.underlyings) l.i l.i (omega (arith, c.loop-i-test.true))) in
    record {
      added = l.invariant.added ∙ goes_on value f l.row.items _ all l.i l.i c.state_cost.result c.in_ok-state_cost.field-0 low is c.state_cost.ensures c.in_ok-state_cost.was c.push_within.ensures.items;
      len = omega (arith, l.invariant.len, c.push_within.ensures.len);
      room = omega (arith, l.invariant.room, c.push_within.ensures.capacity);
    }

pub returns-clause-added : goal.returns-clause-added
returns-clause-added g c =
    let value = g.N.Exact.fraction in
    let f = state_cost_steps (unsigned_abs g.N.Exact.LIMIT) (legs_asked value c.args.asked) (value c.args.asked.liability.now) (map sign_of c.args.signs.now) in
    let l = c.loop-i in
    let all = values (λ i. i) (suc c.args.asked.underlyings) in
    let high : length all ≤ l.i = omega (arith, length-values (λ (i : ℕ). i) (suc c.args.asked.underlyings), c.loop-i-test.false) in
    l.invariant.added ∙ ends f (map value l.row.items) all l.i high
