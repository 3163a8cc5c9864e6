use Rattle.std.proofs.Common.{ℕ, ℤ, ◌≡◌, ◌<◌, ◌≤◌, ◌∙◌, suc, arith, sym, get_or, length, map, pos, unsigned_abs}
use Rattle.std.proofs.lemmas.Result.{err_from_is_err_and}
use Rattle.exact_num.specs.Fits.{whole_of}
use Rattle.form.specs.Payoff.{option_of}
use Rattle.master_program.specs.Roles.{entries}
use Rattle.pricing_oracle.proofs.Added.{goes_on, stops, ends}
use Rattle.pricing_oracle.proofs.ByRole.{value_at}
use Rattle.master_program.proofs.NodeShape.{length-values}
use Rattle.pricing_oracle.proofs.rows.add_entries.Goals as goal

pub returns-in_err-entry_of-clause-added : goal.returns-in_err-entry_of-clause-added
returns-in_err-entry_of-clause-added g c =
    let q = err_from_is_err_and c.from_residual.result c.from_residual.ensures.1 in
    let value = g.N.Exact.fraction in
    let l = c.loop-i in
    let entry_at : ℕ → ℤ = λ i. get_or (option_of c.args.form.now) i (pos 0) in
    let all = entries c.args.n (option_of c.args.form.now) in
    let low : l.i < length all = omega (arith, length-values entry_at (suc c.args.n), c.loop-i-test.true) in
    let is : entry_at l.i ≡ get_or all l.i (entry_at l.i) = sym (value_at entry_at (suc c.args.n) l.i (entry_at l.i) (omega (arith, c.loop-i-test.true))) in
    rw (q.1, q.2) (l.invariant.added ∙ stops value (whole_of (unsigned_abs g.N.Exact.LIMIT)) l.row.items all l.i (entry_at l.i) c.entry_of.result c.in_err-entry_of.field-0.0 low is c.entry_of.ensures c.in_err-entry_of.was)

pub loop-i-preserved : goal.loop-i-preserved
loop-i-preserved g c =
    let value = g.N.Exact.fraction in
    let l = c.loop-i in
    let entry_at : ℕ → ℤ = λ i. get_or (option_of c.args.form.now) i (pos 0) in
    let all = entries c.args.n (option_of c.args.form.now) in
    let low : l.i < length all = omega (arith, length-values entry_at (suc c.args.n), c.loop-i-test.true) in
    let is : entry_at l.i ≡ get_or all l.i (entry_at l.i) = sym (value_at entry_at (suc c.args.n) l.i (entry_at l.i) (omega (arith, c.loop-i-test.true))) in
    record {
      added = l.invariant.added ∙ goes_on value (whole_of (unsigned_abs g.N.Exact.LIMIT)) l.row.items c.push_within.new.items.items all l.i (entry_at l.i) c.entry_of.result c.in_ok-entry_of.field-0 low is c.entry_of.ensures c.in_ok-entry_of.was c.push_within.ensures.items;
      len = omega (arith, l.invariant.len, c.push_within.ensures.len);
      room = omega (arith, l.invariant.room, c.push_within.ensures.capacity);
    }

pub returns-clause-added : goal.returns-clause-added
returns-clause-added g c =
    let value = g.N.Exact.fraction in
    let l = c.loop-i in
    let entry_at : ℕ → ℤ = λ i. get_or (option_of c.args.form.now) i (pos 0) in
    let all = entries c.args.n (option_of c.args.form.now) in
    let high : length all ≤ l.i = omega (arith, length-values entry_at (suc c.args.n), c.loop-i-test.false) in
    l.invariant.added ∙ ends (whole_of (unsigned_abs g.N.Exact.LIMIT)) (map value l.row.items) all l.i high
