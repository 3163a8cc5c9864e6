use Rattle.std.proofs.Common.{◌≡◌, ◌-◌, ◌≤◌, arith, rules, unsigned_abs}
use Rattle.fraction_tableau.specs.SparseRows.{program_in}
use Rattle.run_equivalence.specs.IntegerRows.{widest}
use Rattle.simplex.proofs.WholeSteps.{started_at, whole_optimum, whole_ray, whole_no_unit}
use Rattle.simplex.proofs.attempt.run_whole.Goals as goal

pub whole_run-requires-clause-within : goal.whole_run-requires-clause-within
whole_run-requires-clause-within g c =
    let high : widest ≤ c.unsigned_abs-limit.result = omega (arith, c.if-limit.false) in
    c.take_in.ensures.within c.unsigned_abs-limit.result c.if-not-take_in.false high

pub returns-in-Optimal-clause-tried : goal.returns-in-Optimal-clause-tried
returns-in-Optimal-clause-tried g c t given =
    let value = g.N.Exact.fraction in
    let L = unsigned_abs g.N.Exact.LIMIT in
    let left = c.args.budget.now.limit - c.args.budget.now.spent in
    let spent = c.args.budget.now.spent in
    let w1 = c.take_in.new.self in
    let w2 = c.whole_run.new.table in
    let after = c.whole_run.new.budget.spent in
    let held = c.unsigned_abs-limit.result in
    let same : held ≡ L = search rules in
    let taken = c.if-not-take_in.false in
    let p = program_in value c.args.program.now in
    let high : widest ≤ L = omega (arith, same, c.if-limit.false) in
    let start = started_at L p w1 given (c.take_in.ensures.table taken) (c.take_in.ensures.within L taken high) in
    let told = c.in-Optimal.ensures.run p.variables p.rows in
    whole_optimum value L held left spent after p t w1 w2 start same c.whole_run.ensures.shape told

pub returns-in-Unbounded-clause-tried : goal.returns-in-Unbounded-clause-tried
returns-in-Unbounded-clause-tried g c t given =
    let value = g.N.Exact.fraction in
    let L = unsigned_abs g.N.Exact.LIMIT in
    let left = c.args.budget.now.limit - c.args.budget.now.spent in
    let spent = c.args.budget.now.spent in
    let w1 = c.take_in.new.self in
    let w2 = c.whole_run.new.table in
    let after = c.whole_run.new.budget.spent in
    let held = c.unsigned_abs-limit.result in
    let same : held ≡ L = search rules in
    let taken = c.if-not-take_in.false in
    let p = program_in value c.args.program.now in
    let high : widest ≤ L = omega (arith, same, c.if-limit.false) in
    let start = started_at L p w1 given (c.take_in.ensures.table taken) (c.take_in.ensures.within L taken high) in
    let told = c.in-Unbounded.ensures.run p.variables p.rows in
    whole_ray value L held left spent after p t w1 w2 start same c.whole_run.ensures.shape c.in-Unbounded.column told

pub returns-in-NoUnit-clause-tried : goal.returns-in-NoUnit-clause-tried
returns-in-NoUnit-clause-tried g c t given =
    let value = g.N.Exact.fraction in
    let L = unsigned_abs g.N.Exact.LIMIT in
    let left = c.args.budget.now.limit - c.args.budget.now.spent in
    let spent = c.args.budget.now.spent in
    let w1 = c.take_in.new.self in
    let w2 = c.whole_run.new.table in
    let after = c.whole_run.new.budget.spent in
    let held = c.unsigned_abs-limit.result in
    let same : held ≡ L = search rules in
    let taken = c.if-not-take_in.false in
    let p = program_in value c.args.program.now in
    let high : widest ≤ L = omega (arith, same, c.if-limit.false) in
    let start = started_at L p w1 given (c.take_in.ensures.table taken) (c.take_in.ensures.within L taken high) in
    let told = c.in-NoUnit.ensures.run p.variables p.rows in
    whole_no_unit value L held left spent after p t w1 w2 start same c.whole_run.ensures.shape told
