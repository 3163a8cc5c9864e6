use Rattle.std.proofs.Common.{◌≡◌, ◌-◌, ◌∙◌, sym, ap, length, unsigned_abs}
use Rattle.std.specs.Prelude.{Ok}
use Rattle.simplex_run.specs.Ending.{done, unbounded}
use Rattle.simplex_run.specs.Units.{units_of}
use Rattle.simplex_run.specs.Run.{run, direction}
use Rattle.fraction_tableau.specs.Labels.{as_column}
use Rattle.fraction_tableau.specs.Tables.{as_table, program_in}
use Rattle.simplex.specs.Ends.{ending_of}
use Rattle.simplex.specs.Spaces.{answer_of, contents_after, optimum_in}
use Rattle.simplex.proofs.SpaceSteps.{ending_is, found_is, stop_answer}
use Rattle.simplex.proofs.attempt.run_fractions.Goals as goal

pub returns-in-Ok-Optimal-clause-ended : goal.returns-in-Ok-Optimal-clause-ended
returns-in-Ok-Optimal-clause-ended g c w given =
    let value = g.N.Exact.fraction in
    let L = unsigned_abs g.N.Exact.LIMIT in
    let left = c.args.budget.now.limit - c.args.budget.now.spent in
    let spent = c.args.budget.now.spent in
    let after = c.run.new.budget.spent in
    let t0 = c.args.table.now in
    let t = c.run.new.table in
    let ending = ending_is value L left spent after t0 c.first.new.self t c.run.result c.first.ensures.table c.first.ensures.shape c.run.ensures.shape c.run.ensures.run in
    let was = c.in-Ok-Optimal.is ∙ ap Ok c.in-Ok-Optimal.field-0-is in
    let n = length t.labels.items in
    let m = length t.rows.rows in
    let table = as_table value t in
    let e : done (optimum_in n m table) after ≡ run L (program_in value t0) left spent =
    sym (found_is n m after table) ∙ ap (λ r. ending_of n m r after table) (sym was) ∙ ending in
    record { answer = ap answer_of e; contents = ap contents_after e; units = ap units_of e; there = tt }

pub returns-in-Ok-Unbounded-clause-ended : goal.returns-in-Ok-Unbounded-clause-ended
returns-in-Ok-Unbounded-clause-ended g c w given =
    let value = g.N.Exact.fraction in
    let L = unsigned_abs g.N.Exact.LIMIT in
    let left = c.args.budget.now.limit - c.args.budget.now.spent in
    let spent = c.args.budget.now.spent in
    let after = c.run.new.budget.spent in
    let t0 = c.args.table.now in
    let t = c.run.new.table in
    let ending = ending_is value L left spent after t0 c.first.new.self t c.run.result c.first.ensures.table c.first.ensures.shape c.run.ensures.shape c.run.ensures.run in
    let was = c.in-Ok-Unbounded.is ∙ ap Ok c.in-Ok-Unbounded.field-0-is in
    let n = length t.labels.items in
    let table = as_table value t in
    let e : unbounded (direction n (as_column c.in-Ok-Unbounded.column) table) after ≡ run L (program_in value t0) left spent =
    ap (λ r. ending_of n (length t.rows.rows) r after table) (sym was) ∙ ending in
    record { answer = ap answer_of e; contents = ap contents_after e; units = ap units_of e; there = c.run.ensures.place c.in-Ok-Unbounded.column was }

pub returns-in-Err-clause-ended : goal.returns-in-Err-clause-ended
returns-in-Err-clause-ended g c w given =
    let value = g.N.Exact.fraction in
    let L = unsigned_abs g.N.Exact.LIMIT in
    let left = c.args.budget.now.limit - c.args.budget.now.spent in
    let spent = c.args.budget.now.spent in
    let after = c.run.new.budget.spent in
    let t0 = c.args.table.now in
    let t = c.run.new.table in
    let ending = ending_is value L left spent after t0 c.first.new.self t c.run.result c.first.ensures.table c.first.ensures.shape c.run.ensures.shape c.run.ensures.run in
    let told = stop_answer (length t.labels.items) (length t.rows.rows) after (as_table value t) c.run.result c.in-Err.stop (run L (program_in value t0) left spent) c.in-Err.is ending c.run.ensures.unit in
    record { answer = told.0; contents = told.1; units = told.2 }
