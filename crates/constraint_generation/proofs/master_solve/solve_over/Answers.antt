use Rattle.std.proofs.Common.{◌≡◌, ◌+◌, ◌-◌, All, Ok, Err, length, map, arith, ap, sym, refl, subst, unsigned_abs, ◌∙◌}
use Rattle.std.proofs.lemmas.Result.{err_from_is_err_and}
use Rattle.frac.specs.Range.{limit}
use Rattle.form.specs.declared.orders.Order.{Order}
use Rattle.form.specs.Payoff.{IsOnCount}
use Rattle.form.specs.States.{vector_of}
use Rattle.simplex_run.specs.Ending.{done, on_steps}
use Rattle.master_program.specs.Master.{zero_prices}
use Rattle.master_program.specs.Solve.{master_run, on_optimum, reading_at}
use Rattle.master_program.proofs.Solves.{solves_are_certified}
use Rattle.constraint_generation.specs.Optima.{optimum_of}
use Rattle.constraint_generation.specs.Readings.{reading_in_lists}
use Rattle.constraint_generation.proofs.Solve.{solve_is, on_forms, are_states}
use Rattle.constraint_generation.proofs.Stops.{stops_after, stops_as, goes_on}
use Rattle.constraint_generation.proofs.master_solve.solve_over.Goals as goal

pub run_master-requires-clause-few : goal.run_master-requires-clause-few
run_master-requires-clause-few g c = omega (arith, ap length c.as_slice-orders.ensures, c.requires.few)

pub run_master-requires-clause-forms : goal.run_master-requires-clause-forms
run_master-requires-clause-forms g c =
    let n = c.args.batch.now.underlyings in
    on_forms n c.as_slice-orders.result.now c.args.states.now (subst (All (λ (o : Order). IsOnCount (n + 1) o.bundle)) (sym c.as_slice-orders.ensures) c.requires.forms.forms) c.requires.counts

pub run_master-requires-clause-rows : goal.run_master-requires-clause-rows
run_master-requires-clause-rows g c = omega (arith, ap length c.as_slice-orders.ensures, c.requires.room.rows)

pub run_master-requires-clause-columns : goal.run_master-requires-clause-columns
run_master-requires-clause-columns g c = omega (arith, ap length c.as_slice-orders.ensures, c.requires.room.columns)

pub run_master-requires-clause-row : goal.run_master-requires-clause-row
run_master-requires-clause-row g c = omega (arith, ap length c.as_slice-orders.ensures, c.requires.room.row)

pub read_off-requires-clause-few : goal.read_off-requires-clause-few
read_off-requires-clause-few g c = (omega (arith, ap length c.as_slice-orders.ensures, c.requires.few), c.requires.few_states)

pub read_off-requires-clause-fills : goal.read_off-requires-clause-fills
read_off-requires-clause-fills g c = omega (arith, ap length c.as_slice-orders.ensures, c.requires.room.fills)

pub read_off-requires-clause-points : goal.read_off-requires-clause-points
read_off-requires-clause-points g c = omega (arith, c.requires.room.points)

pub returns-in_err-run_master-clause-run : goal.returns-in_err-run_master-clause-run
returns-in_err-run_master-clause-run g c =
    let q = err_from_is_err_and c.from_residual.result c.from_residual.ensures.1 in
    let orders = c.as_slice-orders.result.now in
    let states = map vector_of c.args.states.now in
    let size = unsigned_abs g.N.Exact.LIMIT in
    let before = c.args.budget.now.spent in
    let left = c.args.budget.now.limit - before in
    let n = c.args.batch.now.underlyings in
    let spent = c.run_master.new.budget.spent in
    let stop = c.in_err-run_master.field-0.0 in
    rw (q.1, q.2)
    (stops_as _ _ stop spent (solve_is limit size left before n c.args.batch.now.orders orders states c.as_slice-orders.ensures)
    (stops_after (master_run limit size left before orders states) (on_optimum size (zero_prices n) orders states) stop spent c.in_err-run_master.ensures.run))

pub returns-in-Ok-clause-run : goal.returns-in-Ok-clause-run
returns-in-Ok-clause-run g c =
    let orders = c.as_slice-orders.result.now in
    let states = map vector_of c.args.states.now in
    let size = unsigned_abs g.N.Exact.LIMIT in
    let before = c.args.budget.now.spent in
    let left = c.args.budget.now.limit - before in
    let n = c.args.batch.now.underlyings in
    let spent = c.run_master.new.budget.spent in
    let o = optimum_of c.run_master.new.space.contents in
    let whole = goes_on _ (master_run limit size left before orders states) (on_optimum size (zero_prices n) orders states) o spent (solve_is limit size left before n c.args.batch.now.orders orders states c.as_slice-orders.ensures) c.in_ok-run_master.ensures.run.1 in
    let reading = reading_in_lists g.N.Exact.fraction c.read_off.new.fills.items c.read_off.new.points.items c.in-Ok.read in
    let read = subst (λ first. reading_at size first orders states o ≡ Ok reading) c.zero_prices-first.ensures.vector c.in-Ok.ensures.read in
    whole ∙ ap (λ r. on_steps spent r (λ reading. done reading spent)) read

pub returns-in-Ok-clause-certified : goal.returns-in-Ok-clause-certified
returns-in-Ok-clause-certified g c =
    let n = c.args.batch.now.underlyings in
    let before = c.args.budget.now.spent in
    solves_are_certified limit (unsigned_abs g.N.Exact.LIMIT) (c.args.budget.now.limit - before) before n c.run_master.new.budget.spent c.args.batch.now.orders (map vector_of c.args.states.now)
    (reading_in_lists g.N.Exact.fraction c.read_off.new.fills.items c.read_off.new.points.items c.in-Ok.read) (are_states n c.args.states.now c.requires.counts) (returns-in-Ok-clause-run g c)

pub returns-in-Err-clause-run : goal.returns-in-Err-clause-run
returns-in-Err-clause-run g c =
    let orders = c.as_slice-orders.result.now in
    let states = map vector_of c.args.states.now in
    let size = unsigned_abs g.N.Exact.LIMIT in
    let before = c.args.budget.now.spent in
    let left = c.args.budget.now.limit - before in
    let n = c.args.batch.now.underlyings in
    let spent = c.run_master.new.budget.spent in
    let o = optimum_of c.run_master.new.space.contents in
    let whole = goes_on _ (master_run limit size left before orders states) (on_optimum size (zero_prices n) orders states) o spent (solve_is limit size left before n c.args.batch.now.orders orders states c.as_slice-orders.ensures) c.in_ok-run_master.ensures.run.1 in
    let read = subst (λ first. reading_at size first orders states o ≡ Err c.in-Err.wide) c.zero_prices-first.ensures.vector c.in-Err.ensures.read in
    (whole ∙ ap (λ r. on_steps spent r (λ reading. done reading spent)) read, refl)
