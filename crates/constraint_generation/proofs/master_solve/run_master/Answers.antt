use Rattle.std.proofs.Common.{ℕ, List, ◌≡◌, ◌+◌, ◌-◌, ◌∙◌, ap, sym, subst, arith, refl, length, map, unsigned_abs}
use Rattle.std.proofs.lemmas.Result.{err_from_is_err_and}
use Rattle.std.proofs.lemmas.List.{length-map}
use Rattle.exact_num.specs.Fraction.{Fraction}
use Rattle.frac.specs.Range.{limit}
use Rattle.form.specs.States.{vector_of}
use Rattle.simplex.specs.Spaces.{program_given, x_of, y_of, reduced_of, value_of}
use Rattle.simplex_run.specs.Ending.{unbounded}
use Rattle.simplex_run.specs.Optimum.{IsAsSaid, IsDirection, IsOptimum}
use Rattle.simplex_run.specs.Program.{LinearProgram}
use Rattle.simplex_run.specs.Run.{run}
use Rattle.master_program.specs.Master.{zero_prices}
use Rattle.master_program.proofs.Bounded.{master_is_bounded}
use Rattle.constraint_generation.proofs.Solve.{is_master, run_misfits, run_there}
use Rattle.constraint_generation.proofs.Stops.{found_there, run_stop, stops_as}
use Rattle.constraint_generation.proofs.master_solve.run_master.Goals as goal

pub returns-in-Err-clause-run : goal.returns-in-Err-clause-run
returns-in-Err-clause-run g c =
    let budget = c.args.budget.now in
    (run_misfits limit (unsigned_abs g.N.Exact.LIMIT) (budget.limit - budget.spent) budget.spent c.args.orders.now (map vector_of c.args.later.now) c.in-Err.wide c.in-Err.ensures.given, refl)

pub returns-in_err-run-clause-run : goal.returns-in_err-run-clause-run
returns-in_err-run-clause-run g c =
    let q = err_from_is_err_and c.from_residual.result c.from_residual.ensures.1 in
    let size = unsigned_abs g.N.Exact.LIMIT in
    let budget = c.args.budget.now in
    let left = budget.limit - budget.spent in
    let contents = c.give_master.new.space.contents in
    let stop = c.in_err-run.field-0.0 in
    let e = run size (program_given contents) left budget.spent in
    let there = run_there limit size left budget.spent c.args.orders.now (map vector_of c.args.later.now) contents c.in_default.ensures.given in
    rw (q.1, q.2) (stops_as _ e stop c.run.new.budget.spent there (run_stop e stop c.run.new.budget.spent (sym c.run.ensures.run.answer ∙ c.in_err-run.was) c.run.ensures.run.units))

pub returns-clause-run : goal.returns-clause-run
returns-clause-run g c =
    let size = unsigned_abs g.N.Exact.LIMIT in
    let budget = c.args.budget.now in
    let left = budget.limit - budget.spent in
    let orders = c.args.orders.now in
    let states = map vector_of c.args.later.now in
    let contents = c.give_master.new.space.contents in
    let e = run size (program_given contents) left budget.spent in
    let there = run_there limit size left budget.spent orders states contents c.in_default.ensures.given in
    let master = is_master limit size orders states contents c.in_default.ensures.given in
    let never : (d : List Fraction) (s : ℕ) → e ≡ unbounded d s → ⊥ = λ d s rises.
    master_is_bounded (zero_prices 1) orders states d (subst (λ (p : LinearProgram). IsDirection p d) master (subst (IsAsSaid (program_given contents)) rises c.run.ensures.holds)) in
    let found = found_there e c.in_ok-run.field-0 c.run.new.self.contents c.run.new.budget.spent (sym c.run.ensures.run.answer ∙ c.in_ok-run.was) c.run.ensures.run.contents c.run.ensures.run.units never in
    (found.0, there ∙ found.1)

pub returns-clause-lengths : goal.returns-clause-lengths
returns-clause-lengths g c =
    let size = unsigned_abs g.N.Exact.LIMIT in
    let budget = c.args.budget.now in
    let left = budget.limit - budget.spent in
    let orders = c.args.orders.now in
    let states = map vector_of c.args.later.now in
    let contents = c.give_master.new.space.contents in
    let now = c.run.new.self.contents in
    let p = program_given contents in
    let there = run_there limit size left budget.spent orders states contents c.in_default.ensures.given in
    let master = is_master limit size orders states contents c.in_default.ensures.given in
    let ends = sym there ∙ (returns-clause-run g c).1 in
    let optimal : IsOptimum p (x_of now) (y_of now) (reduced_of now) (value_of now) = subst (IsAsSaid p) ends c.run.ensures.holds in
    let variables : p.variables ≡ length orders + 1 = ap (λ (q : LinearProgram). q.variables) master in
    let rows : p.rows ≡ length orders + length states = ap (λ (q : LinearProgram). q.rows) master in (
      optimal.x_sign.count ∙ variables,
      omega (arith, optimal.y_sign.count, rows, length-map c.args.later.now vector_of),
      optimal.reduced_sign.count ∙ variables,
    )
