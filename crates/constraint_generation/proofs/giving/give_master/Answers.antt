use Rattle.std.proofs.Common.{ℕ, ◌≡◌, ◌+◌, ◌-◌, ◌^◌, ◌∙◌, arith, ap, sym, subst, length, map, unsigned_abs}
use Rattle.std.proofs.lemmas.Result.{err_from_is_err_and}
use Rattle.std.proofs.lemmas.List.{length-map}
use Rattle.exact_num.specs.Fits.{after}
use Rattle.fraction_tableau.specs.Programs.{empty_program}
use Rattle.form.specs.States.{vector_of}
use Rattle.simplex.specs.Spaces.{Workspace, given, program_given}
use Rattle.master_program.specs.Master.{map_steps, quantity_steps, rows_steps}
use Rattle.pricing_oracle.specs.Programs.{IsOpen, given_with}
use Rattle.constraint_generation.specs.Parts.{units_given}
use Rattle.constraint_generation.proofs.GivenMaster.{after_costs, after_units, costs_width, master_given, units_open}
use Rattle.constraint_generation.proofs.giving.give_master.Goals as goal

pub returns-in_err-write_costs-clause-given : goal.returns-in_err-write_costs-clause-given
returns-in_err-write_costs-clause-given g c =
    let q = err_from_is_err_and c.from_residual.result c.from_residual.ensures.1 in
    let limit = unsigned_abs g.N.Exact.LIMIT in
    let orders = c.args.orders.now in
    let states = map vector_of c.args.states.now in
    rw (q.1, q.2) (master_given (2 ^ 127 - 1) limit orders states ∙ ap (λ r. after r (after_costs (2 ^ 127 - 1) limit orders states)) c.in_err-write_costs.ensures.written)

pub begin-requires : goal.begin-requires
begin-requires g c =
    let items = c.write_costs.new.row.items in
    let width = costs_width (unsigned_abs g.N.Exact.LIMIT) c.args.orders.now (map g.N.Exact.fraction items) c.in_ok-write_costs.ensures.written in
    let long : length c.as_slice.result.now ≡ length items = ap length c.as_slice.ensures.value in
    let count = length-map items g.N.Exact.fraction in
    (omega (arith, width, long, count), omega (arith, width, long, count, c.requires.columns))

pub give_quantities-requires-clause-program : goal.give_quantities-requires-clause-program
give_quantities-requires-clause-program g c =
    let items = c.write_costs.new.row.items in
    let width = costs_width (unsigned_abs g.N.Exact.LIMIT) c.args.orders.now (map g.N.Exact.fraction items) c.in_ok-write_costs.ensures.written in
    let orders = c.args.orders.now in
    subst (λ (w : Workspace). IsOpen w (length orders + 1) (length orders)) (sym c.begin.ensures)
    (record {
      given = tt;
      width = omega (arith, width, ap length c.as_slice.ensures.value, length-map c.as_slice.result.now g.N.Exact.fraction, length-map items g.N.Exact.fraction);
      room = omega (arith, c.requires.rows);
    })

pub returns-in_err-give_quantities-clause-given : goal.returns-in_err-give_quantities-clause-given
returns-in_err-give_quantities-clause-given g c =
    let q = err_from_is_err_and c.from_residual-in_err-give_quantities.result c.from_residual-in_err-give_quantities.ensures.1 in
    let value = g.N.Exact.fraction in
    let limit = unsigned_abs g.N.Exact.LIMIT in
    let orders = c.args.orders.now in
    let states = map vector_of c.args.states.now in
    let quantities = map_steps (quantity_steps limit) orders in
    let costs = map value c.write_costs.new.row.items in
    let begin : c.begin.new.self ≡ record c.args.space.now { contents = given (empty_program costs) } =
    c.begin.ensures ∙ (λ i. record c.args.space.now { contents = given (empty_program (map value (c.as_slice.ensures.value i))) }) in
    let next = after_units (2 ^ 127 - 1) limit orders states in
    rw (q.1, q.2)
    (master_given (2 ^ 127 - 1) limit orders states
    ∙ ap (λ r. after r (after_costs (2 ^ 127 - 1) limit orders states)) c.in_ok-write_costs.ensures.written
    ∙ ap (λ (w : Workspace). after (units_given (length orders + 1) 0 (program_given w.contents) quantities) next) (sym begin)
    ∙ ap (λ r. after r next) c.in_err-give_quantities.ensures.given)

pub give_states-requires-clause-program : goal.give_states-requires-clause-program
give_states-requires-clause-program g c =
    let value = g.N.Exact.fraction in
    let limit = unsigned_abs g.N.Exact.LIMIT in
    let orders = c.args.orders.now in
    let items = c.write_costs.new.row.items in
    let costs = map value items in
    let width = costs_width limit orders costs c.in_ok-write_costs.ensures.written in
    let begin : c.begin.new.self ≡ record c.args.space.now { contents = given (empty_program costs) } =
    c.begin.ensures ∙ (λ i. record c.args.space.now { contents = given (empty_program (map value (c.as_slice.ensures.value i))) }) in
    let p = program_given c.begin.new.self.contents in
    let variables : p.variables ≡ length orders + 1 = ap (λ (w : Workspace). (program_given w.contents).variables) begin ∙ width in
    let rows : p.rows ≡ 0 = ap (λ (w : Workspace). (program_given w.contents).rows) begin in
    let size : c.begin.new.self.rows ≡ c.args.space.now.rows = ap (λ (w : Workspace). w.rows) begin in
    units_open (length orders + 1) (length orders + 1) (length c.args.states.now) p (quantity_steps limit) orders c.give_quantities.new.space c.in_ok-give_quantities.ensures.given variables
    (omega (arith, rows, size, c.give_quantities.ensures.size.0, c.requires.rows))

pub returns-clause-given : goal.returns-clause-given
returns-clause-given g c =
    let value = g.N.Exact.fraction in
    let limit = unsigned_abs g.N.Exact.LIMIT in
    let orders = c.args.orders.now in
    let states = map vector_of c.args.states.now in
    let quantities = map_steps (quantity_steps limit) orders in
    let costs = map value c.write_costs.new.row.items in
    let begin : c.begin.new.self ≡ record c.args.space.now { contents = given (empty_program costs) } =
    c.begin.ensures ∙ (λ i. record c.args.space.now { contents = given (empty_program (map value (c.as_slice.ensures.value i))) }) in
    let next = after_units (2 ^ 127 - 1) limit orders states in
    master_given (2 ^ 127 - 1) limit orders states
    ∙ ap (λ r. after r (after_costs (2 ^ 127 - 1) limit orders states)) c.in_ok-write_costs.ensures.written
    ∙ ap (λ (w : Workspace). after (units_given (length orders + 1) 0 (program_given w.contents) quantities) next) (sym begin)
    ∙ ap (λ r. after r next) c.in_ok-give_quantities.ensures.given
    ∙ ap (λ (k : ℕ). given_with (program_given c.give_quantities.new.space.contents) k (rows_steps (2 ^ 127 - 1) limit orders states)) (length-map c.args.states.now vector_of)
    ∙ c.give_states.ensures.given
