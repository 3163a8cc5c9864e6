use Rattle.std.proofs.Common.{ℕ, List, ◌≡◌, ◌+◌, ◌-◌, ◌^◌, ◌∙◌, drop, arith, ap, sym, subst, refl, length, map, unsigned_abs}
use Rattle.std.proofs.lemmas.Result.{err_from_is_err_and}
use Rattle.std.proofs.lemmas.List.{length-map}
use Rattle.arithmetic.proofs.Lists.{drop_map, drop_map_end}
use Rattle.fraction_tableau.specs.Programs.{with_row}
use Rattle.form.specs.States.{vector_of}
use Rattle.simplex.specs.Spaces.{Workspace, given, program_given}
use Rattle.simplex_run.specs.Places.{fraction_zero}
use Rattle.master_program.specs.Master.{rows_steps}
use Rattle.pricing_oracle.specs.Programs.{IsOpen, given_with}
use Rattle.pricing_oracle.proofs.GivenRows.{rows_end}
use Rattle.pricing_oracle.proofs.GivenSteps.{all_given, one_row_on}
use Rattle.constraint_generation.proofs.GivenMaster.{row_width, state_on, state_stops, states_end}
use Rattle.constraint_generation.proofs.giving.give_states.Goals as goal

pub loop-state-init : goal.loop-state-init
loop-state-init g c =
    record {
      rows = refl;
      stands = subst (IsOpen c.args.space.now (length c.args.orders.now + 1)) (sym (length-map c.args.states.now vector_of)) c.requires.program;
      size = (refl, refl);
      row = c.requires.row;
      kept = omega arith;
    }

pub returns-in_err-write_state_row-clause-given : goal.returns-in_err-write_state_row-clause-given
returns-in_err-write_state_row-clause-given g c =
    let q = err_from_is_err_and c.from_residual.result c.from_residual.ensures.1 in
    let limit = unsigned_abs g.N.Exact.LIMIT in
    let l = c.loop-state in
    let orders = c.args.orders.now in
    let all = map vector_of c.args.states.now in
    let first = drop_map vector_of c.args.states.now l.state-index c.state-item.result c.loop-state-test.true c.state-item.is in
    rw (q.1, q.2)
    (ap (λ (k : ℕ). given_with (program_given c.args.space.now.contents) k (rows_steps (2 ^ 127 - 1) limit orders all)) (sym (length-map c.args.states.now vector_of))
    ∙ l.invariant.rows
    ∙ state_stops (2 ^ 127 - 1) limit orders (program_given l.space.contents) (drop l.state-index all) (vector_of c.state-item.result) (drop (l.state-index + 1) all) c.in_err-write_state_row.field-0.0 first c.in_err-write_state_row.ensures.written)

pub row-requires-clause-width : goal.row-requires-clause-width
row-requires-clause-width g c =
    let items = c.write_state_row.new.row.items in
    let width = row_width (2 ^ 127 - 1) (unsigned_abs g.N.Exact.LIMIT) c.args.orders.now (vector_of c.state-item.result) (map g.N.Exact.fraction items) c.in_ok-write_state_row.ensures.written in
    omega (arith, ap length c.as_slice.ensures.value, length-map items g.N.Exact.fraction, width, c.loop-state.invariant.stands.width)

pub row-requires-clause-room : goal.row-requires-clause-room
row-requires-clause-room g c =
    let first = ap length (drop_map vector_of c.args.states.now c.loop-state.state-index c.state-item.result c.loop-state-test.true c.state-item.is) in
    omega (arith, c.loop-state.invariant.stands.room, first)

pub loop-state-preserved : goal.loop-state-preserved
loop-state-preserved g c =
    let value = g.N.Exact.fraction in
    let limit = unsigned_abs g.N.Exact.LIMIT in
    let l = c.loop-state in
    let orders = c.args.orders.now in
    let n = length orders + 1 in
    let p = program_given l.space.contents in
    let rest = drop (l.state-index + 1) (map vector_of c.args.states.now) in
    let row = map value c.write_state_row.new.row.items in
    let first = drop_map vector_of c.args.states.now l.state-index c.state-item.result c.loop-state-test.true c.state-item.is in
    let now : c.row.new.self ≡ record l.space { contents = given (with_row p row fraction_zero) } =
    c.row.ensures ∙ (λ i. record l.space { contents = given (with_row p (map value (c.as_slice.ensures.value i)) (c.zero.ensures i)) }) in
    record {
      rows =
          l.invariant.rows
          ∙ state_on (2 ^ 127 - 1) limit orders p (drop l.state-index (map vector_of c.args.states.now)) (vector_of c.state-item.result) rest row first c.in_ok-write_state_row.ensures.written
          ∙ ap (λ (w : Workspace). given_with (program_given w.contents) (length rest) (rows_steps (2 ^ 127 - 1) limit orders rest)) (sym now);
      stands = one_row_on l.space c.row.new.self n (length rest) row fraction_zero now (subst (IsOpen l.space n) (ap length first) l.invariant.stands);
      size = (ap (λ (w : Workspace). w.rows) now ∙ l.invariant.size.0, ap (λ (w : Workspace). w.columns) now ∙ l.invariant.size.1);
      row = omega (arith, l.invariant.row, c.write_state_row.ensures.capacity);
      kept = omega (arith, l.invariant.kept, c.write_state_row.ensures.capacity);
    }

pub returns-clause-given : goal.returns-clause-given
returns-clause-given g c =
    let limit = unsigned_abs g.N.Exact.LIMIT in
    let l = c.loop-state in
    let orders = c.args.orders.now in
    let p = program_given l.space.contents in
    ap (λ (k : ℕ). given_with (program_given c.args.space.now.contents) k (rows_steps (2 ^ 127 - 1) limit orders (map vector_of c.args.states.now))) (sym (length-map c.args.states.now vector_of))
    ∙ l.invariant.rows
    ∙ ap (λ (zs : List (List ℕ)). given_with p (length zs) (rows_steps (2 ^ 127 - 1) limit orders zs)) (drop_map_end vector_of c.args.states.now l.state-index c.loop-state-test.false)
    ∙ states_end (2 ^ 127 - 1) limit orders p
    ∙ sym (rows_end p) ∙ all_given l.space.contents l.invariant.stands.given
