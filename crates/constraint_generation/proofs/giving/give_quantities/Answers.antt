use Rattle.std.proofs.Common.{ℕ, ◌≡◌, ◌+◌, ◌-◌, ◌∙◌, suc, drop, arith, ap, sym, subst, refl, length, map, unsigned_abs}
use Rattle.std.proofs.lemmas.Result.{err_from_is_err_and}
use Rattle.fraction_tableau.specs.Programs.{with_row}
use Rattle.simplex_run.specs.Places.{unit_row}
use Rattle.simplex.specs.Spaces.{Workspace, given, program_given}
use Rattle.master_program.specs.Master.{map_steps, quantity_steps}
use Rattle.pricing_oracle.specs.Programs.{IsOpen}
use Rattle.pricing_oracle.proofs.GivenRows.{rows_end}
use Rattle.pricing_oracle.proofs.GivenSteps.{all_given, one_row_on}
use Rattle.constraint_generation.specs.Parts.{units_given}
use Rattle.constraint_generation.proofs.GivenMaster.{unit_on, unit_stops, units_end}
use Rattle.constraint_generation.proofs.MovedOne.{unit_width}
use Rattle.constraint_generation.proofs.giving.give_quantities.Goals as goal

pub loop-i-init : goal.loop-i-init
loop-i-init g c =
    let orders = c.args.orders.now in
    let count : length orders ≡ length orders - 0 = omega arith in
    record {
      rows = refl;
      stands = subst (IsOpen c.args.space.now (length orders + 1)) count c.requires.program;
      size = (refl, refl);
      unit = c.write_unit_row.ensures.row;
      row = omega (arith, c.requires.row, c.write_unit_row.ensures.capacity);
      kept = c.write_unit_row.ensures.capacity;
    }

pub returns-in_err-quantity-clause-given : goal.returns-in_err-quantity-clause-given
returns-in_err-quantity-clause-given g c =
    let q = err_from_is_err_and c.from_residual.result c.from_residual.ensures.1 in
    let l = c.loop-i in
    let orders = c.args.orders.now in
    rw (q.1, q.2)
    (l.invariant.rows
    ∙ unit_stops (length orders + 1) l.i (program_given l.space.contents) (quantity_steps (unsigned_abs g.N.Exact.LIMIT)) orders c.index-orders-i.result c.in_err-quantity.field-0.0 c.loop-i-test.true c.index-orders-i.is (sym c.in_err-quantity.ensures.quantity))

pub row-requires-clause-width : goal.row-requires-clause-width
row-requires-clause-width g c =
    let l = c.loop-i in
    let n = length c.args.orders.now + 1 in
    omega (arith, ap length c.as_slice.ensures.value, unit_width g.N.Exact.fraction l.row.items n l.i l.invariant.unit, l.invariant.stands.width)

pub move_one-requires-clause-place : goal.move_one-requires-clause-place
move_one-requires-clause-place g c =
    let l = c.loop-i in
    let n = length c.args.orders.now + 1 in
    omega (arith, unit_width g.N.Exact.fraction l.row.items n l.i l.invariant.unit, c.loop-i-test.true)

pub move_one-requires-clause-unit : goal.move_one-requires-clause-unit
move_one-requires-clause-unit g c =
    let l = c.loop-i in
    let n = length c.args.orders.now + 1 in
    l.invariant.unit ∙ ap (λ (m : ℕ). unit_row m l.i) (sym (unit_width g.N.Exact.fraction l.row.items n l.i l.invariant.unit))

pub loop-i-preserved : goal.loop-i-preserved
loop-i-preserved g c =
    let value = g.N.Exact.fraction in
    let f = quantity_steps (unsigned_abs g.N.Exact.LIMIT) in
    let l = c.loop-i in
    let orders = c.args.orders.now in
    let n = length orders + 1 in
    let p = program_given l.space.contents in
    let y = value c.in_ok-quantity.quantity in
    let row_is : map value c.as_slice.result.now ≡ unit_row n l.i = ap (map value) c.as_slice.ensures.value ∙ l.invariant.unit in
    let now : c.row.new.self ≡ record l.space { contents = given (with_row p (unit_row n l.i) y) } =
    c.row.ensures ∙ (λ j. record l.space { contents = given (with_row p (row_is j) y) }) in
    let count : length orders - l.i ≡ suc (length orders - (l.i + 1)) = omega (arith, c.loop-i-test.true) in
    record {
      rows =
          l.invariant.rows
          ∙ unit_on n l.i p f orders c.index-orders-i.result y c.loop-i-test.true c.index-orders-i.is (sym c.in_ok-quantity.ensures.quantity)
          ∙ ap (λ (w : Workspace). units_given n (l.i + 1) (program_given w.contents) (map_steps f (drop (l.i + 1) orders))) (sym now);
      stands = one_row_on l.space c.row.new.self n (length orders - (l.i + 1)) (unit_row n l.i) y now (subst (IsOpen l.space n) count l.invariant.stands);
      size = (ap (λ (w : Workspace). w.rows) now ∙ l.invariant.size.0, ap (λ (w : Workspace). w.columns) now ∙ l.invariant.size.1);
      unit = c.move_one.ensures.row ∙ ap (λ (m : ℕ). unit_row m (l.i + 1)) (unit_width value l.row.items n l.i l.invariant.unit);
      row = omega (arith, l.invariant.row, c.move_one.ensures.capacity);
      kept = omega (arith, l.invariant.kept, c.move_one.ensures.capacity);
    }

pub returns-clause-given : goal.returns-clause-given
returns-clause-given g c =
    let l = c.loop-i in
    let orders = c.args.orders.now in
    let p = program_given l.space.contents in
    l.invariant.rows
    ∙ units_end (length orders + 1) l.i p (quantity_steps (unsigned_abs g.N.Exact.LIMIT)) orders (omega (arith, c.loop-i-test.false))
    ∙ sym (rows_end p) ∙ all_given l.space.contents l.invariant.stands.given
