use Rattle.std.proofs.Common.{◌≡◌, ◌<◌, ◌≤◌, ◌∙◌, ap, arith, length, map, take, ℕ}
use Rattle.std.specs.Prelude.{slice_index_or}
use Rattle.std.proofs.lemmas.List.{take_all}
use Rattle.fraction_tableau.specs.Programs.{program_of}
use Rattle.fraction_tableau.specs.Tables.{program_in as program_in_table}
use Rattle.fraction_tableau.specs.SparseRows.{lists_of}
use Rattle.simplex.proofs.SpaceSteps.{one_given, rows_listed}
use Rattle.simplex.proofs.attempt.give.Goals as goal

pub loop-i-preserved : goal.loop-i-preserved
loop-i-preserved g c =
    let value = g.N.Exact.fraction in
    let s = c.args.program.now in
    let n = length s.costs.items in
    let i = c.loop-i.i in
    let line = c.write_row.new.row in
    let b = c.index-line-columns.result in
    let inv = c.loop-i.invariant in
    let cols : c.variables-columns.result ≡ n = c.variables-columns.ensures in
    let low : i < length (lists_of value s) = omega (arith, rows_listed value s, c.loop-i-test.true, c.rows-i-end.ensures) in
    let wide : n < length line = omega (arith, inv.line, c.write_row.auto.row, cols) in
    let last = c.index-line-columns.is ∙ ap (λ (k : ℕ). slice_index_or line k b) cols in
    record {
      program = one_given value n (lists_of value s) (map value s.costs.items) (program_in_table value c.loop-i.table) _ line _ b i inv.program c.row.ensures.program low c.write_row.ensures (ap (λ (k : ℕ). take k line) cols) wide last;
      given = c.row.ensures.given;
      room = record { rows = c.row.ensures.room.rows ∙ inv.room.rows; width = c.row.ensures.room.width ∙ inv.room.width };
      line = omega (arith, inv.line, c.write_row.auto.row);
    }

pub returns-clause-program : goal.returns-clause-program
returns-clause-program g c =
    let value = g.N.Exact.fraction in
    let s = c.args.program.now in
    let high : length (lists_of value s) ≤ c.loop-i.i = omega (arith, rows_listed value s, c.loop-i-test.false, c.rows-i-end.ensures) in
    c.loop-i.invariant.program ∙ ap (λ l. program_of (length s.costs.items) l (map value s.costs.items)) (take_all c.loop-i.i (lists_of value s) high)
