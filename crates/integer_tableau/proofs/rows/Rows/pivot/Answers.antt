use Rattle.std.proofs.Common.{◌≡◌, ◌-◌, ◌<◌, ◌^◌, ◌∙◌, sym, ap, subst, arith, length, take, ℕ, ℤ, List}
use Rattle.std.proofs.lemmas.List.{length-take-le}
use Rattle.run_equivalence.specs.WholePivoting.{cut}
use Rattle.integer_tableau.specs.Rows.{IsEliminated, row_in, pivot_row_after, row_at}
use Rattle.integer_tableau.specs.Stored.{AreStored, rows_in}
use Rattle.integer_tableau.proofs.Eliminating.{left_row}
use Rattle.integer_tableau.proofs.Placed.{is_placed, pivoted_row, placed_column, placed_known, placed_stored, sizes_low}
use Rattle.integer_tableau.proofs.Standing.{rows_many}
use Rattle.integer_tableau.proofs.Turned.{row_wider}
use Rattle.integer_tableau.proofs.Widths.{known_at, rows_at}
use Rattle.integer_tableau.proofs.Written.{counts_then, other_row}
use Rattle.integer_tableau.proofs.rows.Rows.pivot.Goals as goal

pub place_pivot-a-requires : goal.place_pivot-a-requires
place_pivot-a-requires c =
    let g = c.requires.step in
    let w = c.args.width in
    let r = c.args.step.r in
    record {
      width = c.requires.widths.0;
      pivot = g.pivot;
      line = row_wider c.args.step.limit (2 ^ 127 - 1) w _ g.limit.1 (g.kept.rows.lines r g.pivot.row);
      stored = g.kept.rows.rows r (omega (arith, g.pivot.row, rows_many c.args.self.now));
    }

pub row-requires : goal.row-requires
row-requires c = omega (arith, c.requires.step.pivot.row, rows_many c.args.self.now, c.place_pivot-a.ensures.written.count.count)

pub eliminate_objective-requires : goal.eliminate_objective-requires
eliminate_objective-requires c =
    let g = c.requires.step in
    let still = c.place_pivot-a.ensures.written.count.width in
    record {
      widths = (omega (arith, c.requires.widths.0, still), c.requires.widths.1);
      line = g.kept.objective;
      pivot = placed_known c.row.result.now g.pivot g.kept.rows c.place_pivot-a.ensures g.limit (omega (arith, c.requires.widths.0, still, c.row.ensures.width)) c.row.ensures.row c.front_nonzero-count.ensures.places;
    }

pub eliminate_rows-requires : goal.eliminate_rows-requires
eliminate_rows-requires c =
    let g = c.requires.step in
    let s = c.place_pivot-a.new.self in
    let still = c.place_pivot-a.ensures.written.count.width in
    let count : length (take c.args.width c.args.room.now) ≡ c.args.width = length-take-le c.args.width c.args.room.now c.requires.room.0 in
    record {
      width = omega (arith, count, c.requires.widths.0, still);
      stored = subst (λ (n : ℕ). AreStored c.args.step.limit n s) (sym count) (placed_stored g.pivot g.kept.rows c.place_pivot-a.ensures);
      pivot = known_at count (placed_known c.row.result.now g.pivot g.kept.rows c.place_pivot-a.ensures g.limit (omega (arith, c.requires.widths.0, still, c.row.ensures.width)) c.row.ensures.row c.front_nonzero-count.ensures.places);
      places = g.places ∙ sym (placed_column g.pivot g.kept.rows c.place_pivot-a.ensures);
    }

pub returns : goal.returns
returns c =
    let w = c.args.width in
    let r = c.args.step.r in
    let limit = c.args.step.limit in
    let g = c.requires.step in
    let first = c.args.self.now in
    let s = c.place_pivot-a.new.self in
    let last = c.eliminate_rows.new.self in
    let told = c.place_pivot-a.ensures in
    let counts = counts_then first s last told.written.count c.eliminate_rows.ensures.count in
    let count : length (take w c.args.room.now) ≡ w = length-take-le w c.args.room.now c.requires.room.0 in
    let objective = c.eliminate_objective.ensures.eliminated c.if-not-eliminate_objective.false in
    let placed = is_placed g.pivot g.kept.rows told in
    record {
      pivoted = λ done.
          (let rows = rows_at count (c.eliminate_rows.ensures.eliminated done) in
          record {
            count = omega (arith, rows_many first, rows_many last, counts.count);
            pivot = ap (row_in w) rows.pivot ∙ told.line ∙ ap (λ (q : ℕ). pivot_row_after c.args.step.c q (cut (row_in w (row_at (rows_in first) r)))) told.denominator;
            rows = λ i low apart.
                (let same = other_row w r i first s told.written (λ e. apart (sym e)) in
                let there : i < length (rows_in s) = omega (arith, low, rows_many first, rows_many s, told.written.count.count) in
                pivoted_row g.pivot g.kept.rows told _ _ (subst (λ (z : List ℤ). IsEliminated limit c.args.step.c c.place_pivot-a.result.0 c.place_pivot-a.result.1 (row_in w (row_at (rows_in s) r)).numbers (row_in w z) (row_in w (row_at (rows_in last) i))) same (rows.rows i there apart)));
            objective = pivoted_row g.pivot g.kept.rows told _ _ objective;
          });
      kept = λ done.
          record {
            rows = (rows_at count (c.eliminate_rows.ensures.eliminated done)).stored;
            objective = record {
              line = left_row limit c.place_pivot-a.result.1 w c.args.step.c c.place_pivot-a.result.0 (row_in w (row_at (rows_in s) r)).numbers (row_in w c.args.objective.now.numbers.items) (row_in w c.eliminate_objective.new.objective.numbers.items) (sizes_low g.pivot g.kept.rows told) placed.line.count placed.above g.kept.objective.line objective;
              size = c.eliminate_objective.ensures.size c.if-not-eliminate_objective.false;
            };
          };
      shape = (counts, c.eliminate_objective.ensures.places);
    }
