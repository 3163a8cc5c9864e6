use Rattle.std.proofs.Common.{◌≡◌, ◌+◌, [], length, slice_index_or, unsigned_abs}
use Rattle.simplex_run.specs.Table.{with_right}
use Rattle.fraction_tableau.specs.Lists.{front}
use Rattle.fraction_tableau.proofs.ArenaSteps.{Cleared}
use Rattle.fraction_tableau.proofs.rows.eliminate_rows.Given as goal

-- the rows before i are done, and the rest are as they were
abbrev pub invariant-loop-i : goal.invariant-loop-i
invariant-loop-i g l =
    let value = front g.N.Exact.fraction (length l.labels + 1) in
    record {
      count : length l.rows.rows ≡ length l.fn.rows.rows;
      width : l.rows.width ≡ l.fn.rows.width;
      spare : l.rows.spare ≡ l.fn.rows.spare;
      pivot : slice_index_or l.rows.rows l.r [] ≡ slice_index_or l.fn.rows.rows l.r [];
      eliminated :
          Cleared value (unsigned_abs g.N.Exact.LIMIT) l.c (with_right l.columns l.labels) l.r (value (slice_index_or l.fn.rows.rows l.r [])) l.fn.rows.rows l.i l.rows.rows;
    }
