use Rattle.std.proofs.Common.{◌≡◌, length}
use Rattle.integer_tableau.specs.Stored.{rows_in}
use Rattle.integer_tableau.proofs.Listed.{next_row}
use Rattle.integer_tableau.proofs.Written.{AreDone}
use Rattle.integer_tableau.proofs.rows.Rows.eliminate_rows.Given as goal

-- the rows before the next one are done
abbrev pub invariant-loop-place : goal.invariant-loop-place
invariant-loop-place l =
    record {
      room : length l.room ≡ length l.fn.room;
      rows : AreDone l.known (length l.fn.room) (next_row l.column_places l.place-index (rows_in l.fn.self)) l.fn.self l.self;
    }
