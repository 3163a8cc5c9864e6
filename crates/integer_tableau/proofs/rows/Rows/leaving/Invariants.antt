use Rattle.std.proofs.Common.{◌+◌, ◌<◌}
use Rattle.std.specs.Prelude.{IfSome}
use Rattle.std.specs.Option.{option_map}
use Rattle.integer_tableau.specs.Choices.{as_ratio, entry_of}
use Rattle.integer_tableau.specs.Rows.{beside_basics, integer_rows_in}
use Rattle.integer_tableau.specs.Stored.{rows_in}
use Rattle.integer_tableau.proofs.Choosing.{Chooses}
use Rattle.integer_tableau.proofs.Listed.{next_row}
use Rattle.integer_tableau.proofs.rows.Rows.leaving.Given as goal

-- the choice from the next row on, with the best so far, is the choice asked for
abbrev pub invariant-loop-place : goal.invariant-loop-place
invariant-loop-place l =
    record {
      above : IfSome l.best (λ q. 0 < entry_of q.ratio);
      chooses : Chooses l.columns l.c (beside_basics l.basics (integer_rows_in (l.columns + 1) (rows_in l.self))) (next_row l.places l.place-index (rows_in l.self)) (option_map as_ratio l.best);
    }
