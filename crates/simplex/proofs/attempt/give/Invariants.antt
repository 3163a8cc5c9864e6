use Rattle.std.proofs.Common.{◌≡◌, ◌+◌, length, map, take}
use Rattle.fraction_tableau.specs.Programs.{program_of}
use Rattle.fraction_tableau.specs.Tables.{program_in as program_in_table, IsGiven, SameRoom}
use Rattle.fraction_tableau.specs.SparseRows.{lists_of}
use Rattle.simplex.proofs.attempt.give.Given as goal

-- the rows before i are given
abbrev pub invariant-loop-i : goal.invariant-loop-i
invariant-loop-i g l =
    let value = g.N.Exact.fraction in
    record {
      program :
          program_in_table value l.table
          ≡ program_of (length l.program.costs.items) (take l.i (lists_of value l.program)) (map value l.program.costs.items);
      given : IsGiven value l.table;
      room : SameRoom l.fn.table l.table;
      line : length l.line ≡ l.columns + 1;
    }
