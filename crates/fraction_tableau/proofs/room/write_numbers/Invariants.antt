use Rattle.std.proofs.Common.{◌≡◌, ◌-◌, ◌≤◌, ◌++◌, vec_len, vec_capacity}
use Rattle.simplex_run.specs.Places.{numbers}
use Rattle.fraction_tableau.proofs.room.write_numbers.Given as goal

-- the numbers before i are there
abbrev pub invariant-loop-i : goal.invariant-loop-i
invariant-loop-i l = record {
  items : l.numbers.items ++ numbers l.i (l.count - l.i) ≡ numbers 0 l.count;
  len : vec_len l.numbers ≡ l.i;
  room : vec_capacity l.fn.numbers ≤ vec_capacity l.numbers;
}
