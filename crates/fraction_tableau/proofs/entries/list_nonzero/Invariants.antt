use Rattle.std.proofs.Common.{◌≡◌, ◌≤◌, ◌++◌, map, drop, vec_len, vec_capacity}
use Rattle.fraction_tableau.specs.Nonzero.{nonzero_from, nonzero_places}
use Rattle.fraction_tableau.proofs.entries.list_nonzero.Given as goal

-- the places before j are there
abbrev pub invariant-loop-j : goal.invariant-loop-j
invariant-loop-j g l = record {
  places :
      l.places.items ++ nonzero_from l.j (drop l.j (map g.N.Exact.fraction l.row)) ≡ nonzero_places (map g.N.Exact.fraction l.row);
  few : vec_len l.places ≤ l.j;
  room : vec_capacity l.fn.places ≤ vec_capacity l.places;
}
