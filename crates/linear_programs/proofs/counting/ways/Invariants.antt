use Rattle.std.proofs.Common.{◌≡◌, ◌+◌, ◌^◌, ◌<◌}
use Rattle.simplex_run.specs.Choose.{choose}
use Rattle.linear_programs.proofs.counting.ways.Given as goal

-- the number of ways to choose k, which is not too great
abbrev pub invariant-loop-k : goal.invariant-loop-k
invariant-loop-k l = record {
  number : l.number ≡ choose (l.others + l.k) l.k;
  low : l.number < 2 ^ 63;
}
