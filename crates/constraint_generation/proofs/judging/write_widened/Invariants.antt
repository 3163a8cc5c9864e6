use Rattle.std.specs.Prelude.{vec_capacity, vec_len}
use Rattle.std.proofs.Common.{◌≡◌, ◌≤◌, ◌++◌, drop, map}
use Rattle.frac.specs.Value.{fraction_of}
use Rattle.constraint_generation.proofs.judging.write_widened.Given as goal

-- those that are left, behind those that were widened, are all
abbrev pub invariant-loop-number : goal.invariant-loop-number
invariant-loop-number g l = record {
  widened : map fraction_of l.wide.items ++ map g.N.Exact.fraction (drop l.number-index l.numbers) ≡ map g.N.Exact.fraction l.numbers;
  len : vec_len l.wide ≡ l.number-index;
  room : vec_capacity l.fn.wide ≤ vec_capacity l.wide;
}
