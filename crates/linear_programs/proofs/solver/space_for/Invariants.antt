use Rattle.std.proofs.Common.{◌≡◌, ◌*◌, drop}
use Rattle.linear_programs.specs.Programs.{as_program}
use Rattle.simplex.specs.Spaces.{given}
use Rattle.linear_programs.proofs.SolveSteps.{front_of_program}
use Rattle.linear_programs.proofs.solver.space_for.Given as goal

-- the rows before i are given, and `left` has the coefficients of the rest
abbrev pub invariant-loop-i : goal.invariant-loop-i
invariant-loop-i g l = record {
  contents : l.space.contents ≡ given (front_of_program (as_program g.N.Exact.fraction l.program) l.i);
  room : l.space.rows ≡ l.program.m;
  left : l.left ≡ drop (l.i * l.program.n) l.program.a.items;
}
