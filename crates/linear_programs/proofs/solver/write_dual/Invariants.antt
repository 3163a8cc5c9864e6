use Rattle.simplex.specs.Spaces.{y_of}
use Rattle.linear_programs.proofs.ReadSteps.{Written}
use Rattle.linear_programs.proofs.solver.write_dual.Given as goal

-- the entries before this one are written
abbrev pub invariant-loop-i : goal.invariant-loop-i
invariant-loop-i g l = Written g.N.Exact.fraction (y_of l.space.contents) l.i l.y
