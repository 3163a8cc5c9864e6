use Rattle.simplex.specs.Spaces.{reduced_of}
use Rattle.linear_programs.proofs.ReadSteps.{Written}
use Rattle.linear_programs.proofs.solver.write_reduced.Given as goal

-- the entries before this one are written
abbrev pub invariant-loop-j : goal.invariant-loop-j
invariant-loop-j g l = Written g.N.Exact.fraction (reduced_of l.space.contents) l.j l.reduced
