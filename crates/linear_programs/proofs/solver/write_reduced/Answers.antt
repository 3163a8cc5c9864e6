use Rattle.std.proofs.Common.{arith}
use Rattle.simplex.specs.Spaces.{reduced_of}
use Rattle.linear_programs.proofs.ReadSteps.{written_more, written_all}
use Rattle.linear_programs.proofs.solver.write_reduced.Goals as goal

pub loop-j-preserved : goal.loop-j-preserved
loop-j-preserved g c =
    written_more g.N.Exact.fraction (reduced_of c.args.space.now.contents) c.loop-j.j c.loop-j.reduced c.reduced.result (omega arith) (omega (arith, c.requires.width, c.loop-j.auto.reduced)) c.reduced.ensures c.loop-j.invariant

pub returns : goal.returns
returns g c =
    written_all g.N.Exact.fraction (reduced_of c.args.space.now.contents) c.loop-j.j c.loop-j.reduced (omega arith) (omega (arith, c.requires.width, c.loop-j.auto.reduced)) c.loop-j.invariant
