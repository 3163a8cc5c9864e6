use Rattle.std.proofs.Common.{arith}
use Rattle.simplex.specs.Spaces.{y_of}
use Rattle.linear_programs.proofs.ReadSteps.{written_more, written_all}
use Rattle.linear_programs.proofs.solver.write_dual.Goals as goal

pub loop-i-preserved : goal.loop-i-preserved
loop-i-preserved g c =
    written_more g.N.Exact.fraction (y_of c.args.space.now.contents) c.loop-i.i c.loop-i.y c.y.result (omega arith) (omega (arith, c.requires.width, c.loop-i.auto.y)) c.y.ensures c.loop-i.invariant

pub returns : goal.returns
returns g c =
    written_all g.N.Exact.fraction (y_of c.args.space.now.contents) c.loop-i.i c.loop-i.y (omega arith) (omega (arith, c.requires.width, c.loop-i.auto.y)) c.loop-i.invariant
