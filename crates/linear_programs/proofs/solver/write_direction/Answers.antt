use Rattle.std.proofs.Common.{arith}
use Rattle.simplex.specs.Spaces.{direction_of}
use Rattle.linear_programs.proofs.ReadSteps.{written_more, written_all}
use Rattle.linear_programs.proofs.solver.write_direction.Goals as goal

pub loop-j-preserved : goal.loop-j-preserved
loop-j-preserved g c =
    written_more g.N.Exact.fraction (direction_of c.args.space.now.contents) c.loop-j.j c.loop-j.d c.direction.result (omega arith) (omega (arith, c.requires, c.loop-j.auto.d)) c.direction.ensures c.loop-j.invariant

pub returns : goal.returns
returns g c =
    written_all g.N.Exact.fraction (direction_of c.args.space.now.contents) c.loop-j.j c.loop-j.d (omega arith) (omega (arith, c.requires, c.loop-j.auto.d)) c.loop-j.invariant
