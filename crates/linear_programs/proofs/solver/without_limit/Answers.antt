use Rattle.std.proofs.Common.{◌∙◌, sym, ap, arith, length, map}
use Rattle.fraction_tableau.proofs.Filling.{slice_written}
use Rattle.linear_programs.proofs.SolveSteps.{rising_as}
use Rattle.linear_programs.proofs.solver.without_limit.Goals as goal

pub returns : goal.returns
returns g c =
    let was = ap length c.as_mut_slice.ensures.value in
    let d = slice_written c.write_direction.new.d c.args.x.items _ (sym c.as_mut_slice.ensures.len ∙ was) (omega (arith, c.write_direction.auto.d, was)) in
    rising_as c.args.space.now.contents _ c.requires.rising (ap (map g.N.Exact.fraction) d ∙ c.write_direction.ensures)
