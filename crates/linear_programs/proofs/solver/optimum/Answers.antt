use Rattle.std.proofs.Common.{◌∙◌, sym, ap, arith, length, map}
use Rattle.fraction_tableau.proofs.Filling.{slice_written}
use Rattle.linear_programs.proofs.SolveSteps.{found_as}
use Rattle.linear_programs.proofs.solver.optimum.Goals as goal

pub returns : goal.returns
returns g c =
    let value = g.N.Exact.fraction in
    let was_x = ap length c.as_mut_slice.ensures.value in
    let was_y = ap length c.as_mut_slice-2.ensures.value in
    let was_reduced = ap length c.as_mut_slice-3.ensures.value in
    let x = slice_written c.write_solution.new.x c.args.x.items _ (sym c.as_mut_slice.ensures.len ∙ was_x) (omega (arith, c.write_solution.auto.x, was_x)) in
    let y = slice_written c.write_dual.new.y c.args.y.items _ (sym c.as_mut_slice-2.ensures.len ∙ was_y) (omega (arith, c.write_dual.auto.y, was_y)) in
    let reduced = slice_written c.write_reduced.new.reduced c.args.reduced.items _ (sym c.as_mut_slice-3.ensures.len ∙ was_reduced) (omega (arith, c.write_reduced.auto.reduced, was_reduced)) in
    found_as c.args.space.now.contents _ _ _ _ c.requires.found
    (ap (map value) x ∙ c.write_solution.ensures)
    (ap (map value) y ∙ c.write_dual.ensures)
    (ap (map value) reduced ∙ c.write_reduced.ensures)
    c.value-value.ensures
