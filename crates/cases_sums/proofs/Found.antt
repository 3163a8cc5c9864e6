-- What a run that answers true leaves.
use Rattle.std.proofs.Common.{◌≡◌, true, sym, ◌∙◌}
use Rattle.std.specs.Prelude.{Result, Ok, Bool}
use Rattle.simplex_run.specs.Program.{LinearProgram}
use Rattle.simplex_run.specs.Ending.{Ending}
use Rattle.simplex_run.specs.Run.{Optimum}
use Rattle.simplex_run.specs.Optimum.{IsAsSaid}
use Rattle.simplex.specs.declared.stop.RunStop.{RunStop}
use Rattle.simplex.specs.Spaces.{Contents, IsFound, answer_of, contents_after}
use Rattle.linear_programs.proofs.SolveSteps.{has_optimum}

pub found_if : (p : LinearProgram) (E : Ending Optimum) (c : Contents) (r : Result Bool RunStop) → IsAsSaid p E → r ≡ answer_of E → c ≡ contents_after E → r ≡ Ok true → IsFound c
found_if p E c r said answer contents is_true = (has_optimum p E c said (sym is_true ∙ answer) contents).is_found
