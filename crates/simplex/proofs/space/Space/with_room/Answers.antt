use Rattle.std.proofs.Common.{arith}
use Rattle.simplex.proofs.SpaceSteps.{empty_is_not_given}
use Rattle.simplex.proofs.space.Space.with_room.Goals as goal

pub invariant_of-result : goal.invariant_of-result
invariant_of-result g c =
    record {
      program = c.in_ok-program.ensures;
      costs = λ e. absurd (empty_is_not_given e);
      ends = λ e. absurd (empty_is_not_given e);
      line = omega (arith, c.in_ok-line.ensures, c.in_ok-line.line.ok);
      width = c.in_ok-table.ensures.width;
      room = c.in_ok-table.ensures.rows;
      stage = tt;
    }
