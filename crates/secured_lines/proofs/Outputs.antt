-- What is written for an input keeps what is promised of it.
use Rattle.exchange_lines.specs.LineSteps.{input_lines}
use Rattle.proposal_lines.proofs.Telling.{empty_is_sound}
use Rattle.secured_lines.specs.Promises.{OutputsTellSecured}
use Rattle.secured_lines.specs.SecuredState.{empty_secured}
use Rattle.secured_lines.proofs.ClosedBest.{best_of_closed_is_used}
use Rattle.secured_lines.proofs.Lowering.{secured_lowers_nothing}
use Rattle.secured_lines.proofs.Money.{served_add_up}
use Rattle.secured_lines.proofs.Needs.{served_needs_are_enough}
use Rattle.secured_lines.proofs.StayingSafe.{served_stay_safe}
use Rattle.secured_lines.proofs.Telling.{lines_are_told}

pub outputs_tell_secured : OutputsTellSecured
outputs_tell_secured input =
    let told = lines_are_told input in
    record {
      told = told;
      safe = λ front back is. served_stay_safe front;
      money = λ front back is. served_add_up front;
      needs = λ front back is. served_needs_are_enough front;
      closed = best_of_closed_is_used empty_secured (input_lines input) told.answers empty_is_sound told.to_lines;
      lowers = secured_lowers_nothing;
    }
