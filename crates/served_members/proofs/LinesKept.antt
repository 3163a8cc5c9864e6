-- What is promised of lines of any kind, wherever they are parted.
use Rattle.std.proofs.Common.{List, []}
use Rattle.exchange_lines.specs.LineSteps.{InputLine, input_lines}
use Rattle.proposal_lines.proofs.Telling.{empty_is_sound}
use Rattle.secured_lines.specs.Laws.{IsGuarded, state_by_lines}
use Rattle.secured_lines.specs.SecuredState.{empty_secured}
use Rattle.secured_lines.proofs.Outputs.{outputs_tell_secured}
use Rattle.secured_lines.proofs.StandingStill.{closed_markets_stand_still}
use Rattle.secured_lines.proofs.StayingSafe.{secured_can_pay, served_stay_safe, traders_can_pay}
use Rattle.secured_lines.proofs.Telling.{lines_sound}
use Rattle.served_members.specs.Lines.{AreKeptThroughout, OutputsTellServed}
use Rattle.served_members.proofs.Questions.{questions_are_told}

lines_are_kept : (lines : List InputLine) → AreKeptThroughout lines
lines_are_kept lines front later parted =
    let state = state_by_lines empty_secured front in
    let sound = lines_sound empty_secured front empty_is_sound in
    let guarded : IsGuarded state = record { sound = sound; safe = served_stay_safe front } in
    record {
      asks = λ number body. questions_are_told number state body sound;
      closed = λ market meanwhile rest is shut between. closed_markets_stand_still market state meanwhile sound shut between;
      paying = secured_can_pay state later guarded;
      traders = traders_can_pay state [] guarded;
    }

pub outputs_tell_served : OutputsTellServed
outputs_tell_served input = record { secured = outputs_tell_secured input; throughout = lines_are_kept (input_lines input) }
