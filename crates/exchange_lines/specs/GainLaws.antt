-- The laws of whole runs.
use Rattle.std.specs.Prelude.{List}
use Rattle.std.specs.List.{All}
use Rattle.command_text.specs.declared.command.Command.{Command}
use Rattle.command_text.specs.Within.{IsWithin}
use Rattle.exchange_core.specs.ExchangeState.{empty_exchange}
use Rattle.exchange_core.specs.Step.{step}
use Rattle.exchange_lines.specs.Moves.{AreMoves, Move, move}
use Rattle.exchange_lines.specs.GainRuns.{HouseGains, replies_by, state_by}

-- whatever commands come to an empty exchange
abbrev pub RunsGain : Type 0
RunsGain =
    (commands : List Command) → All IsWithin commands
    → HouseGains (state_by step empty_exchange commands).entries (replies_by step empty_exchange commands)

-- and whatever takes it further, batches that are cleared with outcomes from elsewhere among them
abbrev pub MovesGain : Type 0
MovesGain =
    (moves : List Move) → AreMoves empty_exchange moves
    → HouseGains (state_by move empty_exchange moves).entries (replies_by move empty_exchange moves)
