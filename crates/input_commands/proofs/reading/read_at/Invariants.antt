use Rattle.std.proofs.Common.{◌≡◌, map, take, All}
use Rattle.command_text.specs.Lines.{line_at}
use Rattle.command_text.specs.Within.{IsLineWithin}
use Rattle.input_commands.proofs.reading.read_at.Given as goal

abbrev pub invariant-loop-place : goal.invariant-loop-place
invariant-loop-place l = record {
  lines : l.lines.items ≡ map (line_at l.bytes) (take l.place-index l.places);
  within : All IsLineWithin l.lines.items;
}
