use Rattle.std.proofs.Common.{map, drop}
use Rattle.command_text.specs.Lines.{line_at}
use Rattle.demo_run.proofs.Progress.{HasReplied}
use Rattle.demo_run.proofs.run.tally_replies.Given as goal

abbrev pub invariant-loop-line : goal.invariant-loop-line
invariant-loop-line l =
    let lines = map (line_at l.input) l.lines in
    HasReplied l.fn.exchange l.exchange lines (drop l.line-index lines) l.tally
