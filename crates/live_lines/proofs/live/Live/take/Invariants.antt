use Rattle.std.proofs.Common.{◌≡◌, length, ◌-◌, ◌≤◌, take}
use Rattle.live_lines.specs.Turns.{Answered}
use Rattle.live_lines.proofs.live.Live.take.Given as goal

abbrev pub invariant-loop-start : goal.invariant-loop-start
invariant-loop-start g l = record {
  low : l.start ≤ length l.piece;
  answered : Answered g.A.LineAnswers.answers l.fn.self.answers l.fn.self.line l.self.answers l.self.line (g.K.Sink.written l.fn.sink) (g.K.Sink.written l.sink) (take l.start l.piece) l.replies.items;
  calm : g.K.Sink.faults l.sink ≡ g.K.Sink.faults l.fn.sink;
}

abbrev pub decreases-loop-start : goal.decreases-loop-start
decreases-loop-start g l = length l.piece - l.start
