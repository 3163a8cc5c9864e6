use Rattle.std.proofs.Common.{◌≡◌, ◌-◌, ◌≤◌, length, take}
use Rattle.std.specs.Io.KnownBytes.{Appends}
use Rattle.byte_streams.proofs.sink.write_all.Given as goal

abbrev pub invariant-loop-sent : goal.invariant-loop-sent
invariant-loop-sent g l =
    let K = g.K.Sink in
    record {
      short : l.sent ≤ length l.piece;
      wrote : Appends (K.written l.fn.sink) (K.written l.sink) (take l.sent l.piece);
      calm : K.faults l.sink ≡ K.faults l.fn.sink;
    }

abbrev pub decreases-loop-sent : goal.decreases-loop-sent
decreases-loop-sent g l = length l.piece - l.sent
