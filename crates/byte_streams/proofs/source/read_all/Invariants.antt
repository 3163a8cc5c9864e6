use Rattle.std.proofs.Common.{◌≡◌, ◌+◌, ◌-◌, ◌≤◌, ◌<◌, length, IfSome}
use Rattle.std.specs.Io.KnownBytes.{Consumes}
use Rattle.byte_streams.specs.Faults.{raised_by}
use Rattle.byte_streams.proofs.source.read_all.Given as goal

abbrev pub invariant-loop-buf : goal.invariant-loop-buf
invariant-loop-buf g l =
    let S = g.S.Source in
    record {
      gave : Consumes (S.left l.fn.source) (S.left l.source) l.bytes.items;
      calm : S.faults l.source ≡ S.faults l.fn.source;
      taken : raised_by (S.taken l.fn.source) (length l.bytes.items) ≤ S.taken l.source;
      few : S.taken l.source ≤ S.taken l.fn.source + length l.bytes.items;
      silent : 0 < length l.bytes.items → IfSome (S.last_read l.source) (λ last. last.written ≡ g.K.Sink.written l.sink);
    }

abbrev pub decreases-loop-buf : goal.decreases-loop-buf
decreases-loop-buf g l = l.limit + 1 - length l.bytes.items
