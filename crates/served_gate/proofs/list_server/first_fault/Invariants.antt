use Rattle.std.proofs.Common.{◌≡◌, false, length}
use Rattle.served_gate.proofs.list_server.first_fault.Given as goal

abbrev pub invariant-loop-place : goal.invariant-loop-place
invariant-loop-place g l =
    let V = g.V.Server in
    record {
      fresh : V.spent l.server ≡ false;
      same : length (V.bodies l.server) ≡ l.gate.state.served;
    }
