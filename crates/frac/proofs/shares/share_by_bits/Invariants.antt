use Rattle.std.proofs.Common.{◌≡◌, ◌+◌, ◌*◌, ◌/◌, ◌^◌, ◌<◌, ◌≤◌}
use Rattle.frac.proofs.shares.share_by_bits.Given as goal

-- the share of the bits of h that are done
abbrev pub invariant-loop-bits : goal.invariant-loop-bits
invariant-loop-bits l = record {
  within : l.bits ≤ 127;
  rest : l.part.rest < l.d;
  value : l.part.quotient * l.d + l.part.rest ≡ (l.number.quotient * l.d + l.number.rest) * (l.h / 2 ^ l.bits);
}

abbrev pub decreases-loop-bits : goal.decreases-loop-bits
decreases-loop-bits l = l.bits
