use Rattle.std.proofs.Common.{◌≡◌, ◌*◌, ◌≤◌, drop, ◌+ℤ◌, unsigned_abs}
use Rattle.arithmetic.specs.Sums.{total}
use Rattle.form.specs.Payoff.{option_of}
use Rattle.account_need.specs.Rounded.{part_owed}
use Rattle.account_need.proofs.held.sum_of.Given as goal

-- the sum so far, and that of the positions that are left
abbrev pub invariant-loop-position : goal.invariant-loop-position
invariant-loop-position l =
    let part = part_owed (option_of l.form) in
    record {
      left : total part l.positions ≡ l.total +ℤ total part (drop l.position-index l.positions);
      small : unsigned_abs l.total ≤ l.position-index * 4294967296000000;
    }
