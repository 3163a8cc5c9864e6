use Rattle.std.proofs.Common.{◌≡◌, length, arith}
use Rattle.settlement.proofs.Settlements.{vector, not_below_zero, not_all_zero}
use Rattle.settlement.proofs.payouts.settlement_at.Goals as goal

pub invariant_of-result : goal.invariant_of-result
invariant_of-result c =
    let end : c.loop-i.i ≡ length c.args.prices.now = omega (arith, c.loop-i-test.false, c.loop-i.auto.i-end) in
    record {
      count_in_range = (omega (arith, c.requires.0), omega (arith, c.requires.1));
      nine_entries = c.loop-i.invariant.nine;
      zero_past_count = λ k le. c.loop-i.invariant.zeros k (omega arith);
      not_below_zero = not_below_zero c.args.prices.now c.loop-i.entries c.loop-i.i end c.loop-i.invariant;
      not_all_zero = not_all_zero c.args.prices.now c.loop-i.entries c.loop-i.i end c.loop-i.invariant;
    }

pub returns-clause-vector : goal.returns-clause-vector
returns-clause-vector c =
    let end : c.loop-i.i ≡ length c.args.prices.now = omega (arith, c.loop-i-test.false, c.loop-i.auto.i-end) in
    vector c.args.prices.now c.loop-i.entries c.loop-i.i end c.loop-i.invariant
