use Rattle.std.proofs.Common.{arith, refl}
use Rattle.frac.proofs.ShareSteps.{double_fits, double_is, added_fits, added_is, share_quotient, share_rest, bit_off}
use Rattle.frac.proofs.shares.share_by_bits.Goals as goal

pub sum-doubled-requires-clause-sum_fits : goal.sum-doubled-requires-clause-sum_fits
sum-doubled-requires-clause-sum_fits c =
    double_fits _ c.args.h c.loop-bits.bits _ c.loop-bits.part.rest c.args.d _ (omega arith) c.loop-bits-test.true c.loop-bits.invariant.value c.requires.share_fits

pub sum-part-requires-clause-sum_fits : goal.sum-part-requires-clause-sum_fits
sum-part-requires-clause-sum_fits c =
    added_fits _ c.args.h c.loop-bits.bits _ _ _ c.sum-doubled.result.rest _ c.args.number.rest c.args.d _
    (omega arith) c.loop-bits-test.true c.loop-bits.invariant.value c.sum-doubled.ensures.value refl refl c.if-h-bits-eq1.true c.requires.share_fits

pub loop-bits-preserved-then-h-bits-eq1 : goal.loop-bits-preserved-then-h-bits-eq1
loop-bits-preserved-then-h-bits-eq1 c = record {
  within = omega arith;
  rest = c.sum-part.ensures.rest;
  value = added_is _ c.args.h c.loop-bits.bits _ _ _ c.loop-bits-test.true c.loop-bits.invariant.value c.sum-doubled.ensures.value c.sum-part.ensures.value c.if-h-bits-eq1.true;
}

pub loop-bits-preserved : goal.loop-bits-preserved
loop-bits-preserved c = record {
  within = omega arith;
  rest = c.sum-doubled.ensures.rest;
  value = double_is _ c.args.h c.loop-bits.bits _ _ c.loop-bits-test.true c.loop-bits.invariant.value c.sum-doubled.ensures.value (bit_off _ c.if-h-bits-eq1.false);
}

pub returns-clause-quotient : goal.returns-clause-quotient
returns-clause-quotient c = share_quotient _ c.args.h c.loop-bits.bits _ c.loop-bits.part.rest c.args.d (omega arith) c.loop-bits.invariant.rest c.loop-bits.invariant.value

pub returns-clause-rest : goal.returns-clause-rest
returns-clause-rest c = share_rest _ c.args.h c.loop-bits.bits c.loop-bits.part.quotient _ c.args.d (omega arith) c.loop-bits.invariant.rest c.loop-bits.invariant.value
