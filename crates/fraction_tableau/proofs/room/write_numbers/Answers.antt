use Rattle.std.proofs.Common.{◌+◌, ◌-◌, ◌++◌, ◌∙◌, ap, arith, List, ℕ}
use Rattle.simplex_run.specs.Places.{numbers}
use Rattle.fraction_tableau.proofs.Filling.{numbers_more, numbers_end}
use Rattle.fraction_tableau.proofs.room.write_numbers.Goals as goal

pub loop-i-preserved : goal.loop-i-preserved
loop-i-preserved c = record {
  items =
      ap (λ (l : List ℕ). l ++ numbers (c.loop-i.i + 1) (c.args.count - (c.loop-i.i + 1))) c.push_within.ensures.items
      ∙ numbers_more c.loop-i.numbers.items _ c.loop-i.i c.args.count c.loop-i-test.true c.loop-i.invariant.items;
  len = omega (arith, c.push_within.ensures.len, c.loop-i.invariant.len);
  room = omega (arith, c.push_within.ensures.capacity, c.loop-i.invariant.room);
}

pub returns-clause-items : goal.returns-clause-items
returns-clause-items c = numbers_end c.loop-i.numbers.items _ c.loop-i.i c.args.count (omega (arith, c.loop-i-test.false)) c.loop-i.invariant.items
