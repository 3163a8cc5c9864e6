use Rattle.std.proofs.Common.{arith}
use Rattle.simplex_run.specs.Places.{fraction_zero}
use Rattle.pricing_oracle.proofs.WrittenRows.{one_more}
use Rattle.pricing_oracle.proofs.rows.push_zeros.Goals as goal

pub loop-i-preserved : goal.loop-i-preserved
loop-i-preserved g c =
    let l = c.loop-i in
    record {
      added = one_more g.N.Exact.fraction fraction_zero c.args.row.now.items l.row.items c.push_within.new.items.items c.zero.result l._i l.invariant.added c.push_within.ensures.items c.zero.ensures;
      len = omega (arith, l.invariant.len, c.push_within.ensures.len);
      room = omega (arith, l.invariant.room, c.push_within.ensures.capacity);
    }
