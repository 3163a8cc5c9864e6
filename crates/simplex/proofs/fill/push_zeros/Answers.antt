use Rattle.std.proofs.Common.{◌<◌, ◌∙◌, sym, map, length, replicate}
use Rattle.std.proofs.lemmas.List.{length-replicate}
use Rattle.simplex_run.specs.Places.{fraction_zero}
use Rattle.simplex_run.proofs.UnitRows.{at-zeros}
use Rattle.simplex.proofs.FillSteps.{pushed}
use Rattle.simplex.proofs.fill.push_zeros.Goals as goal

pub loop-i-preserved : goal.loop-i-preserved
loop-i-preserved g c =
    let zeros = replicate c.args.count fraction_zero in
    let low : c.loop-i._i < length zeros = rw length-replicate c.loop-i-test.true in
    pushed g.N.Exact.fraction c.loop-i.row.items c.push.new.self.items c.zero.result (map g.N.Exact.fraction c.args.row.now.items) zeros c.loop-i._i c.loop-i.invariant c.in_ok-push.ensures.items low
    (c.zero.ensures ∙ sym (at-zeros c.args.count c.loop-i._i))
