use Rattle.std.proofs.Common.{◌≡◌, ◌<◌, ◌≤◌, ◌∙◌, [], sym, ap, length, arith}
use Rattle.simplex_run.specs.Places.{unit_row, at}
use Rattle.simplex_run.proofs.UnitRows.{length-unit, at-own, at-other}
use Rattle.simplex.proofs.FillSteps.{pushed, all_pushed}
use Rattle.constraint_generation.proofs.master.write_unit_row.Goals as goal
use Rattle.constraint_generation.proofs.master.write_unit_row.Goals.{then-k-own, else-k-own}

pub loop-k-preserved : goal.loop-k-preserved
loop-k-preserved g c =
    let value = g.N.Exact.fraction in
    let l = c.loop-k in
    let wanted = unit_row c.args.count c.args.own in
    let low : l.k < length wanted = omega (arith, length-unit c.args.count c.args.own, c.loop-k-test.true) in
    let is : value c.if-k-own.entry ≡ at wanted l.k = elim c.if-k-own.branch [
      | then-k-own w ↦ ap value w.entry-is ∙ w.one-entry.ensures ∙ sym (at-own c.args.count c.args.own l.k (omega (arith, c.loop-k-test.true, w.if-k-own.true)) (sym w.if-k-own.true))
      | else-k-own w ↦ ap value w.entry-is ∙ w.zero-entry.ensures ∙ sym (at-other c.args.count c.args.own l.k (λ e. w.if-k-own.false (sym e)))
    ] in
    record {
      row = pushed value l.row.items c.push_within.new.items.items c.if-k-own.entry [] wanted l.k l.invariant.row c.push_within.ensures.items low is;
      len = omega (arith, l.invariant.len, c.push_within.ensures.len);
      room = omega (arith, l.invariant.room, c.push_within.ensures.capacity);
    }

pub returns-clause-row : goal.returns-clause-row
returns-clause-row g c =
    let wanted = unit_row c.args.count c.args.own in
    let high : length wanted ≤ c.loop-k.k = omega (arith, length-unit c.args.count c.args.own, c.loop-k-test.false) in
    all_pushed g.N.Exact.fraction c.loop-k.row.items [] wanted c.loop-k.k c.loop-k.invariant.row high
