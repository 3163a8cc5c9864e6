use Rattle.std.proofs.Common.{◌<◌, ◌∙◌, arith, rules, length, length-set, slice_index_or, pos, FitsSigned, w64}
use Rattle.integer_tableau.proofs.Numbers.{widened, written_more, written_all}
use Rattle.integer_tableau.proofs.wide.widen.Goals as goal

pub loop-i-preserved : goal.loop-i-preserved
loop-i-preserved c =
    let i = c.loop-i.i in
    let q = slice_index_or c.args.numbers.now i (pos 0) in
    let fq : FitsSigned w64 q = search rules in
    let inv = c.loop-i.invariant in
    let same = inv.0 in
    let in_out : i < length c.loop-i.out = omega (arith, c.loop-i-test.true, same) in
    let in_numbers : i < length c.args.numbers.now = omega (arith, c.loop-i-test.true, c.requires) in
    (length-set c.loop-i.out i _ ∙ inv.0, written_more c.args.numbers.now c.loop-i.out i _ (pos 0) in_out in_numbers inv.1 (widened q fq))

pub returns : goal.returns
returns c =
    let same = c.loop-i.invariant.0 in
    written_all c.args.numbers.now c.loop-i.out c.loop-i.i (omega (arith, c.loop-i-test.false, same)) (omega (arith, c.loop-i-test.false, c.requires)) c.loop-i.invariant.1
