use Rattle.std.proofs.Common.{◌<◌, ◌∙◌, sym, subst, arith, rules, length, length-set, slice_index_or, pos, w64, FitsSigned}
use mir.Syntax.{w128}
use Rattle.std.proofs.lemmas.Int.{to_z-of_z, fits_signed_from_abs}
use Rattle.run_equivalence.proofs.IntegerRowSteps.{sizes_of_fit}
use Rattle.run_equivalence.specs.IntegerRows.{widest}
use Rattle.integer_tableau.proofs.Numbers.{narrowed, written_more, written_all}
use Rattle.integer_tableau.proofs.wide.narrow.Goals as goal

pub overflow_cast-out : goal.overflow_cast-out
overflow_cast-out c =
    let q = slice_index_or c.args.numbers.now c.loop-i.i (pos 0) in
    let fq : FitsSigned w128 q = search rules in
    let low = sizes_of_fit widest c.args.numbers.now c.requires.short c.loop-i.i in
    subst (FitsSigned w64) (sym (to_z-of_z w128 q fq)) (fits_signed_from_abs w64 q (omega (arith, low)))

pub loop-i-preserved : goal.loop-i-preserved
loop-i-preserved c =
    let i = c.loop-i.i in
    let q = slice_index_or c.args.numbers.now i (pos 0) in
    let fq : FitsSigned w128 q = search rules in
    let inv = c.loop-i.invariant in
    let same = inv.0 in
    let in_out : i < length c.loop-i.out = omega (arith, c.loop-i-test.true, same) in
    let in_numbers : i < length c.args.numbers.now = omega (arith, c.loop-i-test.true, c.requires.width) in
    (length-set c.loop-i.out i _ ∙ inv.0, written_more c.args.numbers.now c.loop-i.out i _ (pos 0) in_out in_numbers inv.1 (narrowed q fq (sizes_of_fit widest c.args.numbers.now c.requires.short i)))

pub returns : goal.returns
returns c =
    let same = c.loop-i.invariant.0 in
    written_all c.args.numbers.now c.loop-i.out c.loop-i.i (omega (arith, c.loop-i-test.false, same)) (omega (arith, c.loop-i-test.false, c.requires.width)) c.loop-i.invariant.1
