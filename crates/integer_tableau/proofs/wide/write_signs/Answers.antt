use Rattle.std.proofs.Common.{◌≡◌, ◌<◌, ◌∙◌, arith, rules, length, length-set, map, slice_index_or, pos, FitsSigned}
use mir.Syntax.{w128}
use Rattle.std.specs.Int.{int_signum}
use Rattle.std.proofs.lemmas.List.{length-map}
use Rattle.std.proofs.lemmas.Int.{to_z-of_z}
use Rattle.integer_tableau.proofs.Numbers.{at_map, sign_held, written_more, written_all}
use Rattle.integer_tableau.proofs.wide.write_signs.Goals as goal

pub loop-i-preserved : goal.loop-i-preserved
loop-i-preserved c =
    let i = c.loop-i.i in
    let q = slice_index_or c.args.numbers.now i (pos 0) in
    let fq : FitsSigned w128 q = search rules in
    let inv = c.loop-i.invariant in
    let same = inv.0 in
    let many = length-map c.args.numbers.now int_signum in
    let in_out : i < length c.loop-i.out = omega (arith, c.loop-i-test.true, same) in
    let in_numbers : i < length c.args.numbers.now = omega (arith, c.loop-i-test.true, c.requires) in
    let in_signs : i < length (map int_signum c.args.numbers.now) = omega (arith, in_numbers, many) in
    let sign : c.signum.result ≡ int_signum q = rw (to_z-of_z w128 q fq) at c.signum.ensures.value in
    let written = sign_held c.signum.result q sign ∙ at_map int_signum c.args.numbers.now i in_numbers in
    (length-set c.loop-i.out i _ ∙ inv.0, written_more (map int_signum c.args.numbers.now) c.loop-i.out i _ (pos 0) in_out in_signs inv.1 written)

pub returns : goal.returns
returns c =
    let same = c.loop-i.invariant.0 in
    let many = length-map c.args.numbers.now int_signum in
    written_all (map int_signum c.args.numbers.now) c.loop-i.out c.loop-i.i (omega (arith, c.loop-i-test.false, same)) (omega (arith, c.loop-i-test.false, c.requires, many)) c.loop-i.invariant.1
