use Rattle.std.proofs.Common.{rules, ◌∙◌, ap, arith, length, map, FitsSigned, pos, int_div, ◌≤◌, ◌<◌, ◌≡◌, ℤ, slice_index_or}
use mir.Syntax.{w128}
use Rattle.std.proofs.lemmas.Int.{to_z-of_z}
use Rattle.std.proofs.lemmas.List.{length-map, length-set, get_or-set_other}
use Rattle.integer_tableau.proofs.Numbers.{written_more, written_all, at_map}
use Rattle.integer_tableau.proofs.wide.divide_wide.Goals as goal

pub loop-i-preserved : goal.loop-i-preserved
loop-i-preserved c =
    let i = c.loop-i.i in
    let old = c.args.numbers.now in
    let zs = c.loop-i.numbers in
    let z = slice_index_or zs i (pos 0) in
    let v = c.whole_quotient-number.result in
    let inv = c.loop-i.invariant in
    let in_zs : i < length zs = omega arith in
    let same = inv.width in
    let in_old : i < length old = omega (arith, in_zs, same) in
    let many : length (map (λ (y : ℤ). int_div y (pos c.args.divisor)) old) ≡ length old = length-map _ _ in
    let fz : FitsSigned w128 z = search rules in
    let fv : FitsSigned w128 v = search rules in
    let told : v ≡ int_div z (pos c.args.divisor) = rw c.divisor_of-by.ensures at (simp to_z-of_z at c.whole_quotient-number.ensures) in
    let is_v = told ∙ ap (λ (y : ℤ). int_div y (pos c.args.divisor)) (inv.left i (omega arith)) ∙ at_map (λ (y : ℤ). int_div y (pos c.args.divisor)) old i in_old in
    rw (to_z-of_z w128 v fv) (record {
      width = length-set zs i v ∙ inv.width;
      written = written_more (map (λ (y : ℤ). int_div y (pos c.args.divisor)) old) zs i v (pos 0) in_zs (omega (arith, many, in_old)) inv.written is_v;
      left = λ j p. get_or-set_other zs i j v (pos 0) (λ e. omega (arith, p, e)) ∙ inv.left j (omega (arith, p));
    })

pub returns : goal.returns
returns c =
    let old = c.args.numbers.now in
    let many : length (map (λ (y : ℤ). int_div y (pos c.args.divisor)) old) ≡ length old = length-map _ _ in
    let over : length c.loop-i.numbers ≤ c.loop-i.i = omega arith in
    let same = c.loop-i.invariant.width in
    written_all (map (λ (y : ℤ). int_div y (pos c.args.divisor)) old) c.loop-i.numbers c.loop-i.i over (omega (arith, over, same, many)) c.loop-i.invariant.written
