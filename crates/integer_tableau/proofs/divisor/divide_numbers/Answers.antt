use Rattle.std.proofs.Common.{◌+◌, ◌∙◌, ap, arith, length, map, pos, int_div, take, ◌≤◌, ◌<◌, ◌≡◌, ℤ, List}
use Rattle.std.proofs.lemmas.List.{length-map, length-set, get_or-set_other}
use Rattle.run_equivalence.specs.IntegerRows.{number_at}
use Rattle.integer_tableau.proofs.Numbers.{written_more, written_all, at_map}
use Rattle.integer_tableau.proofs.divisor.divide_numbers.Goals as goal

pub loop-i-preserved : goal.loop-i-preserved
loop-i-preserved c =
    let g : ℤ → ℤ = λ z. int_div z (pos c.args.divisor) in
    let i = c.loop-i.i in
    let old = c.args.numbers.now in
    let zs = c.loop-i.numbers in
    let inv = c.loop-i.invariant in
    let told = c.divide_at.ensures in
    let in_zs : i < length zs = omega arith in
    let same = inv.width in
    let in_old : i < length old = omega (arith, in_zs, same) in
    let many : length (map g old) ≡ length old = length-map _ _ in
    let is_quotient = ap g (inv.left i (omega arith)) ∙ at_map g old i in_old in
    record {
      width = ap length told ∙ length-set zs i _ ∙ inv.width;
      written = ap (take (i + 1)) told ∙ written_more (map g old) zs i _ (pos 0) in_zs (omega (arith, many, in_old)) inv.written is_quotient;
      left = λ j p. ap (λ (ws : List ℤ). number_at ws j) told ∙ get_or-set_other zs i j _ (pos 0) (λ e. omega (arith, p, e)) ∙ inv.left j (omega (arith, p));
    }

pub returns : goal.returns
returns c =
    let old = c.args.numbers.now in
    let many : length (map (λ (y : ℤ). int_div y (pos c.args.divisor)) old) ≡ length old = length-map _ _ in
    let over : length c.loop-i.numbers ≤ c.loop-i.i = omega arith in
    let same = c.loop-i.invariant.width in
    written_all (map (λ (y : ℤ). int_div y (pos c.args.divisor)) old) c.loop-i.numbers c.loop-i.i over (omega (arith, over, same, many)) c.loop-i.invariant.written
