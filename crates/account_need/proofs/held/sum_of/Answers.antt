use Rattle.std.proofs.Common.{◌≡◌, ◌^◌, ◌+◌, ◌*◌, ◌≤◌, ◌<◌, ℤ, drop, length, arith, ap, rules, sym, ◌∙◌, ◌+ℤ◌, unsigned_abs, to_z, of_z}
use Rattle.std.proofs.lemmas.Int.{ints, fits_signed_from_abs, to_z-of_z}
use Rattle.std.proofs.Math.IntN.{+ℤ_assoc}
use mir.Syntax.{w128}
use Rattle.arithmetic.specs.Sums.{total}
use Rattle.arithmetic.proofs.Lists.{item_first}
use Rattle.form.specs.Payoff.{option_of}
use Rattle.account_need.specs.Rounded.{part_owed}
use Rattle.account_need.proofs.held.sum_of.Goals as goal

pub loop-position-preserved : goal.loop-position-preserved
loop-position-preserved c =
    let part = part_owed (option_of c.args.form.now) in
    let ps = c.args.positions.now in
    let i = c.loop-position.position-index in
    let X = to_z w128 c.loop-position.total-bits in
    let x = c.part_owed-total.result in
    let R = total part (drop (i + 1) ps) in
    let lt : i < length ps = search rules in
    let low : unsigned_abs x ≤ 4294967296000000 = c.part_owed-total.ensures.small in
    let so_far : unsigned_abs X ≤ i * 4294967296000000 = c.loop-position.invariant.small in
    let few : length ps ≤ 2 ^ 24 = c.requires.few in
    let ex : to_z w128 (of_z w128 x) ≡ x = to_z-of_z w128 x (fits_signed_from_abs w128 x (omega (arith, low))) in
    let es : to_z w128 (of_z w128 (X +ℤ x)) ≡ X +ℤ x = to_z-of_z w128 (X +ℤ x) (fits_signed_from_abs w128 (X +ℤ x) (omega (arith, ints, low, so_far, lt, few))) in
    let here = ap (total part) (item_first ps i c.position-item.result lt (search rules)) in
    let all = c.loop-position.invariant.left ∙ ap (λ (z : ℤ). X +ℤ z) (here ∙ ap (λ (z : ℤ). z +ℤ R) (sym c.part_owed-total.ensures.part)) in
    record {
      left = rw (ex, es) (all ∙ sym (+ℤ_assoc X x R));
      small = rw (ex, es) (omega (arith, ints, low, so_far));
    }
