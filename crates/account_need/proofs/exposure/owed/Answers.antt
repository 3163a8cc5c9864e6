use Rattle.std.proofs.Common.{◌≡◌, ◌+◌, ◌*◌, ◌<◌, ◌≤◌, ℤ, [], ◌∷◌, drop, length, map, ◌+ℤ◌, unsigned_abs, to_z, of_z, arith, ap, rules, sym, ◌∙◌}
use Rattle.std.proofs.lemmas.Int.{ints, fits_signed_from_abs, to_z-of_z}
use Rattle.std.proofs.Math.IntN.{+ℤ_assoc}
use mir.Syntax.{w128}
use Rattle.arithmetic.proofs.Lists.{drop_map}
use Rattle.form.specs.declared.limits.TheConstants.{MAX_ORDERS}
use Rattle.account_need.specs.Prices.{option_sum}
use Rattle.account_need.specs.Rounded.{owed_of}
use Rattle.account_need.proofs.exposure.owed.Goals as goal

pub loop-item-preserved : goal.loop-item-preserved
loop-item-preserved c =
    let z = c.args.at.now.t ∷ c.args.at.now.s ∷ [] in
    let sums = c.args.sums.now in
    let i = c.loop-item.item-index in
    let X = to_z w128 c.loop-item.total-bits in
    let x = c.amount_of-total.result in
    let R = owed_of z (drop (i + 1) (map option_sum sums)) in
    let lt : i < length sums = search rules in
    let low : unsigned_abs x ≤ 144115188075855872000000000000000000 = c.amount_of-total.ensures.small in
    let so_far : unsigned_abs X ≤ i * 144115188075855872000000000000000000 = c.loop-item.invariant.small in
    let few : length sums ≤ MAX_ORDERS = c.requires.few in
    let ex : to_z w128 (of_z w128 x) ≡ x = to_z-of_z w128 x (fits_signed_from_abs w128 x (omega (arith, low))) in
    let es : to_z w128 (of_z w128 (X +ℤ x)) ≡ X +ℤ x = to_z-of_z w128 (X +ℤ x) (fits_signed_from_abs w128 (X +ℤ x) (omega (arith, ints, low, so_far, lt, few))) in
    let here = ap (owed_of z) (drop_map option_sum sums i c.item-item.result lt (search rules)) in
    let all = c.loop-item.invariant.owed ∙ ap (λ (w : ℤ). X +ℤ w) (here ∙ ap (λ (w : ℤ). w +ℤ R) (sym c.amount_of-total.ensures.amount)) in
    record {
      owed = rw (ex, es) (all ∙ sym (+ℤ_assoc X x R));
      small = rw (ex, es) (omega (arith, ints, low, so_far));
    }
