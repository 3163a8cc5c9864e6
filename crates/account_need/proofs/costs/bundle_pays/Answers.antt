use Rattle.std.proofs.Common.{◌≡◌, ◌≤◌, ◌+◌, ℕ, ℤ, [], ◌∷◌, drop, get_or, length, pos, ◌+ℤ◌, ◌*ℤ◌, unsigned_abs, to_z, of_z, arith, ap, rules, sym, subst, ◌∙◌}
use Rattle.std.proofs.lemmas.Int.{ints, fits_signed_from_abs, to_z-of_z}
use Rattle.std.proofs.Math.IntN.{+ℤ_assoc}
use mir.Syntax.{w64}
use Rattle.arithmetic.proofs.Lists.{drop_map}
use Rattle.form.specs.declared.legs.Leg.{Leg}
use Rattle.form.specs.Payoff.{bundle_legs, bundle_payoff, leg_of, legs_in}
use Rattle.form.proofs.SameBundle.{length-legs_in}
use Rattle.account_need.proofs.LineBits.{leg_bits}
use Rattle.account_need.proofs.OnLine.{leg_small}
use Rattle.account_need.proofs.costs.bundle_pays.Goals as goal

-- what the leg pays, as it is read, and its size
counted : (c : goal.After-pays) → unsigned_abs c.leg-item.result.count ≤ 1000
counted c =
    let legs = legs_in c.args.bundle.now in
    let i = c.loop-leg.leg-index in
    let leg = c.leg-item.result in
    let is : leg ≡ get_or legs i leg = search rules in
    subst (λ (x : Leg). unsigned_abs x.count ≤ 1000) (sym is) (c.args.bundle.now.counted i leg (search rules)).1

read : (c : goal.After-pays) → to_z w64 (of_z w64 c.from.result) *ℤ to_z w64 c.pays.result ≡ c.leg-item.result.count *ℤ pos c.pays.result
read c = leg_bits c.leg-item.result.count c.from.result c.pays.result c.from.ensures (counted c) c.pays.ensures.small

size : (c : goal.After-pays) → unsigned_abs (c.leg-item.result.count *ℤ pos c.pays.result) ≤ 2000000000000000
size c = leg_small c.leg-item.result.count c.pays.result (counted c) c.pays.ensures.small

four : (c : goal.After-pays) → c.loop-leg.leg-index + 1 ≤ 4
four c =
    let bundle = c.args.bundle.now in
    let few : c.loop-leg.leg-index + 1 ≤ length (legs_in bundle) = search rules in
    omega (arith, few, length-legs_in bundle, bundle.size_in_range.1)

pub overflow_mul-total : goal.overflow_mul-total
overflow_mul-total c =
    let x = c.leg-item.result.count *ℤ pos c.pays.result in
    rw (read c) (fits_signed_from_abs w64 x (omega (arith, size c)))

pub overflow_add-total : goal.overflow_add-total
overflow_add-total c =
    let x = c.leg-item.result.count *ℤ pos c.pays.result in
    let X = to_z w64 c.loop-leg.total-bits in
    let ex = to_z-of_z w64 x (fits_signed_from_abs w64 x (omega (arith, size c))) in
    rw (read c, ex) (fits_signed_from_abs w64 (X +ℤ x) (omega (arith, ints, size c, c.loop-leg.invariant.small, four c)))

pub loop-leg-preserved : goal.loop-leg-preserved
loop-leg-preserved c =
    let z = c.args.at.now.t ∷ c.args.at.now.s ∷ [] in
    let bundle = c.args.bundle.now in
    let i = c.loop-leg.leg-index in
    let leg = c.leg-item.result in
    let x = leg.count *ℤ pos c.pays.result in
    let X = to_z w64 c.loop-leg.total-bits in
    let ex = to_z-of_z w64 x (fits_signed_from_abs w64 x (omega (arith, size c))) in
    let es = to_z-of_z w64 (X +ℤ x) (fits_signed_from_abs w64 (X +ℤ x) (omega (arith, ints, size c, c.loop-leg.invariant.small, four c))) in
    let R = bundle_payoff (drop (i + 1) (bundle_legs bundle)) z in
    let here = ap (λ legs. bundle_payoff legs z) (drop_map leg_of (legs_in bundle) i leg (search rules) (search rules)) in
    let all = c.loop-leg.invariant.paid ∙ ap (λ (y : ℤ). X +ℤ y) (here ∙ ap (λ (h : ℕ). (leg.count *ℤ pos h) +ℤ R) (sym c.pays.ensures.pays)) in
    record {
      paid = rw (read c, ex, es) (all ∙ sym (+ℤ_assoc X x R));
      small = rw (read c, ex, es) (omega (arith, ints, size c, c.loop-leg.invariant.small));
    }
