use Rattle.std.proofs.Common.{◌≡◌, ◌≤◌, ◌+◌, ◌*◌, Bool, true, false, ℤ, drop, get_or, length, arith, ap, rules, sym, subst, ◌∙◌, pos, ◌+ℤ◌, unsigned_abs, to_z, of_z}
use Rattle.std.proofs.lemmas.Int.{ints, fits_signed_from_abs, to_z-of_z}
use Rattle.std.proofs.Math.IntN.{+ℤ_assoc}
use mir.Syntax.{w16, w64}
use Rattle.arithmetic.proofs.Lists.{drop_map}
use Rattle.form.specs.declared.legs.Leg.{Leg}
use Rattle.form.specs.Payoff.{bundle_legs, leg_of, legs_in, option_of}
use Rattle.form.specs.Vector.{is_same_option}
use Rattle.form.proofs.SameBundle.{length-legs_in}
use Rattle.account_need.specs.Rounded.{count_if, count_of}
use Rattle.account_need.proofs.shares.count_in.Goals as goal
use Rattle.account_need.proofs.shares.count_in.Goals.{then-is_same, else-is_same}

none_more : (all X R : ℤ) → all ≡ X +ℤ (pos 0 +ℤ R) → all ≡ X +ℤ R
none_more all X R e = omega (arith, ints, e)

pub loop-leg-preserved : goal.loop-leg-preserved
loop-leg-preserved c =
    let v = option_of c.args.form.now in
    let bundle = c.args.bundle.now in
    let legs = legs_in bundle in
    let i = c.loop-leg.leg-index in
    let leg = c.leg-item.result in
    let n = leg.count in
    let X = to_z w64 c.loop-leg.count-bits in
    let R = count_of v (drop (i + 1) (bundle_legs bundle)) in
    let is : leg ≡ get_or legs i leg = search rules in
    let low : unsigned_abs n ≤ 1000 = subst (λ (x : Leg). unsigned_abs x.count ≤ 1000) (sym is) (bundle.counted i leg (search rules)).1 in
    let few : i + 1 ≤ length legs = search rules in
    let four : i + 1 ≤ 4 = omega (arith, few, length-legs_in bundle, bundle.size_in_range.1) in
    let so_far : unsigned_abs X ≤ i * 1000 = c.loop-leg.invariant.small in
    let all = c.loop-leg.invariant.left ∙ ap (λ (z : ℤ). X +ℤ z) (ap (count_of v) (drop_map leg_of legs i leg (search rules) is)) in
    elim c.if-is_same.branch [
      | then-is_same w ↦
          let from : w.from-count.result ≡ n = w.from-count.ensures ∙ to_z-of_z w16 n (fits_signed_from_abs w16 n (omega (arith, low))) in
          let wide : to_z w64 (of_z w64 w.from-count.result) ≡ n = ap (λ (z : ℤ). to_z w64 (of_z w64 z)) from ∙ to_z-of_z w64 n (fits_signed_from_abs w64 n (omega (arith, low))) in
          let fits = to_z-of_z w64 (X +ℤ n) (fits_signed_from_abs w64 (X +ℤ n) (omega (arith, ints, low, so_far, four))) in
          let new : to_z w64 c.if-is_same.count-bits ≡ X +ℤ n = w.count-is ∙ ap (λ (z : ℤ). to_z w64 (of_z w64 (X +ℤ z))) wide ∙ fits in
          let yes : is_same_option (option_of leg.form) v ≡ true = sym c.is_same.ensures ∙ w.if-is_same.true in
          record {
            left = subst (λ (z : ℤ). count_of v (bundle_legs bundle) ≡ z +ℤ R) (sym new)
                (all ∙ ap (λ (b : Bool). X +ℤ (count_if b n +ℤ R)) yes ∙ sym (+ℤ_assoc X n R));
            small = subst (λ (z : ℤ). unsigned_abs z ≤ (i + 1) * 1000) (sym new) (omega (arith, ints, low, so_far));
          }
      | else-is_same w ↦
          let no : is_same_option (option_of leg.form) v ≡ false = sym c.is_same.ensures ∙ w.if-is_same.false in
          record {
            left = subst (λ (z : ℤ). count_of v (bundle_legs bundle) ≡ z +ℤ R) (sym w.count-is)
                (none_more (count_of v (bundle_legs bundle)) X R (all ∙ ap (λ (b : Bool). X +ℤ (count_if b n +ℤ R)) no));
            small = subst (λ (z : ℤ). unsigned_abs z ≤ (i + 1) * 1000) (sym w.count-is) (omega (arith, so_far));
          }
    ]
