use Rattle.std.proofs.Common.{◌≡◌, ◌*◌, ◌/◌, ◌≤◌, ℕ, ℤ, pos, neg_ℤ, ◌-ℤ◌, unsigned_abs, FitsSigned, to_z, of_z, rules, arith, ap, sym, subst, ◌∙◌}
use Rattle.std.specs.Int.{div_ceil}
use Rattle.std.proofs.lemmas.Int.{ints, fits_signed_from_abs, to_z-of_z, to_z_pos}
use mir.Syntax.{w128}
use Rattle.arithmetic.proofs.Parts.{part_above}
use Rattle.form.specs.Vector.{positive_part}
use Rattle.frac.specs.Value.{fraction_of}
use Rattle.settlement.proofs.Quotients.{down_fits}
use Rattle.account_need.proofs.Parts.{ceil_above, ceil_below, few_parts, share_fits}
use Rattle.account_need.proofs.shares.rounded_up.Goals as goal

negated : (r : ℕ) → r ≤ 4294967296000000 → to_z w128 (of_z w128 (pos 0 -ℤ to_z w128 r)) ≡ neg_ℤ (pos r)
negated r small =
    let read = to_z_pos w128 r (omega (arith, small)) in
    let fits : FitsSigned w128 (pos 0 -ℤ pos r) = fits_signed_from_abs w128 (pos 0 -ℤ pos r) (omega (arith, ints, small)) in
    let same : pos 0 -ℤ pos r ≡ neg_ℤ (pos r) = omega (arith, ints) in
    ap (λ (z : ℤ). to_z w128 (of_z w128 (pos 0 -ℤ z))) read ∙ to_z-of_z w128 (pos 0 -ℤ pos r) fits ∙ same

negated_small : (r : ℕ) → r ≤ 4294967296000000 → unsigned_abs (neg_ℤ (pos r)) ≤ 4294967296000000
negated_small r small = omega (arith, ints, small)

pub mul_div_ceil-requires-clause-share_fits : goal.mul_div_ceil-requires-clause-share_fits
mul_div_ceil-requires-clause-share_fits c =
    let fill = fraction_of c.args.fill.now in
    let n = c.unsigned_abs-n.result in
    let k = unsigned_abs c.args.times in
    let n_is : n ≡ positive_part fill.numerator = search rules in
    let x_is : fill.numerator ≡ pos n = sym (part_above fill.numerator c.requires.not_below_zero) ∙ ap pos (sym n_is) in
    let d_is : c.unsigned_abs-d.result ≡ fill.denominator = search rules in
    let k_is : c.from-share.result ≡ k = search rules in
    let some = c.args.fill.now.lowest.positive in
    let le = share_fits n c.from-share.result c.unsigned_abs-d.result k fill.denominator k_is d_is some (few_parts fill.numerator n fill.denominator k x_is c.requires.few) in
    omega (arith, le)

pub mul_div_floor-requires-clause-share_fits : goal.mul_div_floor-requires-clause-share_fits
mul_div_floor-requires-clause-share_fits c =
    let fill = fraction_of c.args.fill.now in
    let n = c.unsigned_abs-n.result in
    let k = unsigned_abs c.args.times in
    let n_is : n ≡ positive_part fill.numerator = search rules in
    let x_is : fill.numerator ≡ pos n = sym (part_above fill.numerator c.requires.not_below_zero) ∙ ap pos (sym n_is) in
    let d_is : c.unsigned_abs-d.result ≡ fill.denominator = search rules in
    let k_is : c.from-share.result ≡ k = search rules in
    let some = c.args.fill.now.lowest.positive in
    let le = share_fits n c.from-share.result c.unsigned_abs-d.result k fill.denominator k_is d_is some (few_parts fill.numerator n fill.denominator k x_is c.requires.few) in
    omega (arith, le)

pub overflow_cast-result : goal.overflow_cast-result
overflow_cast-result c =
    let fill = fraction_of c.args.fill.now in
    let n = c.unsigned_abs-n.result in
    let k = unsigned_abs c.args.times in
    let n_is : n ≡ positive_part fill.numerator = search rules in
    let x_is : fill.numerator ≡ pos n = sym (part_above fill.numerator c.requires.not_below_zero) ∙ ap pos (sym n_is) in
    let d_is : c.unsigned_abs-d.result ≡ fill.denominator = search rules in
    let k_is : c.from-share.result ≡ k = search rules in
    let some = c.args.fill.now.lowest.positive in
    let le = share_fits n c.from-share.result c.unsigned_abs-d.result k fill.denominator k_is d_is some (few_parts fill.numerator n fill.denominator k x_is c.requires.few) in
    let r = c.mul_div_ceil.result in
    let small : r ≤ 4294967296000000 = omega (arith, c.mul_div_ceil.ensures, le) in
    fits_signed_from_abs w128 (pos r) (omega (arith, small))

pub overflow_cast-result-else-times-gt0 : goal.overflow_cast-result-else-times-gt0
overflow_cast-result-else-times-gt0 c =
    let fill = fraction_of c.args.fill.now in
    let n = c.unsigned_abs-n.result in
    let k = unsigned_abs c.args.times in
    let n_is : n ≡ positive_part fill.numerator = search rules in
    let x_is : fill.numerator ≡ pos n = sym (part_above fill.numerator c.requires.not_below_zero) ∙ ap pos (sym n_is) in
    let d_is : c.unsigned_abs-d.result ≡ fill.denominator = search rules in
    let k_is : c.from-share.result ≡ k = search rules in
    let some = c.args.fill.now.lowest.positive in
    let le = share_fits n c.from-share.result c.unsigned_abs-d.result k fill.denominator k_is d_is some (few_parts fill.numerator n fill.denominator k x_is c.requires.few) in
    let r = c.mul_div_floor.result in
    let small : r ≤ 4294967296000000 = omega (arith, c.mul_div_floor.ensures, down_fits (n * (c.from-share.result * 4294967296)) c.unsigned_abs-d.result 4294967296000000 le) in
    fits_signed_from_abs w128 (pos r) (omega (arith, small))

pub returns-then-times-gt0-clause-value : goal.returns-then-times-gt0-clause-value
returns-then-times-gt0-clause-value c =
    let fill = fraction_of c.args.fill.now in
    let n = c.unsigned_abs-n.result in
    let k = unsigned_abs c.args.times in
    let n_is : n ≡ positive_part fill.numerator = search rules in
    let x_is : fill.numerator ≡ pos n = sym (part_above fill.numerator c.requires.not_below_zero) ∙ ap pos (sym n_is) in
    let d_is : c.unsigned_abs-d.result ≡ fill.denominator = search rules in
    let k_is : c.from-share.result ≡ k = search rules in
    let some = c.args.fill.now.lowest.positive in
    let le = share_fits n c.from-share.result c.unsigned_abs-d.result k fill.denominator k_is d_is some (few_parts fill.numerator n fill.denominator k x_is c.requires.few) in
    let r = c.mul_div_ceil.result in
    let small : r ≤ 4294967296000000 = omega (arith, c.mul_div_ceil.ensures, le) in
    let as_read : div_ceil (n * (c.from-share.result * 4294967296)) c.unsigned_abs-d.result ≡ div_ceil (n * (k * 4294967296)) fill.denominator = (λ i. div_ceil (n * (k_is i * 4294967296)) (d_is i)) in
    to_z_pos w128 r (omega (arith, small)) ∙ ap pos (c.mul_div_ceil.ensures ∙ as_read) ∙ sym (ceil_above c.args.times fill.numerator n fill.denominator (search rules) x_is)

pub returns-then-times-gt0-clause-small : goal.returns-then-times-gt0-clause-small
returns-then-times-gt0-clause-small c =
    let fill = fraction_of c.args.fill.now in
    let n = c.unsigned_abs-n.result in
    let k = unsigned_abs c.args.times in
    let n_is : n ≡ positive_part fill.numerator = search rules in
    let x_is : fill.numerator ≡ pos n = sym (part_above fill.numerator c.requires.not_below_zero) ∙ ap pos (sym n_is) in
    let d_is : c.unsigned_abs-d.result ≡ fill.denominator = search rules in
    let k_is : c.from-share.result ≡ k = search rules in
    let some = c.args.fill.now.lowest.positive in
    let le = share_fits n c.from-share.result c.unsigned_abs-d.result k fill.denominator k_is d_is some (few_parts fill.numerator n fill.denominator k x_is c.requires.few) in
    let r = c.mul_div_ceil.result in
    let small : r ≤ 4294967296000000 = omega (arith, c.mul_div_ceil.ensures, le) in
    subst (λ (z : ℤ). unsigned_abs z ≤ 4294967296000000) (sym (to_z_pos w128 r (omega (arith, small)))) small

pub returns-else-times-gt0-clause-value : goal.returns-else-times-gt0-clause-value
returns-else-times-gt0-clause-value c =
    let fill = fraction_of c.args.fill.now in
    let n = c.unsigned_abs-n.result in
    let k = unsigned_abs c.args.times in
    let n_is : n ≡ positive_part fill.numerator = search rules in
    let x_is : fill.numerator ≡ pos n = sym (part_above fill.numerator c.requires.not_below_zero) ∙ ap pos (sym n_is) in
    let d_is : c.unsigned_abs-d.result ≡ fill.denominator = search rules in
    let k_is : c.from-share.result ≡ k = search rules in
    let some = c.args.fill.now.lowest.positive in
    let le = share_fits n c.from-share.result c.unsigned_abs-d.result k fill.denominator k_is d_is some (few_parts fill.numerator n fill.denominator k x_is c.requires.few) in
    let r = c.mul_div_floor.result in
    let small : r ≤ 4294967296000000 = omega (arith, c.mul_div_floor.ensures, down_fits (n * (c.from-share.result * 4294967296)) c.unsigned_abs-d.result 4294967296000000 le) in
    let as_read : n * (c.from-share.result * 4294967296) / c.unsigned_abs-d.result ≡ n * (k * 4294967296) / fill.denominator = (λ i. n * (k_is i * 4294967296) / d_is i) in
    negated r small ∙ ap (λ (m : ℕ). neg_ℤ (pos m)) (c.mul_div_floor.ensures ∙ as_read) ∙ sym (ceil_below c.args.times fill.numerator n fill.denominator some (search rules) x_is)

pub returns-else-times-gt0-clause-small : goal.returns-else-times-gt0-clause-small
returns-else-times-gt0-clause-small c =
    let fill = fraction_of c.args.fill.now in
    let n = c.unsigned_abs-n.result in
    let k = unsigned_abs c.args.times in
    let n_is : n ≡ positive_part fill.numerator = search rules in
    let x_is : fill.numerator ≡ pos n = sym (part_above fill.numerator c.requires.not_below_zero) ∙ ap pos (sym n_is) in
    let d_is : c.unsigned_abs-d.result ≡ fill.denominator = search rules in
    let k_is : c.from-share.result ≡ k = search rules in
    let some = c.args.fill.now.lowest.positive in
    let le = share_fits n c.from-share.result c.unsigned_abs-d.result k fill.denominator k_is d_is some (few_parts fill.numerator n fill.denominator k x_is c.requires.few) in
    let r = c.mul_div_floor.result in
    let small : r ≤ 4294967296000000 = omega (arith, c.mul_div_floor.ensures, down_fits (n * (c.from-share.result * 4294967296)) c.unsigned_abs-d.result 4294967296000000 le) in
    subst (λ (z : ℤ). unsigned_abs z ≤ 4294967296000000) (sym (negated r small)) (negated_small r small)
