use Rattle.std.proofs.Common.{◌≡◌, ◌≤◌, ◌<◌, ◌^◌, ◌∙◌, sym, ap, arith, ℕ, ℤ, pos, negsuc, ◌≤ℤ◌, subst, unsigned_abs, FitsSigned}
use mir.Syntax.{w128}
use Rattle.std.proofs.lemmas.Int.{to_z-of_z, to_z_pos, ints, fits_signed_from_abs}
use Rattle.exact_num.specs.Fraction.{whole, reduced}
use Rattle.integer_tableau.proofs.ReadOff.{quotient_fits, means_ok, means_value, above_zero}
use Rattle.integer_tableau.proofs.fraction.fraction.Goals as goal

-- what is at most a positive number of 128 bits is one
held : (d : ℕ) (l limit : ℤ) → FitsSigned w128 l → l ≡ limit → pos 1 ≤ℤ limit → d ≤ unsigned_abs limit → d < 2 ^ 127
held d l limit f is p h = by_sign l f (subst (λ (z : ℤ). pos 1 ≤ℤ z) (sym is) p) (subst (λ (z : ℤ). d ≤ unsigned_abs z) (sym is) h)
  where
    by_sign : (l : ℤ) → FitsSigned w128 l → pos 1 ≤ℤ l → d ≤ unsigned_abs l → d < 2 ^ 127
    by_sign (pos n) f p h = omega (arith, f.sfits, h)
    by_sign (negsuc n) f p h = absurd (omega (arith, ints, p))

pub overflow_cast-denominator : goal.overflow_cast-denominator
overflow_cast-denominator g c =
    let d = c.args.denominator in
    fits_signed_from_abs w128 (pos d)
    (held d c.LIMIT-limit.result g.N.Exact.LIMIT (record { sfits = c.LIMIT-limit.type_inv }) c.LIMIT-limit.ensures g.met.N.Exact.limit_positive c.requires.denominator.1)

pub div-requires : goal.div-requires
div-requires g c =
    let d = c.args.denominator in
    let low = held d c.LIMIT-limit.result g.N.Exact.LIMIT (record { sfits = c.LIMIT-limit.type_inv }) c.LIMIT-limit.ensures g.met.N.Exact.limit_positive c.requires.denominator.1 in
    above_zero (g.N.Exact.fraction c.whole-below.result) d (c.whole-below.ensures ∙ ap whole (to_z_pos w128 d low)) c.requires.denominator.0

pub unwrap-requires : goal.unwrap-requires
unwrap-requires g c =
    let f = g.N.Exact.fraction in
    let L = unsigned_abs g.N.Exact.LIMIT in
    let n = c.args.number in
    let d = c.args.denominator in
    let low = held d c.LIMIT-limit.result g.N.Exact.LIMIT (record { sfits = c.LIMIT-limit.type_inv }) c.LIMIT-limit.ensures g.met.N.Exact.limit_positive c.requires.denominator.1 in
    let above : f c.whole-above.result ≡ whole n = rw (to_z-of_z w128 n c.ranges.number) at c.whole-above.ensures in
    let below : f c.whole-below.result ≡ whole (pos d) = c.whole-below.ensures ∙ ap whole (to_z_pos w128 d low) in
    means_ok f c.div.result (reduced n d) (quotient_fits f L d n c.div.result (f c.whole-above.result) (f c.whole-below.result) c.div.ensures above below c.requires.denominator.0 c.requires.number c.requires.denominator.1)

pub returns : goal.returns
returns g c =
    let f = g.N.Exact.fraction in
    let L = unsigned_abs g.N.Exact.LIMIT in
    let n = c.args.number in
    let d = c.args.denominator in
    let low = held d c.LIMIT-limit.result g.N.Exact.LIMIT (record { sfits = c.LIMIT-limit.type_inv }) c.LIMIT-limit.ensures g.met.N.Exact.limit_positive c.requires.denominator.1 in
    let above : f c.whole-above.result ≡ whole n = rw (to_z-of_z w128 n c.ranges.number) at c.whole-above.ensures in
    let below : f c.whole-below.result ≡ whole (pos d) = c.whole-below.ensures ∙ ap whole (to_z_pos w128 d low) in
    means_value f c.div.result (reduced n d) c.unwrap.result (quotient_fits f L d n c.div.result (f c.whole-above.result) (f c.whole-below.result) c.div.ensures above below c.requires.denominator.0 c.requires.number c.requires.denominator.1) c.unwrap.ensures
