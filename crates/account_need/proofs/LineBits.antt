-- What an option would pay, in numbers of 64 bits.
use Rattle.std.proofs.Common.{◌≡◌, ◌≤◌, ℕ, ℤ, pos, ◌+ℤ◌, ◌*ℤ◌, unsigned_abs, FitsSigned, to_z, of_z, refl, arith, ap, ◌∙◌}
use Rattle.std.proofs.lemmas.Int.{ints, fits_signed_from_abs, to_z-of_z, to_z_pos}
use mir.Syntax.{w16, w64}
use Rattle.account_need.proofs.OnLine.{value_small}

fits_small : (z : ℤ) → unsigned_abs z ≤ 2000000000000 → FitsSigned w64 z
fits_small z le = fits_signed_from_abs w64 z (omega arith)

pub value_bits : (a b : ℤ) (t s : ℕ) → unsigned_abs a ≤ 1000000000 → unsigned_abs b ≤ 1000 → t ≤ 1000 → s ≤ 1000000000
    → to_z w64 (of_z w64 (to_z w64 (of_z w64 (to_z w64 (of_z w64 a) *ℤ to_z w64 t)) +ℤ to_z w64 (of_z w64 (to_z w64 (of_z w64 b) *ℤ to_z w64 s)))) ≡ (a *ℤ pos t) +ℤ (b *ℤ pos s)
value_bits a b t s ha hb ht hs =
    let sizes = value_small a b t s ha hb ht hs in
    let ea = to_z-of_z w64 a (fits_small a (omega (arith, ha))) in
    let eb = to_z-of_z w64 b (fits_small b (omega (arith, hb))) in
    let et = to_z_pos w64 t (omega (arith, ht)) in
    let es = to_z_pos w64 s (omega (arith, hs)) in
    let e1 = to_z-of_z w64 (a *ℤ pos t) (fits_small (a *ℤ pos t) (omega (arith, sizes.0))) in
    let e2 = to_z-of_z w64 (b *ℤ pos s) (fits_small (b *ℤ pos s) (omega (arith, sizes.1))) in
    let e3 = to_z-of_z w64 ((a *ℤ pos t) +ℤ (b *ℤ pos s)) (fits_small ((a *ℤ pos t) +ℤ (b *ℤ pos s)) (omega (arith, ints, sizes.0, sizes.1))) in
    rw (ea, et, eb, es, e1, e2, e3) refl

pub sum_small : (a b : ℤ) (t s : ℕ) → unsigned_abs a ≤ 1000000000 → unsigned_abs b ≤ 1000 → t ≤ 1000 → s ≤ 1000000000
    → unsigned_abs ((a *ℤ pos t) +ℤ (b *ℤ pos s)) ≤ 2000000000000
sum_small a b t s ha hb ht hs =
    let sizes = value_small a b t s ha hb ht hs in
    omega (arith, ints, sizes.0, sizes.1)

-- a leg: its count and what its option pays
pub leg_bits : (n f : ℤ) (h : ℕ) → f ≡ to_z w16 (of_z w16 n) → unsigned_abs n ≤ 1000 → h ≤ 2000000000000 → to_z w64 (of_z w64 f) *ℤ to_z w64 h ≡ n *ℤ pos h
leg_bits n f h from few low =
    let count : f ≡ n = from ∙ to_z-of_z w16 n (fits_signed_from_abs w16 n (omega (arith, few))) in
    let en : to_z w64 (of_z w64 f) ≡ n = ap (λ (z : ℤ). to_z w64 (of_z w64 z)) count ∙ to_z-of_z w64 n (fits_small n (omega (arith, few))) in
    let eh : to_z w64 h ≡ pos h = to_z_pos w64 h (omega (arith, low)) in
    (λ j. en j *ℤ eh j)
