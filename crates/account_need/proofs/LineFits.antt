-- Bounds of 128 bits.
use Rattle.std.proofs.Common.{◌^◌, ◌≤◌, ℤ, unsigned_abs, FitsSigned, arith}
use Rattle.std.specs.Int.{int_max}
use Rattle.std.proofs.lemmas.Int.{ints, fits_signed_from_abs, int_max_is}
use mir.Syntax.{w128}

pub bound_fits : (z : ℤ) → unsigned_abs z ≤ 2 ^ 126 → FitsSigned w128 z
bound_fits z le = fits_signed_from_abs w128 z (omega arith)

pub max_small : (a b : ℤ) → unsigned_abs a ≤ 2 ^ 126 → unsigned_abs b ≤ 2 ^ 126 → unsigned_abs (int_max a b) ≤ 2 ^ 126
max_small a b ha hb = omega (arith, ints, ha, hb, int_max_is a b)
