-- What the sign of a number says of it.
use Rattle.std.proofs.Common.{◌≡◌, ◌∙◌, ap, refl, arith, ℤ, pos, negsuc, int_le, of_z, to_z, to_z-of_z}
use Rattle.std.specs.Int.{int_signum}
use Rattle.std.proofs.lemmas.Bool.Decides.{nat_tests}
use mir.Val.{SFits}
use mir.Syntax.{w8}

not_below_is : (n : ℤ) → int_le (pos 0) (int_signum n) ≡ int_le (pos 0) n
not_below_is (pos n) = grind (arith, nat_tests)
not_below_is (negsuc n) = refl

-- the test of the code is that of the definition
pub sign_not_below : (s n : ℤ) → s ≡ int_signum n → SFits w8 s → int_le (pos 0) (to_z w8 (of_z w8 s)) ≡ int_le (pos 0) n
sign_not_below s n e f = ap (λ (z : ℤ). int_le (pos 0) z) (to_z-of_z f ∙ e) ∙ not_below_is n
