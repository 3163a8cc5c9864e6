-- What the sign of a number says of it.
use Rattle.std.proofs.Common.{◌≡◌, ◌∙◌, sym, ap, refl, arith, ℤ, pos, negsuc, Bool, to_z, of_z, to_z-of_z}
use Rattle.std.specs.Prelude.{int_lt}
use Rattle.std.specs.Int.{int_signum}
use Rattle.std.proofs.lemmas.Bool.Decides.{nat_tests}
use mir.Val.{SFits}
use mir.Syntax.{w8}

below_is : (n : ℤ) → int_lt (int_signum n) (pos 0) ≡ int_lt n (pos 0)
below_is (pos n) = grind (arith, nat_tests)
below_is (negsuc n) = refl

above_is : (n : ℤ) → int_lt (pos 0) (int_signum n) ≡ int_lt (pos 0) n
above_is (pos n) = grind (arith, nat_tests)
above_is (negsuc n) = refl

-- the tests of the code are those of the definition
pub sign_below : (s n : ℤ) (b : Bool) → s ≡ int_signum n → SFits w8 s → int_lt (to_z w8 (of_z w8 s)) (pos 0) ≡ b → int_lt n (pos 0) ≡ b
sign_below s n b e f h = sym (below_is n) ∙ ap (λ (z : ℤ). int_lt z (pos 0)) (sym e ∙ sym (to_z-of_z f)) ∙ h

pub sign_above : (s n : ℤ) (b : Bool) → s ≡ int_signum n → SFits w8 s → int_lt (pos 0) (to_z w8 (of_z w8 s)) ≡ b → int_lt (pos 0) n ≡ b
sign_above s n b e f h = sym (above_is n) ∙ ap (λ (z : ℤ). int_lt (pos 0) z) (sym e ∙ sym (to_z-of_z f)) ∙ h
