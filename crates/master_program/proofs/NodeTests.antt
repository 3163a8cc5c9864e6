-- What the tests of signs say.
use Rattle.std.proofs.Common.{◌≡◌, ℕ, zero, suc, ◌*◌, ◌≤◌, true, false, Bool, ◌&&◌, int_lt, arith, ℤ, pos, negsuc, ◌*ℤ◌, ◌≤ℤ◌, ◌<ℤ◌, refl, ap, sym, ◌∙◌}
use Rattle.std.proofs.lemmas.Int.{ints}
use Rattle.std.proofs.Math.Nat.{mul-pos}
use Rattle.std.proofs.Math.Bool.{and-false}
use Rattle.arithmetic.specs.Sums.{positive_part}
use Rattle.arithmetic.proofs.Integers.{*ℤ_mono, *ℤ_mono_lt}
use Rattle.arithmetic.proofs.Parts.{part_below}
use Rattle.arithmetic.proofs.Tests.{int_lt-no, int_lt-yes}
use Rattle.master_program.specs.Roles.{is_positive}

-- ---- an amount is above 0 exactly where the fill and the size of the count are
pub positive_yes : (m : ℕ) → 1 ≤ m → is_positive m ≡ true
positive_yes zero h = absurd (omega (arith, h))
positive_yes (suc m) h = refl

pub positive_no : (m : ℕ) → m ≡ 0 → is_positive m ≡ false
positive_no m h = ap is_positive h

above_part : (v : ℤ) → pos 0 <ℤ v → 1 ≤ positive_part v
above_part (pos m) h = omega (arith, ints, h)
above_part (negsuc m) h = absurd (omega (arith, ints, h))

pub filled_is : (n : ℤ) (q size : ℕ) → 1 ≤ q → (int_lt (pos 0) n && is_positive size) ≡ is_positive (positive_part (n *ℤ pos q) * size)
filled_is n q zero one = and-false (int_lt (pos 0) n) ∙ sym (positive_no (positive_part (n *ℤ pos q) * 0) (omega arith))
filled_is n q (suc b) one = by (int_lt (pos 0) n) refl
  where
    by : (t : Bool) → int_lt (pos 0) n ≡ t → (int_lt (pos 0) n && true) ≡ is_positive (positive_part (n *ℤ pos q) * suc b)
    by true e =
        let above : pos 0 <ℤ (n *ℤ pos q) = omega (arith, ints, *ℤ_mono_lt (pos 0) n q (int_lt-yes (pos 0) n e) one) in
        ap (λ (t : Bool). t && true) e ∙ sym (positive_yes (positive_part (n *ℤ pos q) * suc b) (mul-pos (above_part (n *ℤ pos q) above) (omega arith)))
    by false e =
        let low : (n *ℤ pos q) ≤ℤ pos 0 = omega (arith, ints, *ℤ_mono q n (pos 0) (int_lt-no (pos 0) n e)) in
        ap (λ (t : Bool). t && true) e
        ∙ sym (positive_no (positive_part (n *ℤ pos q) * suc b) (ap (λ (m : ℕ). m * suc b) (part_below (n *ℤ pos q) low) ∙ omega arith))
