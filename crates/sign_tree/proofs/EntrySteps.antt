-- The entries of a leaf, one after another.
use Rattle.std.proofs.Common.{◌≡◌, ℕ, min, zero, suc, ◌+◌, ◌-◌, ◌<◌, false, List, arith, ℤ, pos, negsuc, Ok, refl}
use Rattle.std.specs.Int.{int_signum}
use Rattle.std.specs.Prelude.{int_lt}
use Rattle.exact_num.specs.Fraction.{Fraction}
use Rattle.clearing_model.specs.Tree.{Sign}
use Rattle.clearing_model.specs.Written.{PlacedMultiplier}
use Rattle.sign_tree.specs.Walk.{FractionLeg, entry_sum, entries_close}

-- what is not above 0 has a sign that is not
not_above : (z : ℤ) → int_lt (pos 0) (int_signum z) ≡ false → int_lt (pos 0) z ≡ false
not_above (pos zero) h = refl
not_above (pos (suc n)) h =
    let one : min (suc n) 1 ≡ 1 = omega arith in
    let sign = rw one at h in
    cc
not_above (negsuc n) h = refl

-- an entry that is not above 0, and the entries after it
pub entries_step : (limit : ℕ) (legs : List FractionLeg) (L : Fraction) (signs : List Sign) (ms : List PlacedMultiplier) (i count : ℕ) (sum : Fraction) → i < count
    → entry_sum limit legs L signs ms i ≡ Ok sum → int_lt (pos 0) (int_signum sum.numerator) ≡ false
    → entries_close limit legs L signs ms i (count - i) ≡ entries_close limit legs L signs ms (i + 1) (count - (i + 1))
entries_step limit legs L signs ms i count sum lt is low =
    let e : count - i ≡ suc (count - (i + 1)) = omega arith in
    rw (e, is, not_above sum.numerator low) refl
