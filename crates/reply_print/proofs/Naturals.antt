-- The test of digits, step by step.
use Rattle.std.proofs.Common.{◌≡◌, ℕ, ◌≤◌, List, [], ◌∷◌, length, get_or, true, false, not, ◌==◌, refl, arith}
use Rattle.std.specs.Char.{is_ascii_digit}
use Rattle.std.specs.List.{list_all}
use Rattle.std.proofs.Math.Bool.{or-false, or-true}
use Rattle.form.specs.Naturals.{is_natural}

pub no_digits : (t : List ℕ) → list_all is_ascii_digit t ≡ false → is_natural t ≡ false
no_digits [] h = refl
no_digits (d ∷ ds) h = rw h refl

pub one_digit : (t : List ℕ) → list_all is_ascii_digit t ≡ true → length t ≡ 1 → is_natural t ≡ true
one_digit [] h e = absurd (omega arith)
one_digit (d ∷ []) h e = rw h (or-true (not (d == 48)))
one_digit (d ∷ c ∷ ds) h e = absurd (omega arith)

pub long_natural : (t : List ℕ) → list_all is_ascii_digit t ≡ true → 2 ≤ length t → is_natural t ≡ not (get_or t 0 0 == 48)
long_natural [] h e = absurd (omega arith)
long_natural (d ∷ []) h e = absurd (omega arith)
long_natural (d ∷ c ∷ ds) h e = rw h (or-false (not (d == 48)))
