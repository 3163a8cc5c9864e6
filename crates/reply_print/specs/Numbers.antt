-- The text of a fraction.
use Rattle.std.specs.Prelude.{ℕ, List, ◌∷◌, ◌++◌, ◌==◌, decimal, if◌then◌else◌}
use Rattle.std.specs.Fmt.{signed_decimal}
use Rattle.exact_num.specs.Fraction.{Fraction}

-- a whole number, or the numerator over the denominator
abbrev pub fraction_text : Fraction → List ℕ
fraction_text x = if x.denominator == 1 then signed_decimal x.numerator else signed_decimal x.numerator ++ 47 ∷ decimal x.denominator
