-- The columns of a row that are not 0.
use Rattle.std.specs.Prelude.{ℕ, ◌+◌, List, [], ◌∷◌, Bool, if◌then◌else◌, nat_eq, unsigned_abs}
use Rattle.exact_num.specs.Fraction.{Fraction}

abbrev pub is_zero : Fraction → Bool
is_zero x = nat_eq (unsigned_abs x.numerator) 0

-- the places of the entries that are not 0, rising, the first entry being at place i
unfoldable pub nonzero_from : ℕ → List Fraction → List ℕ
nonzero_from i [] = []
nonzero_from i (x ∷ xs) = let later = nonzero_from (i + 1) xs in if is_zero x then later else i ∷ later

abbrev pub nonzero_places : List Fraction → List ℕ
nonzero_places xs = nonzero_from 0 xs
