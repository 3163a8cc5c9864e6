-- Lists of fractions over one common denominator.
use Rattle.std.specs.Prelude.{ℕ, ◌*◌, ◌/◌, ◌≡◌, ◌≤◌, List, [], ◌∷◌, map, ℤ, pos, ◌*ℤ◌}
use Rattle.std.specs.List.{All}
use Rattle.arithmetic.specs.Sums.{positive_part}
use Rattle.exact_num.specs.Fraction.{Fraction, IsDefined}

-- the product of the denominators
abbrev pub common_denominator : List Fraction → ℕ
common_denominator [] = 1
common_denominator (f ∷ fs) = f.denominator * common_denominator fs

-- what stands over F, which the denominator divides
abbrev pub amount_over : ℕ → Fraction → ℤ
amount_over F f = f.numerator *ℤ pos (F / f.denominator)

-- the amounts over F of a list of fractions that are not below 0
abbrev pub amounts_over : ℕ → List Fraction → List ℕ
amounts_over F fs = map (λ f. positive_part (amount_over F f)) fs

-- the same over the product of the denominators
abbrev pub amounts_of : List Fraction → List ℕ
amounts_of fs = amounts_over (common_denominator fs) fs

-- the amounts over F of fractions of either sign
abbrev pub signed_amounts_over : ℕ → List Fraction → List ℤ
signed_amounts_over F fs = map (amount_over F) fs

-- f is x / F
abbrev pub IsRatio : Fraction → ℤ → ℕ → Type 0
IsRatio f x F = f.numerator *ℤ pos F ≡ x *ℤ pos f.denominator

-- f has a value, and is x / F; so a list of fractions, item by item
abbrev pub IsPart : ℕ → Fraction → ℤ → Type 0
IsPart F f x = IsDefined f × IsRatio f x F

abbrev pub AreParts : ℕ → List Fraction → List ℤ → Type 0
AreParts F [] [] = Unit {0}
AreParts F [] (x ∷ xs) = ⊥
AreParts F (f ∷ fs) [] = ⊥
AreParts F (f ∷ fs) (x ∷ xs) = IsPart F f x × AreParts F fs xs

-- each fraction of a list is its amount over the common denominator
abbrev pub EachIsItsAmount : Type 0
EachIsItsAmount = (fs : List Fraction) → All IsDefined fs → (1 ≤ common_denominator fs) × All (λ f. IsRatio f (amount_over (common_denominator fs) f) (common_denominator fs)) fs
