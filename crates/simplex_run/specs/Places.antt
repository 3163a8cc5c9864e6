-- Lists by place, counted from 0.
use Rattle.std.specs.Prelude.{ℕ, zero, suc, ◌+◌, List, [], ◌∷◌, replicate, pos, slice_index_or}
use Rattle.exact_num.specs.Fraction.{Fraction, whole}

abbrev pub fraction_zero : Fraction
fraction_zero = whole (pos 0)

-- the entry at place i, and 0 past the end
abbrev pub at : List Fraction → ℕ → Fraction
at xs i = slice_index_or xs i fraction_zero

-- f at j, j + 1 and so on, n of them
unfoldable pub values_at : {A : Type 0} → (ℕ → A) → ℕ → ℕ → List A
values_at f j zero = []
values_at f j (suc n) = f j ∷ values_at f (j + 1) n

-- j, j + 1 and so on, n of them
abbrev pub numbers : ℕ → ℕ → List ℕ
numbers j n = values_at (λ i. i) j n

-- 1 at place i of n places, else 0
unfoldable pub unit_row : ℕ → ℕ → List Fraction
unit_row zero i = []
unit_row (suc n) zero = whole (pos 1) ∷ replicate n fraction_zero
unit_row (suc n) (suc i) = fraction_zero ∷ unit_row n i
