-- The rows of a pivot without their basic variables.
use Rattle.std.specs.Prelude.{ℕ, ◌+◌, List, [], ◌∷◌, map, take, if◌then◌else◌, nat_eq, slice_index_or, Result, Ok}
use Rattle.exact_num.specs.declared.misfit.Wide.{Wide}
use Rattle.exact_num.specs.Fraction.{Fraction}
use Rattle.exact_num.specs.Fits.{after}
use Rattle.simplex_run.specs.Pivot.{divided, eliminated}

-- what the first `width` entries of a row mean, and of each row
abbrev pub front : {A : Type 0} → (A → Fraction) → ℕ → List A → List Fraction
front value width row = map value (take width row)

abbrev pub fronts : {A : Type 0} → (A → Fraction) → ℕ → List (List A) → List (List Fraction)
fronts value width rows = map (front value width) rows

-- row i, which is the pivot row or is eliminated
abbrev pub list_after : ℕ → ℕ → List ℕ → ℕ → List Fraction → ℕ → List Fraction → Result (List Fraction) Wide
list_after limit c labels r pivot i xs = let other = eliminated limit c labels pivot xs in if nat_eq i r then Ok pivot else other

-- the rows in rising order, the first being row i
unfoldable pub lists_after : ℕ → ℕ → List ℕ → ℕ → List Fraction → ℕ → List (List Fraction) → Result (List (List Fraction)) Wide
lists_after limit c labels r pivot i [] = Ok []
lists_after limit c labels r pivot i (xs ∷ rows) =
    after (list_after limit c labels r pivot i xs)
    (λ first. after (lists_after limit c labels r pivot (i + 1) rows) (λ others. Ok (first ∷ others)))

-- the rows and the objective row of a pivot
abbrev pub lists_after_pivot : ℕ → ℕ → List ℕ → ℕ → List (List Fraction) → List Fraction → Result (List (List Fraction) × List Fraction) Wide
lists_after_pivot limit c labels r rows objective =
    after (divided limit c labels (slice_index_or rows r []))
    (λ pivot. after (lists_after limit c labels r pivot 0 rows)
    (λ others. after (eliminated limit c labels pivot objective) (λ last. Ok (others, last))))
