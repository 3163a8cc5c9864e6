-- The program whose costs and rows are given one after another.
use Rattle.std.specs.Prelude.{ℕ, ◌+◌, List, [], ◌∷◌, ◌++◌, length, take, map}
use Rattle.exact_num.specs.Fraction.{Fraction}
use Rattle.simplex_run.specs.Places.{at}
use Rattle.simplex_run.specs.Program.{LinearProgram}

-- these costs and no row
abbrev pub empty_program : List Fraction → LinearProgram
empty_program costs =
    record { variables = length costs; rows = 0; coefficients = []; right_sides = []; costs = costs }

-- one row more, which goes last
abbrev pub with_row : LinearProgram → List Fraction → Fraction → LinearProgram
with_row p a b =
    record p { rows = p.rows + 1; coefficients = p.coefficients ++ a; right_sides = p.right_sides ++ b ∷ [] }

-- the program of n variables whose rows are these lists of coefficients, each with its right side
-- behind them
unfoldable pub coefficients_in : ℕ → List (List Fraction) → List Fraction
coefficients_in n [] = []
coefficients_in n (xs ∷ lists) = take n xs ++ coefficients_in n lists

abbrev pub program_of : ℕ → List (List Fraction) → List Fraction → LinearProgram
program_of n lists costs =
    record {
      variables = n;
      rows = length lists;
      coefficients = coefficients_in n lists;
      right_sides = map (λ xs. at xs n) lists;
      costs = costs;
    }
