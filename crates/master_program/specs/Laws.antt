-- What the master program is, and that its objective has an upper bound.
use Rattle.std.specs.Prelude.{ℕ, zero, suc, ◌+◌, ◌≡◌, ◌≤◌, List, [], ◌++◌, map, Ok}
use Rattle.std.specs.List.{flat_map}
use Rattle.exact_num.specs.Fraction.{Fraction, whole}
use Rattle.simplex_run.specs.Program.{LinearProgram}
use Rattle.simplex_run.specs.Places.{unit_row}
use Rattle.simplex_run.specs.Optimum.{IsProgram, IsDirection}
use Rattle.form.specs.declared.orders.Order.{Order}
use Rattle.master_program.specs.Master.{zero_prices, quantity_rows, plain_master, master}
use Rattle.master_program.specs.Reading.{Reading, reading_of}

-- where each step fits, the steps give the program of whole numbers, whatever the limits
abbrev pub StepsGiveMaster : Type 0
StepsGiveMaster =
    (payoff_limit limit n : ℕ) (orders : List Order) (states : List (List ℕ)) (p : LinearProgram)
    → master payoff_limit limit orders states ≡ Ok p → p ≡ plain_master (zero_prices n) orders states

-- rows of n places that are 0 but for a 1: at place i in the first, and one place later in each of
-- those that are left
unfoldable pub unit_rows : ℕ → ℕ → ℕ → List Fraction
unit_rows n i zero = []
unit_rows n i (suc left) = unit_row n i ++ unit_rows n (i + 1) left

-- the coefficients of the rows of quantities, as a loop writes them
abbrev pub QuantityRowsAreUnitRows : Type 0
QuantityRowsAreUnitRows = (k : ℕ) → flat_map (map whole) (quantity_rows k) ≡ unit_rows (k + 1) 0 k

-- it is a program whose right sides are not below 0
abbrev pub MasterIsProgram : Type 0
MasterIsProgram = (first : List ℕ) (orders : List Order) (states : List (List ℕ)) → IsProgram (plain_master first orders states)

-- in no direction does its objective rise without an end
abbrev pub MasterIsBounded : Type 0
MasterIsBounded =
    (first : List ℕ) (orders : List Order) (states : List (List ℕ)) (d : List Fraction)
    → IsDirection (plain_master first orders states) d → ⊥

-- program and reading are the same at both limits, where each step fits the first
pub record AreTheSame (payoff_limit l l' : ℕ) (first : List ℕ) (orders : List Order) (states : List (List ℕ)) : Type 0 where
  pub program : (p : LinearProgram) → master payoff_limit l orders states ≡ Ok p → master payoff_limit l' orders states ≡ Ok p
  pub reading : (x y reduced : List Fraction) (value : Fraction) (r : Reading)
      → reading_of l first orders states x y reduced value ≡ Ok r → reading_of l' first orders states x y reduced value ≡ Ok r

-- a greater limit changes nothing where each step fits
abbrev pub SameWithGreaterLimit : Type 0
SameWithGreaterLimit =
    (payoff_limit l l' : ℕ) (first : List ℕ) (orders : List Order) (states : List (List ℕ))
    → l ≤ l' → AreTheSame payoff_limit l l' first orders states
