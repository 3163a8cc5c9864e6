-- The program that a sparse one stands for, and its room.
use Rattle.std.specs.Prelude.{ℕ, ◌+◌, ◌*◌, ◌≤◌, List, length, map, vec_capacity}
use Rattle.exact_num.specs.Fraction.{Fraction}
use Rattle.simplex_run.specs.Program.{LinearProgram}
use Rattle.fraction_tableau.specs.Programs.{program_of}
use Rattle.fraction_tableau.specs.declared.sparse.SparseProgram.{SparseProgram}
use Rattle.fraction_tableau.specs.SparseEntries.{rows_from}

-- with `value` the fraction that a number means: the rows, each with its right side last
abbrev pub lists_of : {A : Type 0} → (A → Fraction) → SparseProgram A → List (List Fraction)
lists_of value p = rows_from value (length p.costs.items + 1) p.entries.items 0 p.ends.items

abbrev pub program_in : {A : Type 0} → (A → Fraction) → SparseProgram A → LinearProgram
program_in value p = program_of (length p.costs.items) (lists_of value p) (map value p.costs.items)

-- room for as many rows of as many columns
pub record HasRoom {A : Type 0} (rows columns : ℕ) (p : SparseProgram A) : Type 0 where
  pub costs : columns ≤ vec_capacity p.costs
  pub ends : rows ≤ vec_capacity p.ends
  pub entries : rows * (columns + 1) ≤ vec_capacity p.entries

pub record KeepsRoom {A : Type 0} (old new : SparseProgram A) : Type 0 where
  pub costs : vec_capacity old.costs ≤ vec_capacity new.costs
  pub ends : vec_capacity old.ends ≤ vec_capacity new.ends
  pub entries : vec_capacity old.entries ≤ vec_capacity new.entries
