-- The linear program that a program of the code stands for.
use Rattle.std.specs.Prelude.{◌≡◌, ◌*◌, ◌≤◌, map, vec_len}
use Rattle.std.specs.List.{All}
use Rattle.exact_num.specs.Fraction.{Fraction, IsNotBelowZero}
use Rattle.simplex_run.specs.Program.{LinearProgram}
use Rattle.fraction_tableau.specs.declared.limits.TheConstants.{MAX_SIDE}
use Rattle.linear_programs.specs.declared.program.Program.{Program}

-- the lists have the sizes that it says, no side is above the limit, and no right side is below 0
pub record IsProper {A : Type 0} (value : A → Fraction) (p : Program A) : Type 0 where
  pub coefficients : vec_len p.a ≡ p.m * p.n
  pub right_sides : vec_len p.b ≡ p.m
  pub costs : vec_len p.c ≡ p.n
  pub variables : p.n ≤ MAX_SIDE
  pub rows : p.m ≤ MAX_SIDE
  pub not_below_zero : All (λ b. IsNotBelowZero (value b)) p.b.items

abbrev pub as_program : {A : Type 0} → (A → Fraction) → Program A → LinearProgram
as_program value p =
    record {
      variables = p.n;
      rows = p.m;
      coefficients = map value p.a.items;
      right_sides = map value p.b.items;
      costs = map value p.c.items;
    }
