-- The program of a node as it is given row by row.
use Rattle.std.specs.Prelude.{ℕ, suc, ◌≡◌, ◌+◌, ◌≤◌, List, ◌∷◌, ◌++◌, map, replicate, ℤ, pos, negsuc, Result, Ok}
use Rattle.exact_num.specs.declared.misfit.Wide.{Wide}
use Rattle.exact_num.specs.Fraction.{Fraction}
use Rattle.exact_num.specs.Fits.{after, whole_of}
use Rattle.master_program.specs.Master.{map_steps}
use Rattle.simplex_run.specs.Places.{fraction_zero}
use Rattle.simplex_run.specs.Program.{LinearProgram}
use Rattle.simplex.specs.Spaces.{Contents, Workspace, IsProgramGiven, given, program_given}
use Rattle.pricing_oracle.specs.Filled.{HasMade}
use Rattle.master_program.specs.Node.{minus_units}
use Rattle.master_program.specs.Roles.{Role, Idle, Covering, Free, Above, Below, values}
use Rattle.master_program.specs.NodeSteps.{cover_cost_steps, covering_legs, negated_of, state_cost_steps}
use Rattle.clearing_model.specs.Tree.{Sign}
use Rattle.sign_tree.specs.Legs.{FractionLeg}

-- -1 behind some zeros and before others
abbrev pub unit_at : ℕ → ℕ → List ℤ
unit_at before behind = replicate before (pos 0) ++ negsuc 0 ∷ replicate behind (pos 0)

-- the rows of units whose first one has so many zeros before it
abbrev pub units_from : ℕ → ℕ → List (List ℤ)
units_from before k = map (λ (r : List ℤ). replicate before (pos 0) ++ r) (minus_units k)

-- the entries of a signed leg's row: with a minus above
abbrev pub signed_entries : ℕ → Role → List ℤ → Result (List Fraction) Wide
signed_entries limit Above v = map_steps (negated_of limit) v
signed_entries limit Below v = map_steps (whole_of limit) v
signed_entries limit Idle v = map_steps (whole_of limit) v
signed_entries limit Covering v = map_steps (whole_of limit) v
signed_entries limit Free v = map_steps (whole_of limit) v

-- the program and so many rows more, with these coefficients and 0 on the right
abbrev pub with_rows : LinearProgram → ℕ → List Fraction → LinearProgram
with_rows p k rows =
    record p { rows = p.rows + k; coefficients = p.coefficients ++ rows; right_sides = p.right_sides ++ replicate k fraction_zero }

-- what stands in a space to which so many rows were given
abbrev pub given_with : LinearProgram → ℕ → Result (List Fraction) Wide → Result Contents Wide
given_with p k rows = after rows (λ more. Ok (given (with_rows p k more)))

-- the call has given so many rows to a space, or met the first misfit
abbrev pub HasGiven : Workspace → ℕ → Result (List Fraction) Wide → Result (Unit {0}) Wide → Workspace → Type 0
HasGiven old k rows result new = HasMade (λ (done : Unit {0}). new.contents) (given_with (program_given old.contents) k rows) result

-- a space in which a program of so many variables stands, with room for so many rows more
pub record IsOpen (space : Workspace) (variables more : ℕ) : Type 0 where
  pub given : IsProgramGiven space.contents
  pub width : (program_given space.contents).variables ≡ variables
  pub room : (program_given space.contents).rows + more ≤ space.rows

abbrev pub HasSameSize : Workspace → Workspace → Type 0
HasSameSize a b = (b.rows ≡ a.rows) × (b.columns ≡ a.columns)

-- the costs of a node, one after another
abbrev pub costs_steps : ℕ → ℕ → List FractionLeg → Fraction → List Sign → Result (List Fraction) Wide
costs_steps limit n legs L signs =
    after (map_steps (state_cost_steps limit legs L signs) (values (λ i. i) (suc n)))
    (λ costs. after (map_steps (cover_cost_steps limit) (covering_legs legs signs)) (λ cover_costs. Ok (costs ++ cover_costs)))
