-- What the program of a node is, and that its objective has an upper bound.
use Rattle.std.specs.Prelude.{ℕ, ◌≡◌, ◌≤◌, List, ℤ, Ok}
use Rattle.std.specs.Int.{◌∣◌}
use Rattle.std.specs.List.{All}
use Rattle.exact_num.specs.Fraction.{Fraction, IsLowest, IsNotBelowZero}
use Rattle.exact_num.specs.CommonDenominator.{amount_over}
use Rattle.exact_num.specs.Laws.{IsWithin}
use Rattle.simplex_run.specs.Program.{LinearProgram}
use Rattle.simplex_run.specs.Optimum.{IsProgram, IsDirection}
use Rattle.clearing_model.specs.Legs.{FilledLeg}
use Rattle.clearing_model.specs.Tree.{Sign}
use Rattle.master_program.specs.Node.{node_program}
use Rattle.sign_tree.specs.Legs.{FractionLeg}
use Rattle.master_program.specs.NodeSteps.{legs_over, leg_fill_steps, node_steps}

-- a fraction in lowest terms whose denominator divides D
pub record IsOver (D : ℕ) (f : Fraction) : Type 0 where
  pub lowest : IsLowest f
  pub divides : f.denominator ∣ D

-- a leg whose order's fill is one, and not below 0
abbrev pub IsFillOver : ℕ → FractionLeg → Type 0
IsFillOver D leg = IsOver D leg.fill × IsNotBelowZero leg.fill

-- where each step fits, the steps give the program in whole numbers over any common denominator,
-- whatever the limit
abbrev pub StepsGiveNode : Type 0
StepsGiveNode =
    (limit n D : ℕ) (legs : List FractionLeg) (L : Fraction) (signs : List Sign) (p : LinearProgram)
    → 1 ≤ D → All (IsFillOver D) legs → IsOver D L
    → node_steps limit n legs L signs ≡ Ok p → p ≡ node_program n D (legs_over D legs) (amount_over D L) signs

-- it is a program whose right sides are not below 0
abbrev pub NodeIsProgram : Type 0
NodeIsProgram =
    (n D : ℕ) (legs : List FilledLeg) (L : ℤ) (signs : List Sign) → 1 ≤ D → IsProgram (node_program n D legs L signs)

-- in no direction does its objective rise without an end
abbrev pub NodeIsBounded : Type 0
NodeIsBounded =
    (n D : ℕ) (legs : List FilledLeg) (L : ℤ) (signs : List Sign) (d : List Fraction)
    → 1 ≤ D → IsDirection (node_program n D legs L signs) d → ⊥

-- the fill of a leg that counts once is that of its order
abbrev pub OneCountFills : Type 0
OneCountFills = (limit : ℕ) (leg : FractionLeg) → 1 ≤ limit → IsWithin limit leg.fill → leg.size ≡ 1 → leg_fill_steps limit leg ≡ Ok leg.fill
