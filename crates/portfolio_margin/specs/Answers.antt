-- What the answers of the code say of the run.
use Rattle.std.specs.Prelude.{ℕ, ◌+◌, ◌≡◌, List, map, Result, Ok, Err}
use Rattle.frac.specs.Range.{limit as largest}
use Rattle.frac.specs.Value.{fraction_of}
use Rattle.frac.specs.declared.frac128.Frac128.{Frac128}
use Rattle.form.specs.declared.orders.Batch.{Batch}
use Rattle.form.specs.States.{vector_of}
use Rattle.clearing_model.specs.Certificate.{ClosesAsWritten}
use Rattle.clearing_model.specs.Written.{WrittenTree}
use Rattle.sign_tree.specs.Read.{node_of, placed_of}
use Rattle.simplex.specs.declared.stop.SolveStop.{SolveStop}
use Rattle.simplex.specs.declared.stop.SolveStop.TheVariants.{Wide as WideStop, Budget as BudgetStop, Memory}
use Rattle.simplex_run.specs.Ending.{Ending, done, wide_at, no_unit_left}
use Rattle.pricing_oracle.specs.Answers.{IsTreeAs}
use Rattle.settlement.specs.declared.position.Position.{Position}
use Rattle.portfolio_margin.specs.declared.least_margin.LeastMargin.{LeastMargin}
use Rattle.portfolio_margin.specs.declared.least_margin.LeastMargin.TheVariants.{Least, Unbounded, Wide, Budget}
use Rattle.portfolio_margin.specs.declared.turn.Turn.{Turn as TurnOf}
use Rattle.portfolio_margin.specs.declared.turn.Turn.TheVariants.{Ends, Goes}
use Rattle.portfolio_margin.specs.Owed.{IsLeast, IsUnbounded, fills_of}
use Rattle.portfolio_margin.specs.Run.{MarginQuestion, Margin, least, endless, Turn, ends, goes, orders_of}

-- a batch and its fills in numbers of the code
abbrev pub asked_in : ℕ → Batch → List Frac128 → MarginQuestion
asked_in budget batch fills = record { limit = largest; budget = budget; underlyings = batch.underlyings; orders = batch.orders; fills = map fraction_of fills }

-- a run ends with what the code found, or for want of a unit, or at a number that does not fit
abbrev pub IsMarginOf : Ending Margin → LeastMargin → Type 0
IsMarginOf ending (Least L at tree) =
    (written : WrittenTree) × (units : ℕ) × IsTreeAs written tree × (ending ≡ done (least (fraction_of L) (vector_of at) written) units)
IsMarginOf ending (Unbounded ray) = (units : ℕ) × (ending ≡ done (endless (vector_of ray)) units)
IsMarginOf ending (Wide unit wide) = ending ≡ wide_at unit wide
IsMarginOf ending Budget = (units : ℕ) × (ending ≡ no_unit_left units)

-- and so many units are spent by then
abbrev pub IsMarginWith : Ending Margin → LeastMargin → ℕ → Type 0
IsMarginWith ending (Least L at tree) units =
    (written : WrittenTree) × IsTreeAs written tree × (ending ≡ done (least (fraction_of L) (vector_of at) written) units)
IsMarginWith ending (Unbounded ray) units = ending ≡ done (endless (vector_of ray)) units
IsMarginWith ending (Wide unit wide) units = ending ≡ wide_at unit wide
IsMarginWith ending Budget units = ending ≡ no_unit_left units

-- the least liability, with a tree that closes for the batch of the positions; or that there is
-- none
abbrev pub IsTrueOf : ℕ → List Position → LeastMargin → Type 0
IsTrueOf n positions (Least L at tree) =
    IsLeast n positions (fraction_of L) (vector_of at)
    × ClosesAsWritten n (orders_of positions) (fills_of positions) (fraction_of L) (map node_of tree.nodes) (map placed_of tree.multipliers)
IsTrueOf n positions (Unbounded ray) = IsUnbounded n positions (vector_of ray)
IsTrueOf n positions (Wide unit wide) = Unit {0}
IsTrueOf n positions Budget = Unit {0}

-- ---- parts of the run, with the units that are spent; want of memory says nothing
abbrev pub StopsAs : {A : Type 0} → Ending A → SolveStop → ℕ → Type 0
StopsAs ending (WideStop unit wide) spent = (ending ≡ wide_at unit wide) × (spent ≡ unit)
StopsAs ending BudgetStop spent = ending ≡ no_unit_left spent
StopsAs ending Memory spent = Unit {0}

abbrev pub EndsAs : Ending Margin → LeastMargin → ℕ → Type 0
EndsAs ending (Least L at tree) spent =
    (written : WrittenTree) × IsTreeAs written tree × (ending ≡ done (least (fraction_of L) (vector_of at) written) spent)
EndsAs ending (Unbounded ray) spent = ending ≡ done (endless (vector_of ray)) spent
EndsAs ending (Wide unit wide) spent = ⊥
EndsAs ending Budget spent = ⊥

abbrev pub IsEndOf : Ending Margin → Result LeastMargin SolveStop → ℕ → Type 0
IsEndOf ending (Ok margin) spent = EndsAs ending margin spent
IsEndOf ending (Err stop) spent = StopsAs ending stop spent

abbrev pub TurnsAs : Ending Turn → TurnOf → ℕ → Type 0
TurnsAs ending (Ends (Least L at tree)) spent =
    (written : WrittenTree) × IsTreeAs written tree × (ending ≡ done (ends (least (fraction_of L) (vector_of at) written)) spent)
TurnsAs ending (Ends (Unbounded ray)) spent = ending ≡ done (ends (endless (vector_of ray))) spent
TurnsAs ending (Ends (Wide unit wide)) spent = ⊥
TurnsAs ending (Ends Budget) spent = ⊥
TurnsAs ending (Goes wanted) spent = ending ≡ done (goes (fraction_of wanted.liability) (vector_of wanted.at)) spent

abbrev pub IsTurnOf : Ending Turn → Result TurnOf SolveStop → ℕ → Type 0
IsTurnOf ending (Ok turn) spent = TurnsAs ending turn spent
IsTurnOf ending (Err stop) spent = StopsAs ending stop spent

-- the state that goes on is one of n underlyings
abbrev pub IsOnForms : ℕ → TurnOf → Type 0
IsOnForms n (Ends margin) = Unit {0}
IsOnForms n (Goes wanted) = wanted.at.count ≡ n + 1
