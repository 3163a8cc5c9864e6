-- Why what is read off an optimum of the master program is certified.
use Rattle.std.specs.Prelude.{ℕ, ◌≡◌, List, ◌∷◌, Ok}
use Rattle.std.specs.List.{zip, All}
use Rattle.exact_num.specs.Fraction.{Fraction, IsLowest}
use Rattle.simplex_run.specs.Program.{LinearProgram}
use Rattle.simplex_run.specs.Ending.{done, unbounded}
use Rattle.simplex_run.specs.Run.{run, optimum}
use Rattle.simplex_run.specs.Optimum.{IsOptimum}
use Rattle.form.specs.declared.orders.Order.{Order}
use Rattle.form.specs.Vector.{IsState, scale_of}
use Rattle.clearing_model.specs.Certificate.{Point, FillsCover, IsFractionMeasure, MeasureProves}
use Rattle.master_program.specs.Master.{zero_prices, plain_master, master}
use Rattle.master_program.specs.Reading.{Reading, reading_with, reading_of, points_with_weight}
use Rattle.master_program.specs.Solve.{master_solve}
use Rattle.cert_check.specs.Breakpoints.{later_states}
use Rattle.master_program.specs.Certified.{IsSolved, IsCertifiedAt, IsGreatestByMeasure, IsGreatestByLine}

-- the states, each with its weight
abbrev pub measure_points : List ℕ → List (List ℕ) → Fraction → List Fraction → List Point
measure_points first states first_weight weights = (first, first_weight) ∷ zip states weights

-- an optimum over any states certifies itself at them; the first of them is a settlement with t = 1
abbrev pub MasterCertifies : Type 0
MasterCertifies =
    (n : ℕ) (first : List ℕ) (orders : List Order) (states : List (List ℕ)) (fills : List Fraction) (slack L S : Fraction) (duals weights reduced : List Fraction) (w : Fraction)
    → scale_of first ≡ 1 → IsState n first → All (IsState n) states
    → IsSolved first orders states fills slack L S duals weights reduced w
    → IsCertifiedAt n orders (first ∷ states) (reading_with fills S (measure_points first states w weights) L)

-- points of weight 0 may be left out of a measure
abbrev pub EmptyPointsDrop : Type 0
EmptyPointsDrop =
    (n : ℕ) (orders : List Order) (S : Fraction) (points : List Point) → All (λ (point : Point). IsLowest point.1) points
    → IsFractionMeasure n points
    → IsFractionMeasure n (points_with_weight points) × (MeasureProves orders points S → MeasureProves orders (points_with_weight points) S)

-- what is read off an optimum is certified at the states
abbrev pub ReadingsAreCertified : Type 0
ReadingsAreCertified =
    (limit n : ℕ) (orders : List Order) (states : List (List ℕ)) (x y reduced : List Fraction) (value : Fraction) (r : Reading)
    → All (IsState n) states
    → IsOptimum (plain_master (zero_prices n) orders states) x y reduced value
    → reading_of limit (zero_prices n) orders states x y reduced value ≡ Ok r
    → IsCertifiedAt n orders (zero_prices n ∷ states) r

-- so is what is read off a run of the steps, whatever the limits and the units
abbrev pub RunsAreCertified : Type 0
RunsAreCertified =
    (payoff_limit limit n left spent units : ℕ) (orders : List Order) (states : List (List ℕ)) (p : LinearProgram) (x y reduced : List Fraction) (value : Fraction) (r : Reading)
    → All (IsState n) states
    → master payoff_limit limit orders states ≡ Ok p
    → run limit p left spent ≡ done (optimum x y reduced value) units
    → reading_of limit (zero_prices n) orders states x y reduced value ≡ Ok r
    → IsCertifiedAt n orders (zero_prices n ∷ states) r

-- and no run ends unbounded
abbrev pub NoRunIsUnbounded : Type 0
NoRunIsUnbounded =
    (payoff_limit limit left spent units : ℕ) (orders : List Order) (states : List (List ℕ)) (p : LinearProgram) (d : List Fraction)
    → master payoff_limit limit orders states ≡ Ok p → run limit p left spent ≡ unbounded d units → ⊥

-- where fills that are certified at some states cover their surplus, it is the greatest
abbrev pub CoveredIsGreatest : Type 0
CoveredIsGreatest =
    (n : ℕ) (orders : List Order) (states : List (List ℕ)) (r : Reading)
    → IsCertifiedAt n orders states r → FillsCover n orders r.fills r.surplus → IsGreatestByMeasure n orders r

-- on one underlying, what is read off an optimum over the states of the line is covered by the
-- line, and the greatest
abbrev pub LineReadingsAreGreatest : Type 0
LineReadingsAreGreatest =
    (limit : ℕ) (orders : List Order) (x y reduced : List Fraction) (value : Fraction) (r : Reading)
    → IsOptimum (plain_master (zero_prices 1) orders (later_states orders)) x y reduced value
    → reading_of limit (zero_prices 1) orders (later_states orders) x y reduced value ≡ Ok r
    → IsGreatestByLine orders r

-- ---- the same of a whole solve
-- what a solve ends with is certified at its states
abbrev pub SolvesAreCertified : Type 0
SolvesAreCertified =
    (payoff_limit limit left spent n units : ℕ) (orders : List Order) (states : List (List ℕ)) (r : Reading)
    → All (IsState n) states
    → master_solve payoff_limit limit left spent n orders states ≡ done r units
    → IsCertifiedAt n orders (zero_prices n ∷ states) r

-- over the states of the line it is the greatest
abbrev pub LineSolvesAreGreatest : Type 0
LineSolvesAreGreatest =
    (payoff_limit limit left spent units : ℕ) (orders : List Order) (r : Reading)
    → master_solve payoff_limit limit left spent 1 orders (later_states orders) ≡ done r units
    → IsGreatestByLine orders r

-- no solve rises without an end
abbrev pub NoSolveRises : Type 0
NoSolveRises =
    (payoff_limit limit left spent n units : ℕ) (orders : List Order) (states : List (List ℕ)) (d : List Fraction)
    → master_solve payoff_limit limit left spent n orders states ≡ unbounded d units → ⊥
