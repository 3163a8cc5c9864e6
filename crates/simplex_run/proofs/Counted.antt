-- The units that a run spends.
use Rattle.std.proofs.Common.{ℕ, zero, suc, ◌+◌, arith}
use Rattle.std.specs.Prelude.{Option, Some, None}
use Rattle.simplex_run.specs.Table.{Table, first_table}
use Rattle.simplex_run.specs.Choice.{Column, entering}
use Rattle.simplex_run.specs.Ending.{Ending, done, unbounded, wide_at, no_unit_left}
use Rattle.simplex_run.specs.Run.{Optimum, optimum, PivotEnd, moved, unlimited, stopped, pivoted, on_entering, on_pivot, read_off, direction, run_from, run}
use Rattle.simplex_run.specs.Units.{IsCounted, UnitsAreCounted}

-- an end counted after one more unit
more : (left spent : ℕ) (e : Ending Optimum) → IsCounted left (spent + 1) e → IsCounted (suc left) spent e
more left spent (done (optimum x y reduced value) units) h = (omega (arith, h.0), omega (arith, h.1))
more left spent (unbounded d units) h = (omega (arith, h.0), omega (arith, h.1))
more left spent (wide_at units wide) h = (omega (arith, h.0), omega (arith, h.1))
more left spent (no_unit_left units) h = omega (arith, h)

read_counted : (left n m : ℕ) (t : Table) (spent : ℕ) → IsCounted left spent (read_off n m t spent)
unfolding read_off
read_counted left n m t spent = (omega arith, omega arith)

counted : (limit n m left spent : ℕ) (t : Table) → IsCounted left spent (run_from limit n m left spent t)
unfolding run_from
counted limit n m zero spent t = step (entering t)
  where
    step : (o : Option Column) → IsCounted 0 spent (on_entering o (read_off n m t spent) (λ c. no_unit_left spent))
    step None = read_counted 0 n m t spent
    step (Some c) = omega arith
counted limit n m (suc left) spent t = step (entering t) (λ u. counted limit n m left (spent + 1) u)
  where
    act : (c : Column) (w : PivotEnd) → ((u : Table) → IsCounted left (spent + 1) (run_from limit n m left (spent + 1) u))
        → IsCounted (suc left) spent (on_pivot w (λ next. run_from limit n m left (spent + 1) next) (unbounded (direction n c t) (spent + 1)) (λ w. wide_at (spent + 1) w))
    act c (moved u) later = more left spent (run_from limit n m left (spent + 1) u) (later u)
    act c unlimited later = (omega arith, omega arith)
    act c (stopped w) later = (omega arith, omega arith)

    step : (o : Option Column) → ((u : Table) → IsCounted left (spent + 1) (run_from limit n m left (spent + 1) u))
        → IsCounted (suc left) spent (on_entering o (read_off n m t spent) (λ c. on_pivot (pivoted limit c.place t) (λ next. run_from limit n m left (spent + 1) next) (unbounded (direction n c t) (spent + 1)) (λ w. wide_at (spent + 1) w)))
    step None later = read_counted (suc left) n m t spent
    step (Some c) later = act c (pivoted limit c.place t) later

pub units_are_counted : UnitsAreCounted
unfolding run
units_are_counted limit p left spent = counted limit p.variables p.rows left spent (first_table p)
