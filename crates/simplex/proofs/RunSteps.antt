-- One step of the run.
use Rattle.std.proofs.Common.{◌≡◌, ℕ, zero, suc, ◌+◌, ◌-◌, ◌<◌, ◌≤◌, refl, sym, arith}
use Rattle.std.specs.Prelude.{Some, None, Bool, true, false, nat_lt, if◌then◌else◌}
use Rattle.std.proofs.lemmas.Bool.{ltb-false, ltb-true}
use Rattle.exact_num.specs.declared.misfit.Wide.{Wide}
use Rattle.simplex_run.specs.Ending.{wide_at, no_unit_left, unbounded}
use Rattle.simplex_run.specs.Table.{Table}
use Rattle.simplex_run.specs.Choice.{Column, entering}
use Rattle.simplex_run.specs.Run.{pivoted, moved, unlimited, stopped}
use Rattle.simplex_run.specs.Run.{read_off, direction, run_from}

pub run_ends : (limit n m left spent : ℕ) (c : Table) → entering c ≡ None → run_from limit n m left spent c ≡ read_off n m c spent
unfolding run_from
run_ends limit n m zero spent c h = rw h refl
run_ends limit n m (suc left) spent c h = rw h refl

pub run_is_out : (limit n m left spent : ℕ) (c : Table) (e : Column) → entering c ≡ Some e → left ≡ 0 → run_from limit n m left spent c ≡ no_unit_left spent
unfolding run_from
run_is_out limit n m zero spent c e h z = rw h refl
run_is_out limit n m (suc left) spent c e h z = absurd (omega arith)

pub run_moves : (limit n m left spent : ℕ) (c next : Table) (e : Column) → entering c ≡ Some e → pivoted limit e.place c ≡ moved next → 0 < left → run_from limit n m left spent c ≡ run_from limit n m (left - 1) (spent + 1) next
unfolding run_from
run_moves limit n m zero spent c next e h k p = absurd (omega arith)
run_moves limit n m (suc left) spent c next e h k p = let less : suc left - 1 ≡ left = omega arith in rw (h, k, less) refl

pub run_is_unbounded : (limit n m left spent : ℕ) (c : Table) (e : Column) → entering c ≡ Some e → pivoted limit e.place c ≡ unlimited → 0 < left → run_from limit n m left spent c ≡ unbounded (direction n e c) (spent + 1)
unfolding run_from
run_is_unbounded limit n m zero spent c e h k p = absurd (omega arith)
run_is_unbounded limit n m (suc left) spent c e h k p = rw (h, k) refl

pub run_misfits : (limit n m left spent : ℕ) (c : Table) (e : Column) (w : Wide) → entering c ≡ Some e → pivoted limit e.place c ≡ stopped w → 0 < left → run_from limit n m left spent c ≡ wide_at (spent + 1) w
unfolding run_from
run_misfits limit n m zero spent c e w h k p = absurd (omega arith)
run_misfits limit n m (suc left) spent c e w h k p = rw (h, k) refl

-- ---- what a spend says
pub spent_one : (r : Bool) (old limit new : ℕ) → r ≡ nat_lt old limit → new ≡ (if r then old + 1 else old) → r ≡ true → (old < limit) × (new ≡ old + 1)
spent_one true old limit new a s e = (ltb-true old limit (sym a), s)
spent_one false old limit new a s e = cc

pub spent_none : (r : Bool) (old limit new : ℕ) → r ≡ nat_lt old limit → new ≡ (if r then old + 1 else old) → r ≡ false → (limit ≤ old) × (new ≡ old)
spent_none true old limit new a s e = cc
spent_none false old limit new a s e = (ltb-false old limit (sym a), s)
