-- Some limit is enough for each run over rows of whole numbers.
use Rattle.exact_num.proofs.GreaterLimit.{le_more}
use Rattle.std.proofs.Common.{◌≡◌, ℕ, zero, suc, ◌+◌, ◌≤◌, List, [], ◌∷◌, length, arith, refl, sym, ◌∙◌, subst, unsigned_abs, nat_eq, Bool, true, false, ◌&&◌}
use Rattle.std.specs.Prelude.{Option, Some, None, if◌then◌else◌}
use Rattle.std.proofs.lemmas.Bool.{and_from, and_parts, le-leb}
use Rattle.simplex_run.specs.Program.{LinearProgram}
use Rattle.simplex_run.specs.Choice.{Column, Ratio, least}
use Rattle.simplex_run.specs.Choose.{bases_of}
use Rattle.simplex_run.specs.Ending.{Ending, done, unbounded, wide_at, no_unit_left, HasNoMisfit}
use Rattle.simplex_run.specs.Run.{Optimum, optimum, run}
use Rattle.simplex_run.specs.Optimum.{IsProgram}
use Rattle.simplex_run.specs.Limits.{IsFound}
use Rattle.simplex_run.proofs.Wider.{same_with_greater_limit}
use Rattle.simplex_run.proofs.Ended.{runs_end}
use Rattle.run_equivalence.specs.IntegerRows.{IntegerRow, WholeRow, IntegerTable, number_at, integer_row_at, row_size, row_fits, rows_fit}
use Rattle.run_equivalence.specs.WholePivoting.{whole_entering, whole_ratios, cut, whole_pivot, step_size, steps_within, row_steps_within, rows_steps_within, leaving_fits, pivot_fits}
use Rattle.run_equivalence.specs.WholeRunning.{whole_read_off, whole_direction, on_column, on_whole_pivot, whole_run_from, first_whole_table, whole_run}
use Rattle.run_equivalence.specs.WholeLaws.{WholeRunsEnd}
use Rattle.run_equivalence.proofs.PivotSteps.{IsWhole, within_of_fit, rows_steps_more, pivot_more, turned_whole}
use Rattle.run_equivalence.proofs.IntegerRowSteps.{sizes_least}
use Rattle.run_equivalence.proofs.RunSteps.{first_whole, runs_agree}

-- ---- what is within a bound is within a greater one
pub row_more : (b c : ℕ) (l : IntegerRow) → b ≤ c → row_fits b l ≡ true → row_fits c l ≡ true
row_more b c l h t = sizes_least c l ∙ le_more (row_size l) b c h (sym (sizes_least b l) ∙ t)

rows_more : (b c : ℕ) (rows : List WholeRow) → b ≤ c → rows_fit b rows ≡ true → rows_fit c rows ≡ true
unfolding rows_fit
rows_more b c [] h t = refl
rows_more b c (row ∷ rows) h t =
    let parts = and_parts (row_fits b row.line) (rows_fit b rows) t in
    and_from (row_fits c row.line) (rows_fit c rows) (row_more b c row.line h parts.0) (rows_more b c rows h parts.1)

-- ---- rows, and the steps of a pivot, are within some limit
rows_some : (rows : List WholeRow) → (limit : ℕ) × (rows_fit limit rows ≡ true)
unfolding rows_fit
rows_some [] = (0, refl)
rows_some (row ∷ rows) =
    let s = rows_some rows in
    let limit : ℕ = row_size row.line + s.0 in
    (limit, and_from (row_fits limit row.line) (rows_fit limit rows) (sizes_least limit row.line ∙ le-leb (row_size row.line) limit (omega arith)) (rows_more s.0 limit rows (omega arith) s.1))

-- the size of the steps of a row
steps_of : ℕ → IntegerRow → IntegerRow → ℕ
steps_of e pivot l = step_size (row_size l) (unsigned_abs (number_at l.numbers e)) (unsigned_abs (number_at pivot.numbers e)) (row_size pivot)

steps_some : (limit e : ℕ) (pivot l : IntegerRow) → steps_of e pivot l ≤ limit → steps_within limit e pivot l ≡ true
unfolding steps_of
steps_some limit e pivot l h = le-leb _ limit h

rows_steps_some : (e r i : ℕ) (pivot : IntegerRow) (rows : List WholeRow) → (limit : ℕ) × (rows_steps_within limit e r pivot i rows ≡ true)
unfolding rows_steps_within
rows_steps_some e r i pivot [] = (0, refl)
rows_steps_some e r i pivot (row ∷ rows) =
    let s = rows_steps_some e r (i + 1) pivot rows in
    let limit : ℕ = steps_of e pivot row.line + s.0 in
    (limit, and_from (row_steps_within limit e r pivot i row.line) (rows_steps_within limit e r pivot (i + 1) rows) (step limit (steps_some limit e pivot row.line (omega arith)) (nat_eq i r)) (rows_steps_more s.0 limit e r (i + 1) pivot rows (omega arith) s.1))
  where
    step : (limit : ℕ) → steps_within limit e pivot row.line ≡ true → (b : Bool) → (if b then true else steps_within limit e pivot row.line) ≡ true
    step limit h true = refl
    step limit h false = h

pivot_some : (e : ℕ) (w : IntegerTable) → (limit : ℕ) × (pivot_fits limit e w ≡ true)
unfolding pivot_fits
pivot_some e w = step (whole_ratios (length w.labels) e 0 w.rows)
  where
    step : (qs : List Ratio) → (limit : ℕ) × (leaving_fits limit e w.objective w.rows qs ≡ true)
    step [] = (0, refl)
    step (q ∷ qs) =
        let r = (least q qs).place in
        let pivot = cut (integer_row_at w.rows r) in
        let s = rows_steps_some e r 0 pivot w.rows in
        let limit : ℕ = steps_of e pivot w.objective + s.0 in
        (limit, and_from (steps_within limit e pivot w.objective) (rows_steps_within limit e r pivot 0 w.rows) (steps_some limit e pivot w.objective (omega arith)) (rows_steps_more s.0 limit e r 0 pivot w.rows (omega arith) s.1))

-- ---- a run that is not given up is the same with each greater limit
run_more : (limit greater n m left spent : ℕ) (w : IntegerTable) (end : Ending Optimum) → limit ≤ greater → whole_run_from limit n m left spent w ≡ Some end → whole_run_from greater n m left spent w ≡ Some end
unfolding whole_run_from
run_more limit greater n m zero spent w end more k = k
run_more limit greater n m (suc left) spent w end more k = step (whole_entering w) (λ u q. run_more limit greater n m left (spent + 1) u end more q) k
  where
    go : ℕ → ℕ → IntegerTable → Option (Ending Optimum)
    go limit e next = if pivot_fits limit e w && rows_fit limit next.rows then whole_run_from limit n m left (spent + 1) next else None

    next_run : (c : Column) (u : IntegerTable) (t : Bool) → (pivot_fits limit c.place w && rows_fit limit u.rows) ≡ t → (whole_run_from limit n m left (spent + 1) u ≡ Some end → whole_run_from greater n m left (spent + 1) u ≡ Some end)
        → (if t then whole_run_from limit n m left (spent + 1) u else None) ≡ Some end → go greater c.place u ≡ Some end
    next_run c u true f later q =
        let parts = and_parts (pivot_fits limit c.place w) (rows_fit limit u.rows) f in
        let t = and_from (pivot_fits greater c.place w) (rows_fit greater u.rows) (pivot_more limit greater c.place w more parts.0) (rows_more limit greater u.rows more parts.1) in
        rw t (later q)
    next_run c u false f later q = absurd cc

    act : (c : Column) → ((v : IntegerTable) → whole_run_from limit n m left (spent + 1) v ≡ Some end → whole_run_from greater n m left (spent + 1) v ≡ Some end) → (o : Option IntegerTable)
        → on_whole_pivot o (Some (unbounded (whole_direction n c w) (spent + 1))) (go limit c.place) ≡ Some end → on_whole_pivot o (Some (unbounded (whole_direction n c w) (spent + 1))) (go greater c.place) ≡ Some end
    act c later None q = q
    act c later (Some u) q = next_run c u (pivot_fits limit c.place w && rows_fit limit u.rows) refl (later u) q

    step : (o : Option Column) → ((v : IntegerTable) → whole_run_from limit n m left (spent + 1) v ≡ Some end → whole_run_from greater n m left (spent + 1) v ≡ Some end)
        → on_column o (Some (whole_read_off n m w spent)) (λ c. on_whole_pivot (whole_pivot c.place w) (Some (unbounded (whole_direction n c w) (spent + 1))) (go limit c.place)) ≡ Some end
        → on_column o (Some (whole_read_off n m w spent)) (λ c. on_whole_pivot (whole_pivot c.place w) (Some (unbounded (whole_direction n c w) (spent + 1))) (go greater c.place)) ≡ Some end
    step None later q = q
    step (Some c) later q = act c later (whole_pivot c.place w) q

-- ---- some limit is enough from each table on
record Enough (n m left spent : ℕ) (w : IntegerTable) : Type 0 where
  limit : ℕ
  end : Ending Optimum
  ends : whole_run_from limit n m left spent w ≡ Some end

enough : (k n m left spent : ℕ) (w : IntegerTable) → IsWhole k w → Enough n m left spent w
unfolding whole_run_from
enough k n m zero spent w g = step (whole_entering w) refl
  where
    step : (o : Option Column) → whole_entering w ≡ o → Enough n m zero spent w
    step None f = record { limit = 0; end = whole_read_off n m w spent; ends = rw f refl }
    step (Some c) f = record { limit = 0; end = no_unit_left spent; ends = rw f refl }
enough k n m (suc left) spent w g = step (whole_entering w) refl (λ u s. enough k n m left (spent + 1) u s)
  where
    act : (c : Column) → whole_entering w ≡ Some c → ((v : IntegerTable) → IsWhole k v → Enough n m left (spent + 1) v) → (o : Option IntegerTable) → whole_pivot c.place w ≡ o → Enough n m (suc left) spent w
    act c f later None t = record { limit = 0; end = unbounded (whole_direction n c w) (spent + 1); ends = rw (f, t) refl }
    act c f later (Some u) t =
        let own = rows_some w.rows in
        let r = later u (turned_whole own.0 k c.place w u (within_of_fit own.0 k w g own.1) t) in
        let s = rows_some u.rows in
        let o = pivot_some c.place w in
        let limit : ℕ = s.0 + o.0 + r.limit in
        let rows = rows_more s.0 limit u.rows (omega arith) s.1 in
        let steps = pivot_more o.0 limit c.place w (omega arith) o.1 in
        let rest = run_more r.limit limit n m left (spent + 1) u r.end (omega arith) r.ends in
        record { limit = limit; end = r.end; ends = rw (f, t, steps, rows) rest }

    step : (o : Option Column) → whole_entering w ≡ o → ((v : IntegerTable) → IsWhole k v → Enough n m left (spent + 1) v) → Enough n m (suc left) spent w
    step None f later = record { limit = 0; end = whole_read_off n m w spent; ends = rw f refl }
    step (Some c) f later = act c f later (whole_pivot c.place w) refl

some_limit : (p : LinearProgram) (left spent : ℕ) → IsProgram p → (limit : ℕ) × (end : Ending Optimum) × ((greater : ℕ) → limit ≤ greater → whole_run greater p left spent ≡ Some end)
unfolding whole_run
some_limit p left spent g =
    let r = enough p.variables p.variables p.rows left spent (first_whole_table p) (first_whole p g) in
    let s = rows_some (first_whole_table p).rows in
    (s.0 + r.limit, r.end, λ greater more. let rows = rows_more s.0 greater (first_whole_table p).rows (omega (arith, more)) s.1 in rw rows (run_more r.limit greater p.variables p.rows left spent (first_whole_table p) r.end (omega (arith, more)) r.ends))

found_fits : (end : Ending Optimum) → IsFound end → HasNoMisfit end
found_fits (done (optimum x y reduced value) units) h = tt
found_fits (unbounded d units) h = tt
found_fits (wide_at units wide) h = absurd h
found_fits (no_unit_left units) h = absurd h

pub whole_runs_end : WholeRunsEnd
whole_runs_end p g =
    let s = some_limit p (bases_of p) 0 g in
    let l = runs_end p g in
    let greater : ℕ = s.0 + l.0 in
    let mine : run greater p (bases_of p) 0 ≡ s.1 = runs_agree greater p (bases_of p) 0 s.1 g (s.2 greater (omega arith)) in
    let same : run greater p (bases_of p) 0 ≡ run l.0 p (bases_of p) 0 = same_with_greater_limit l.0 greater p (bases_of p) 0 (omega arith) (found_fits _ l.1) in
    record { limit = s.0; end = s.1; ends = s.2 s.0 (omega arith); found = subst IsFound (sym same ∙ mine) l.1 }
