-- A pivot by its leaving row.
use Rattle.std.proofs.Common.{◌≡◌, ℕ, List, [], ◌∷◌, length, refl}
use Rattle.std.specs.Prelude.{Result, Ok, Err, Some, None}
use Rattle.exact_num.specs.declared.misfit.Wide.{Wide}
use Rattle.exact_num.specs.Fits.{after}
use Rattle.simplex_run.specs.Table.{Table}
use Rattle.simplex_run.specs.Choice.{Ratio, least, ratios}
use Rattle.simplex_run.specs.Pivot.{after_pivot}
use Rattle.simplex_run.specs.Run.{unlimited, stopped, pivoted, leave, on_ratios, moved_or_stopped}
use Rattle.fraction_tableau.specs.Candidates.{best_with, leaving_of}

pub pivot_none : (L c : ℕ) (t : Table) → leaving_of L (length t.labels) c t.rows ≡ Ok None → unlimited ≡ pivoted L c t
unfolding pivoted
pivot_none L c t e = step (ratios L (length t.labels) c 0 t.rows) e
  where
    step : (s : Result (List Ratio) Wide) → after s (λ qs. Ok (best_with None qs)) ≡ Ok None → unlimited ≡ on_ratios s (λ qs. leave L c t qs)
    step (Ok []) k = refl
    step (Ok (q ∷ qs)) k = cc
    step (Err w) k = cc

pub pivot_stops : (L c : ℕ) (t : Table) (w : Wide) → leaving_of L (length t.labels) c t.rows ≡ Err w → stopped w ≡ pivoted L c t
unfolding pivoted
pivot_stops L c t w e = step (ratios L (length t.labels) c 0 t.rows) e
  where
    step : (s : Result (List Ratio) Wide) → after s (λ qs. Ok (best_with None qs)) ≡ Err w → stopped w ≡ on_ratios s (λ qs. leave L c t qs)
    step (Ok qs) k = cc
    step (Err v) k = cc

pub pivot_moves : (L c r : ℕ) (t : Table) → leaving_of L (length t.labels) c t.rows ≡ Ok (Some r) → pivoted L c t ≡ moved_or_stopped (after_pivot L c r t)
unfolding pivoted
pivot_moves L c r t e = step (ratios L (length t.labels) c 0 t.rows) e
  where
    step : (s : Result (List Ratio) Wide) → after s (λ qs. Ok (best_with None qs)) ≡ Ok (Some r) → on_ratios s (λ qs. leave L c t qs) ≡ moved_or_stopped (after_pivot L c r t)
    step (Ok []) k = cc
    step (Ok (q ∷ qs)) k = let place : (least q qs).place ≡ r = cc in rw place refl
    step (Err v) k = cc
