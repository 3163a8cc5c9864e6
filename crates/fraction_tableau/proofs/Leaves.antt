-- The row that leaves is there, and its entry is not 0.
use Rattle.std.proofs.Common.{◌≡◌, ℕ, ◌<◌, List, [], ◌∷◌, length, refl, subst, sym, pos, ◌<ℤ◌}
use Rattle.std.specs.Prelude.{Result, Ok, Err, Some, None, slice_index_or}
use Rattle.exact_num.specs.declared.misfit.Wide.{Wide}
use Rattle.exact_num.specs.Fraction.{Fraction, IsLowest}
use Rattle.exact_num.specs.Fits.{after}
use Rattle.exact_num.proofs.Rationals.{above_not_zero}
use Rattle.simplex_run.specs.Places.{at}
use Rattle.simplex_run.specs.Table.{entries_at}
use Rattle.simplex_run.specs.Choice.{Ratio, least, ratios}
use Rattle.simplex_run.proofs.Choices.{least_limits}
use Rattle.fraction_tableau.specs.Candidates.{best_with, beside_basics, leaving_of, IsPivot}
use Rattle.fraction_tableau.proofs.RatioLoop.{length-beside}
use Rattle.fraction_tableau.proofs.Beside.{entries_beside}

pub leaving_pivots : (limit columns c r : ℕ) (bs : List ℕ) (lists : List (List Fraction)) → length bs ≡ length lists → ((k j : ℕ) → IsLowest (at (slice_index_or lists k []) j)) → leaving_of limit columns c (beside_basics bs lists) ≡ Ok (Some r) → IsPivot c r lists
leaving_pivots limit columns c r bs lists same low e = step (ratios limit columns c 0 (beside_basics bs lists)) refl e
  where
    step : (s : Result (List Ratio) Wide) → ratios limit columns c 0 (beside_basics bs lists) ≡ s → after s (λ qs. Ok (best_with None qs)) ≡ Ok (Some r) → IsPivot c r lists
    step (Err w) a k = cc
    step (Ok []) a k = cc
    step (Ok (q ∷ qs)) a k =
        let is_lowest : (i j : ℕ) → IsLowest (at (entries_at (beside_basics bs lists) i) j) = λ i j. subst (λ es. IsLowest (at es j)) (sym (entries_beside bs lists i same)) (low i j) in
        let l = least_limits limit columns c (beside_basics bs lists) q qs is_lowest a in
        let place : (least q qs).place ≡ r = cc in
        record {
          row = subst (λ i. i < length lists) place (rw (length-beside bs lists same) at l.0);
          nonzero = above_not_zero _ (subst (λ es. pos 0 <ℤ (at es c).numerator) (entries_beside bs lists r same) (subst (λ i. pos 0 <ℤ (at (entries_at (beside_basics bs lists) i) c).numerator) place l.1));
        }
