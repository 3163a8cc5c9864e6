-- The steps of a row of numbers of the code: those at the places that are not 0 are all of them.
use Rattle.std.proofs.Common.{◌≡◌, ◌≢◌, ℕ, ◌≤◌, List, length, map, sym, ◌∙◌, ap, pos, true}
use Rattle.std.proofs.lemmas.List.{length-map}
use Rattle.std.specs.Prelude.{Result, Ok, Err}
use Rattle.exact_num.specs.declared.misfit.Wide.{Wide}
use Rattle.exact_num.specs.Fraction.{Fraction}
use Rattle.exact_num.specs.Fits.{div_of}
use Rattle.simplex_run.specs.Places.{at}
use Rattle.simplex_run.specs.Pivot.{Stop, less_product, steps_of, told}
use Rattle.simplex_run.proofs.StepsOf.{steps_told}
use Rattle.fraction_tableau.specs.Nonzero.{is_zero, nonzero_places}
use Rattle.fraction_tableau.proofs.Skips.{IsNumber, list_number, zero_over, less_none, less_no_times}
use Rattle.fraction_tableau.proofs.Sweeps.{steps_at, all_steps}

pub told_stop : (r : Result (List Fraction) Stop) (s : Stop) (w : Wide) → w ≡ s.wide → Err s ≡ r → Err w ≡ told r
told_stop r s w e h = ap Err e ∙ ap told h

module _ {A : Type 0} (value : A → Fraction) (limit : ℕ) (one : 1 ≤ limit) (numbers : (x : A) → IsNumber limit (value x)) where
  pub all_divided : (row : List A) (labels places : List ℕ) (d : A) → (value d).numerator ≢ pos 0 → length row ≡ length labels → places ≡ nonzero_places (map value row)
      → steps_at (λ k x. div_of limit x (value d)) labels places (map value row) ≡ steps_of (λ k. div_of limit (at (map value row) k) (value d)) 0 labels
  all_divided row labels places d ne wide are =
      ap (λ ks. steps_at (λ k x. div_of limit x (value d)) labels ks (map value row)) are
      ∙ all_steps (λ k x. div_of limit x (value d)) (map value row) (map value row) labels (length-map row value ∙ wide) (λ i. length (map value row))
      (λ k p t. zero_over limit (at (map value row) k) (value d) one (list_number value limit one numbers row k) (numbers d) t ne)

  pub all_cleared : (row pivot : List A) (labels places : List ℕ) (f : A) → length row ≡ length labels → length pivot ≡ length labels → places ≡ nonzero_places (map value pivot)
      → steps_at (λ k x. less_product limit (value f) x (at (map value pivot) k)) labels places (map value row) ≡ steps_of (λ k. less_product limit (value f) (at (map value row) k) (at (map value pivot) k)) 0 labels
  all_cleared row pivot labels places f wide same are =
      ap (λ ks. steps_at (λ k x. less_product limit (value f) x (at (map value pivot) k)) labels ks (map value row)) are
      ∙ all_steps (λ k x. less_product limit (value f) x (at (map value pivot) k)) (map value row) (map value pivot) labels (length-map row value ∙ wide) (length-map row value ∙ wide ∙ sym same ∙ sym (length-map pivot value))
      (λ k p t. less_none limit (value f) (at (map value row) k) (at (map value pivot) k) one (numbers f) (list_number value limit one numbers row k) (list_number value limit one numbers pivot k) t)

  -- a row whose entry in the column is 0 stays
  pub none_cleared : (row pivot : List A) (labels : List ℕ) (f : A) → length row ≡ length labels → is_zero (value f) ≡ true
      → told (steps_of (λ k. less_product limit (value f) (at (map value row) k) (at (map value pivot) k)) 0 labels) ≡ Ok (map value row)
  none_cleared row pivot labels f wide t =
      steps_told (λ k. less_product limit (value f) (at (map value row) k) (at (map value pivot) k)) labels (map value row) (length-map row value ∙ wide)
      (λ k p. less_no_times limit (value f) (at (map value row) k) (at (map value pivot) k) one (numbers f) (list_number value limit one numbers row k) (list_number value limit one numbers pivot k) t)
