-- The ratio test, row after row.
use Rattle.std.proofs.Common.{◌≡◌, ℕ, zero, suc, ◌+◌, ◌<◌, ◌≤◌, List, [], ◌∷◌, length, drop, true, false, refl, sym, ◌∙◌, ap, arith, add-one}
use Rattle.std.proofs.lemmas.List.{drop_all}
use Rattle.std.specs.Prelude.{Result, Ok, Err, Option, Some, None, slice_index_or}
use Rattle.exact_num.specs.declared.misfit.Wide.{Wide}
use Rattle.exact_num.specs.Fraction.{Fraction}
use Rattle.exact_num.specs.Fits.{after, div_of, meaning}
use Rattle.simplex_run.specs.Places.{at}
use Rattle.simplex_run.specs.Table.{Row, row_of}
use Rattle.simplex_run.specs.Choice.{Ratio, join_ratio, least, ratio_in, ratios}
use Rattle.exact_num.specs.Tests.{is_above_zero}
use Rattle.fraction_tableau.specs.Candidates.{best_with, with_ratio, beside_basics, leaving_of}

-- ---- the ratio of one row
pub ratio_none : (limit columns h : ℕ) (entries : List Fraction) (x : Fraction) → at entries h ≡ x → is_above_zero x ≡ false → Ok None ≡ ratio_in limit columns h entries
unfolding ratio_in
ratio_none limit columns h entries x at_x t = rw (at_x, t) refl

pub ratio_found : {A : Type 0} (value : A → Fraction) (limit columns h : ℕ) (entries : List Fraction) (x y : Fraction) (q : A) (r : Result A Wide) → at entries h ≡ x → at entries columns ≡ y → is_above_zero x ≡ true → meaning value r ≡ div_of limit y x → r ≡ Ok q → Ok (Some (value q)) ≡ ratio_in limit columns h entries
unfolding ratio_in
ratio_found value limit columns h entries x y q r at_x at_y t d is_ok =
    let d' : div_of limit y x ≡ Ok (value q) = sym d ∙ ap (meaning value) is_ok in
    rw (at_x, at_y, t) (ap (λ z. after z (λ q. Ok (Some q))) (sym d'))

pub ratio_stops : {A : Type 0} (value : A → Fraction) (limit columns h : ℕ) (entries : List Fraction) (x y : Fraction) (w : Wide) (r : Result A Wide) → at entries h ≡ x → at entries columns ≡ y → is_above_zero x ≡ true → meaning value r ≡ div_of limit y x → r ≡ Err w → Err w ≡ ratio_in limit columns h entries
unfolding ratio_in
ratio_stops value limit columns h entries x y w r at_x at_y t d is_err =
    let d' : div_of limit y x ≡ Err w = sym d ∙ ap (meaning value) is_err in
    rw (at_x, at_y, t) (ap (λ z. after z (λ q. Ok (Some q))) (sym d'))

-- ---- the rows beside their basic variables
pub front_beside : (bs : List ℕ) (rows : List (List Fraction)) (i : ℕ) → i < length bs → i < length rows → drop i (beside_basics bs rows) ≡ row_of (slice_index_or bs i 0) (slice_index_or rows i []) ∷ drop (suc i) (beside_basics bs rows)
front_beside [] rows i p q = absurd (omega (arith, p))
front_beside (b ∷ bs) [] i p q = absurd (omega (arith, q))
front_beside (b ∷ bs) (xs ∷ rows) zero p q = refl
front_beside (b ∷ bs) (xs ∷ rows) (suc i) p q = front_beside bs rows i (omega (arith, p)) (omega (arith, q))

pub length-beside : (bs : List ℕ) (rows : List (List Fraction)) → length bs ≡ length rows → length (beside_basics bs rows) ≡ length rows
length-beside [] [] e = refl
length-beside [] (xs ∷ rows) e = e
length-beside (b ∷ bs) [] e = refl
length-beside (b ∷ bs) (xs ∷ rows) e = ap suc (length-beside bs rows (omega (arith, e)))

-- ---- the loop: the choice from row i on, with the best so far, is the choice asked for
abbrev pub Chooses : ℕ → ℕ → ℕ → List Row → ℕ → Option Ratio → Type 0
Chooses limit columns h rows i best =
    after (ratios limit columns h i (drop i rows)) (λ qs. Ok (best_with best qs)) ≡ leaving_of limit columns h rows

best_joined : (best : Option Ratio) (i basic : ℕ) (q : Option Fraction) (r : Result (List Ratio) Wide) → after (after r (λ qs. Ok (join_ratio i basic q qs))) (λ qs. Ok (best_with best qs)) ≡ after r (λ qs. Ok (best_with (with_ratio best i basic q) qs))
unfolding least
best_joined best i basic None (Ok qs) = refl
best_joined best i basic None (Err w) = refl
best_joined None i basic (Some q) (Ok qs) = refl
best_joined (Some b) i basic (Some q) (Ok qs) = refl
best_joined best i basic (Some q) (Err w) = refl

pub chooses_more : (limit columns h : ℕ) (rows : List Row) (i basic : ℕ) (xs : List Fraction) (best : Option Ratio) (q : Option Fraction) → drop i rows ≡ row_of basic xs ∷ drop (suc i) rows → ratio_in limit columns h xs ≡ Ok q → Chooses limit columns h rows i best → Chooses limit columns h rows (i + 1) (with_ratio best i basic q)
unfolding ratios
chooses_more limit columns h rows i basic xs best q front found c =
    let next : drop (i + 1) rows ≡ drop (suc i) rows = rw add-one refl in
    let whole = rw (front, found) at c in
    rw next (sym (best_joined best i basic q (ratios limit columns h (i + 1) (drop (suc i) rows))) ∙ whole)

pub chooses_stop : (limit columns h : ℕ) (rows : List Row) (i basic : ℕ) (xs : List Fraction) (best : Option Ratio) (w : Wide) → drop i rows ≡ row_of basic xs ∷ drop (suc i) rows → ratio_in limit columns h xs ≡ Err w → Chooses limit columns h rows i best → Err w ≡ leaving_of limit columns h rows
unfolding ratios
chooses_stop limit columns h rows i basic xs best w front found c = rw (front, found) at c

pub chooses_end : (limit columns h : ℕ) (rows : List Row) (i : ℕ) (best : Option Ratio) → length rows ≤ i → Chooses limit columns h rows i best → Ok (best_with best []) ≡ leaving_of limit columns h rows
unfolding ratios
chooses_end limit columns h rows i best high c =
    let none : drop i rows ≡ [] = drop_all i rows high in
    rw none at c
