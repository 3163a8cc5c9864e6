-- The column that enters, one column after another.
use Rattle.std.proofs.Common.{◌≡◌, ℕ, suc, ◌+◌, ◌<◌, ◌≤◌, List, [], ◌∷◌, length, drop, add-one, refl, ap, sym, arith, Bool, true, false}
use Rattle.std.specs.Prelude.{Option, Some, None, IfSome, if◌then◌else◌, nat_lt}
use Rattle.std.specs.Option.{option_map}
use Rattle.std.proofs.lemmas.List.{drop_all}
use Rattle.std.proofs.Math.Seq.{drop-cons}
use Rattle.exact_num.specs.Fraction.{Fraction}
use Rattle.exact_num.specs.Tests.{is_below_zero}
use Rattle.simplex_run.specs.Places.{at, fraction_zero}
use Rattle.simplex_run.specs.Table.{label_at}
use Rattle.simplex_run.specs.Choice.{Column, smaller, least_below}
use Rattle.fraction_tableau.specs.declared.columns.Entering.{Entering}
use Rattle.fraction_tableau.specs.Labels.{as_column, with_column}

abbrev pub column : ℕ → ℕ → Column
column k v = record { place = k; label = v }

pub column_more : (labels : List ℕ) (xs : List Fraction) (k : ℕ) → k < length labels → k < length xs
    → least_below k (drop k labels) (drop k xs) ≡ with_column (is_below_zero (at xs k)) (column k (label_at labels k)) (least_below (k + 1) (drop (k + 1) labels) (drop (k + 1) xs))
unfolding least_below
column_more labels xs k p q =
    let a = drop-cons labels k 0 p in
    let b = drop-cons xs k fraction_zero q in
    let next : k + 1 ≡ suc k = add-one k in
    rw (a, b, next) refl

pub no_column : (labels : List ℕ) (xs : List Fraction) (k : ℕ) → length labels ≤ k → None ≡ least_below k (drop k labels) (drop k xs)
unfolding least_below
no_column labels xs k h = let none : drop k labels ≡ [] = drop_all k labels h in rw none refl

-- the column that is put before the later ones stands before the end, where the later one does
pub place_inside : (k v n : ℕ) (d : Column) (is_negative : Bool) (later : Option Column) → ((b : Column) → later ≡ Some b → b.place < k + 1 + n)
    → (if is_negative then Some (smaller (column k v) later) else later) ≡ Some d → d.place < k + suc n
place_inside k v n d false later low e = let last = low d e in omega (arith, last)
place_inside k v n d true None low e =
    let same : column k v ≡ d = cc in
    let q = ap (λ (x : Column). x.place) same in
    omega (arith, q)
place_inside k v n d true (Some b) low e = of_two (nat_lt b.label v) e
  where
    of_two : (t : Bool) → Some (if t then b else column k v) ≡ Some d → d.place < k + suc n
    of_two true e =
        let same : b ≡ d = cc in
        let q = ap (λ (x : Column). x.place) same in
        let last = low b refl in
        omega (arith, last, q)
    of_two false e =
        let same : column k v ≡ d = cc in
        let q = ap (λ (x : Column). x.place) same in
        omega (arith, q)

least_inside : (k : ℕ) (vs : List ℕ) (xs : List Fraction) (d : Column) → least_below k vs xs ≡ Some d → d.place < k + length vs
unfolding least_below
least_inside k [] xs d h = absurd cc
least_inside k (v ∷ vs) [] d h = absurd cc
least_inside k (v ∷ vs) (x ∷ xs) d h = place_inside k v (length vs) d (is_below_zero x) (least_below (k + 1) vs xs) (least_inside (k + 1) vs xs) h

pub inside_of : (r : Option Entering) (labels : List ℕ) (xs : List Fraction) → option_map as_column r ≡ least_below 0 labels xs → IfSome r (λ c. c.place < length labels)
inside_of None labels xs h = tt
inside_of (Some c) labels xs h = let low = least_inside 0 labels xs (as_column c) (sym h) in omega (arith, low)
