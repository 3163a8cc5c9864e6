-- What is read off a table of lists that are kept apart.
use Rattle.std.proofs.Common.{◌≡◌, ℕ, zero, suc, ◌+◌, ◌<◌, ◌≤◌, List, [], ◌∷◌, length, get_or, refl, sym, ◌∙◌, ap, arith, Bool, true, false, nat_eq, ℤ, pos, unsigned_abs, neg_ℤ}
use Rattle.std.specs.Prelude.{Some, None, Result, Ok, Err, IsOk, if◌then◌else◌, cond, not, position, ◌==◌}
use Rattle.std.specs.List.{position_or_len}
use Rattle.std.proofs.lemmas.List.Quantifiers.{position-Some}
use Rattle.std.proofs.lemmas.Bool.Decides.{nat_tests}
use Rattle.std.proofs.lemmas.Int.{ints}
use Rattle.exact_num.specs.Fraction.{Fraction, whole, reduced}
use Rattle.exact_num.specs.declared.misfit.Wide.{Wide}
use Rattle.exact_num.specs.Fits.{div_of, meaning}
use Rattle.exact_num.proofs.Values.{whole_is_lowest}
use Rattle.simplex_run.specs.Places.{fraction_zero}
use Rattle.fraction_tableau.proofs.Reading.{past, filled_found, filled_missing}
use Rattle.run_equivalence.specs.IntegerRows.{IntegerRow, IsIntegerRow, WholeRow, whole_row, number_at, entry_of, IntegerTable}
use Rattle.run_equivalence.specs.WholeRunning.{whole_where_basic, none_of, whole_reduced_cost}
use Rattle.simplex_run.specs.Choice.{Column}
use Rattle.run_equivalence.proofs.IntegerRowSteps.{reduced_zero}
use Rattle.run_equivalence.proofs.StepsFit.{quotients_fit}
use Rattle.integer_tableau.specs.declared.table.WholeTable.{WholeTable}
use Rattle.integer_tableau.specs.Rows.{beside_basics, row_in, row_at}
use Rattle.integer_tableau.specs.Stored.{rows_in}
use Rattle.integer_tableau.specs.Tables.{IsWithin, direction_entry, width_of}
use Rattle.integer_tableau.proofs.Stored.{rows_count}

-- ---- a number as a fraction
pub quotient_is : (limit c : ℕ) (a : ℤ) → 0 < c → unsigned_abs a ≤ limit → c ≤ limit → div_of limit (whole a) (whole (pos c)) ≡ Ok (reduced a c)
quotient_is limit c a p s q =
    quotients_fit limit 1 c (whole a) (whole (pos c)) a (whole_is_lowest a) (whole_is_lowest (pos c)) (omega arith) p refl refl s q

pub quotient_fits : {A : Type 0} (f : A → Fraction) (limit c : ℕ) (a : ℤ) (r : Result A Wide) (x y : Fraction) → meaning f r ≡ div_of limit x y → x ≡ whole a → y ≡ whole (pos c) → 0 < c → unsigned_abs a ≤ limit → c ≤ limit
    → meaning f r ≡ Ok (reduced a c)
quotient_fits f limit c a r x y h is_x is_y p s q = h ∙ (λ i. div_of limit (is_x i) (is_y i)) ∙ quotient_is limit c a p s q

pub means_ok : {A : Type 0} (f : A → Fraction) (r : Result A Wide) (x : Fraction) → meaning f r ≡ Ok x → IsOk r
means_ok f (Ok a) x e = refl
means_ok f (Err w) x e = cc

pub means_value : {A : Type 0} (f : A → Fraction) (r : Result A Wide) (x : Fraction) (t : A) → meaning f r ≡ Ok x → r ≡ Ok t → f t ≡ x
means_value f r x t m is =
    let e : meaning f (Ok t) ≡ Ok x = sym (ap (meaning f) is) ∙ m in
    cc

pub above_zero : (x : Fraction) (c : ℕ) → x ≡ whole (pos c) → 0 < c → x.numerator ≡ pos 0 → ⊥
above_zero x c e p h = let q : pos c ≡ pos 0 = ap (λ (y : Fraction). y.numerator) (sym e) ∙ h in omega (arith, ints, p, q)

-- ---- the row where a variable is basic
basic_here : (f : WholeRow → Fraction) (j : ℕ) (bs : List ℕ) (lines : List IntegerRow) (i : ℕ) (d : IntegerRow) → i < length bs → length bs ≡ length lines → (get_or bs i 0 == j) ≡ true → ((k : ℕ) → k < i → (get_or bs k 0 == j) ≡ false)
    → whole_where_basic f j (beside_basics bs lines) ≡ f (whole_row (get_or bs i 0) (get_or lines i d))
unfolding whole_where_basic
basic_here f j [] lines i d low same here before = absurd (omega (arith, low))
basic_here f j (b ∷ bs) [] i d low same here before = absurd (omega (arith, same))
basic_here f j (b ∷ bs) (l ∷ lines) zero d low same here before = rw here refl
basic_here f j (b ∷ bs) (l ∷ lines) (suc i) d low same here before =
    let first : (b == j) ≡ false = before 0 (omega arith) in
    rw first (basic_here f j bs lines i d (omega (arith, low)) (omega (arith, same)) here (λ k p. before (suc k) (omega (arith, p))))

pub basic_found : (f : WholeRow → Fraction) (j : ℕ) (bs : List ℕ) (lines : List IntegerRow) (i : ℕ) (d : IntegerRow) → length bs ≡ length lines → Some i ≡ position (λ b. b == j) bs
    → whole_where_basic f j (beside_basics bs lines) ≡ f (whole_row (get_or bs i 0) (get_or lines i d))
basic_found f j bs lines i d same h =
    let w = position-Some (λ b. b == j) bs i 0 (sym h) in
    basic_here f j bs lines i d w.0 same w.1 w.2

basic_nowhere : (f : WholeRow → Fraction) (j : ℕ) (bs : List ℕ) (lines : List IntegerRow) → length bs ≤ position_or_len (λ b. b == j) bs → whole_where_basic f j (beside_basics bs lines) ≡ fraction_zero
unfolding whole_where_basic
basic_nowhere f j [] lines h = refl
basic_nowhere f j (b ∷ bs) [] h = refl
basic_nowhere f j (b ∷ bs) (l ∷ lines) h = step (b == j) h (basic_nowhere f j bs lines)
  where
    step : (t : Bool) → suc (length bs) ≤ cond (not t) (1 + position_or_len (λ b. b == j) bs) 0 → (length bs ≤ position_or_len (λ b. b == j) bs → whole_where_basic f j (beside_basics bs lines) ≡ fraction_zero)
        → (if t then f (whole_row b l) else whole_where_basic f j (beside_basics bs lines)) ≡ fraction_zero
    step true k later = absurd (omega (arith, k))
    step false k later = later (omega (arith, k))

pub basic_missing : (f : WholeRow → Fraction) (j : ℕ) (bs : List ℕ) (lines : List IntegerRow) → None ≡ position (λ b. b == j) bs → whole_where_basic f j (beside_basics bs lines) ≡ fraction_zero
basic_missing f j bs lines h = basic_nowhere f j bs lines (past (λ b. b == j) bs h)

-- ---- the price of a variable that has a column
pub price_missing : (t : IntegerTable) (j : ℕ) → 0 < t.objective.denominator → j < t.columns → None ≡ position (λ v. v == j) t.labels → whole_reduced_cost t j ≡ fraction_zero
price_missing t j p low e = ap (λ z. reduced z t.objective.denominator) (filled_missing none_of j t.columns t.labels t.objective.numbers low e) ∙ reduced_zero t.objective.denominator p

pub price_found : (t : IntegerTable) (j k : ℕ) → length t.labels ≤ length t.objective.numbers → Some k ≡ position (λ v. v == j) t.labels → whole_reduced_cost t j ≡ entry_of t.objective k
price_found t j k long e = ap (λ z. reduced z t.objective.denominator) (filled_found (pos 0) none_of j t.columns t.labels t.objective.numbers k long e)

-- ---- one entry of a direction
pub entry_other : (c : Column) (j : ℕ) (t : IntegerTable) → (j ≡ c.label → ⊥) → direction_entry c t j ≡ whole_where_basic (λ row. reduced (neg_ℤ (number_at row.line.numbers c.place)) row.line.denominator) j t.rows
entry_other c j t e = let other : nat_eq j c.label ≡ false = grind (arith, nat_tests) in rw other refl

-- a row of a table within the limit
pub row_within : (limit : ℕ) (t : WholeTable) (i : ℕ) → IsWithin limit t → i < length t.rows.short.rows → IsIntegerRow limit (width_of t) (row_in (width_of t) (row_at (rows_in t.rows) i))
row_within limit t i g low = g.rows.lines i (let count = rows_count t.rows.is_wide.items t.rows.short.rows t.rows.wide.rows in omega (arith, low, count))
