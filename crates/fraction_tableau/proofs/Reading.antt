-- What is read off a table of lists that are kept apart.
use Rattle.std.proofs.Common.{◌≡◌, ℕ, zero, suc, ◌+◌, ◌<◌, ◌≤◌, List, [], ◌∷◌, length, true, false, Bool, nat_eq, refl, sym, ap, arith}
use Rattle.std.specs.Prelude.{Some, None, if◌then◌else◌, cond, not, nat_lt, slice_index_or, position, ◌==◌}
use Rattle.std.specs.List.{position_or_len}
use Rattle.std.proofs.lemmas.List.Quantifiers.{position-Some}
use Rattle.std.proofs.lemmas.Bool.Decides.{nat_tests}
use Rattle.exact_num.specs.Fraction.{Fraction, negated}
use Rattle.simplex_run.specs.Places.{at, fraction_zero}
use Rattle.simplex_run.specs.Table.{Row, Table, row_of, with_right, entry_for, where_basic}
use Rattle.simplex_run.specs.Choice.{Column}
use Rattle.fraction_tableau.specs.Candidates.{beside_basics}
use Rattle.fraction_tableau.specs.Lists.{front}
use Rattle.fraction_tableau.specs.Tables.{direction_entry}

-- ---- one entry of the front of a row
pub at_front : {A : Type 0} (value : A → Fraction) (w : ℕ) (xs : List A) (j : ℕ) (x : A) → j < w → j < length xs → x ≡ slice_index_or xs j x → at (front value w xs) j ≡ value x
at_front value w [] j x low inside at_x = absurd (omega (arith, inside))
at_front value zero (y ∷ xs) j x low inside at_x = absurd (omega (arith, low))
at_front value (suc w) (y ∷ xs) zero x low inside at_x = ap value (sym at_x)
at_front value (suc w) (y ∷ xs) (suc j) x low inside at_x = at_front value w xs j x (omega (arith, low)) (omega (arith, inside)) at_x

-- ---- the place of a variable in a list
pub past : (p : ℕ → Bool) (bs : List ℕ) → None ≡ position p bs → length bs ≤ position_or_len p bs
past p bs h = step (nat_lt (position_or_len p bs) (length bs)) refl (sym h)
  where
    step : (b : Bool) → nat_lt (position_or_len p bs) (length bs) ≡ b → cond b (Some (position_or_len p bs)) None ≡ None → length bs ≤ position_or_len p bs
    step true e k = cc
    step false e k = grind (arith, nat_tests)

-- ---- the row where a variable is basic
basic_here : (f : Row → Fraction) (j : ℕ) (bs : List ℕ) (lists : List (List Fraction)) (i : ℕ) → i < length bs → length bs ≡ length lists → (slice_index_or bs i 0 == j) ≡ true → ((k : ℕ) → k < i → (slice_index_or bs k 0 == j) ≡ false)
    → where_basic f j (beside_basics bs lists) ≡ f (row_of (slice_index_or bs i 0) (slice_index_or lists i []))
unfolding where_basic
basic_here f j [] lists i low same here before = absurd (omega (arith, low))
basic_here f j (b ∷ bs) [] i low same here before = absurd (omega (arith, same))
basic_here f j (b ∷ bs) (xs ∷ lists) zero low same here before = rw here refl
basic_here f j (b ∷ bs) (xs ∷ lists) (suc i) low same here before =
    let first : (b == j) ≡ false = before 0 (omega arith) in
    rw first (basic_here f j bs lists i (omega (arith, low)) (omega (arith, same)) here (λ k p. before (suc k) (omega (arith, p))))

pub place_inside : (j : ℕ) (bs : List ℕ) (i : ℕ) → Some i ≡ position (λ b. b == j) bs → i < length bs
place_inside j bs i h = (position-Some (λ b. b == j) bs i 0 (sym h)).0

pub basic_found : (f : Row → Fraction) (j : ℕ) (bs : List ℕ) (lists : List (List Fraction)) (i : ℕ) → length bs ≡ length lists → Some i ≡ position (λ b. b == j) bs
    → where_basic f j (beside_basics bs lists) ≡ f (row_of (slice_index_or bs i 0) (slice_index_or lists i []))
basic_found f j bs lists i same h =
    let w = position-Some (λ b. b == j) bs i 0 (sym h) in
    basic_here f j bs lists i w.0 same w.1 w.2

basic_nowhere : (f : Row → Fraction) (j : ℕ) (bs : List ℕ) (lists : List (List Fraction)) → length bs ≤ position_or_len (λ b. b == j) bs → where_basic f j (beside_basics bs lists) ≡ fraction_zero
unfolding where_basic
basic_nowhere f j [] lists h = refl
basic_nowhere f j (b ∷ bs) [] h = refl
basic_nowhere f j (b ∷ bs) (xs ∷ lists) h = step (b == j) h (basic_nowhere f j bs lists)
  where
    step : (t : Bool) → suc (length bs) ≤ cond (not t) (1 + position_or_len (λ b. b == j) bs) 0 → (length bs ≤ position_or_len (λ b. b == j) bs → where_basic f j (beside_basics bs lists) ≡ fraction_zero)
        → (if t then f (row_of b xs) else where_basic f j (beside_basics bs lists)) ≡ fraction_zero
    step true k later = absurd (omega (arith, k))
    step false k later = later (omega (arith, k))

pub basic_missing : (f : Row → Fraction) (j : ℕ) (bs : List ℕ) (lists : List (List Fraction)) → None ≡ position (λ b. b == j) bs → where_basic f j (beside_basics bs lists) ≡ fraction_zero
basic_missing f j bs lists h = basic_nowhere f j bs lists (past (λ b. b == j) bs h)

-- ---- the entry of a variable that has a column
filled_here : {A : Type 0} (d : A) (own : ℕ → A) (j N : ℕ) (vs : List ℕ) (zs : List A) (k : ℕ) → k < length vs → length vs ≤ length zs → (slice_index_or vs k 0 == j) ≡ true → ((i : ℕ) → i < k → (slice_index_or vs i 0 == j) ≡ false) → entry_for own (with_right N vs) zs j ≡ slice_index_or zs k d
unfolding entry_for
filled_here d own j N [] zs k low long here before = absurd (omega (arith, low))
filled_here d own j N (v ∷ vs) [] k low long here before = absurd (omega (arith, long))
filled_here d own j N (v ∷ vs) (z ∷ zs) zero low long here before = rw here refl
filled_here d own j N (v ∷ vs) (z ∷ zs) (suc k) low long here before =
    let first : (v == j) ≡ false = before 0 (omega arith) in
    rw first (filled_here d own j N vs zs k (omega (arith, low)) (omega (arith, long)) here (λ i p. before (suc i) (omega (arith, p))))

pub filled_found : {A : Type 0} (d : A) (own : ℕ → A) (j N : ℕ) (vs : List ℕ) (zs : List A) (k : ℕ) → length vs ≤ length zs → Some k ≡ position (λ v. v == j) vs → entry_for own (with_right N vs) zs j ≡ slice_index_or zs k d
filled_found d own j N vs zs k long e =
    let w = position-Some (λ v. v == j) vs k 0 (sym e) in
    filled_here d own j N vs zs k w.0 long w.1 w.2

filled_nowhere : {A : Type 0} (own : ℕ → A) (j N : ℕ) (vs : List ℕ) (zs : List A) → j < N → length vs ≤ position_or_len (λ v. v == j) vs → entry_for own (with_right N vs) zs j ≡ own j
unfolding entry_for
filled_nowhere own j N [] [] low h = refl
filled_nowhere own j N [] (z ∷ zs) low h = let other : nat_eq N j ≡ false = grind (arith, nat_tests) in rw other refl
filled_nowhere own j N (v ∷ vs) [] low h = refl
filled_nowhere own j N (v ∷ vs) (z ∷ zs) low h = step (v == j) h (filled_nowhere own j N vs zs low)
  where
    step : (t : Bool) → suc (length vs) ≤ cond (not t) (1 + position_or_len (λ v. v == j) vs) 0 → (length vs ≤ position_or_len (λ v. v == j) vs → entry_for own (with_right N vs) zs j ≡ own j)
        → (if t then z else entry_for own (with_right N vs) zs j) ≡ own j
    step true k later = absurd (omega (arith, k))
    step false k later = later (omega (arith, k))

pub filled_missing : {A : Type 0} (own : ℕ → A) (j N : ℕ) (vs : List ℕ) (zs : List A) → j < N → None ≡ position (λ v. v == j) vs → entry_for own (with_right N vs) zs j ≡ own j
filled_missing own j N vs zs low e = filled_nowhere own j N vs zs low (past (λ v. v == j) vs e)

-- ---- one entry of a direction

pub entry_other : (c : Column) (j : ℕ) (t : Table) → (j ≡ c.label → ⊥) → direction_entry c t j ≡ where_basic (λ row. negated (at row.entries c.place)) j t.rows
entry_other c j t e = let other : nat_eq j c.label ≡ false = grind (arith, nat_tests) in rw other refl
