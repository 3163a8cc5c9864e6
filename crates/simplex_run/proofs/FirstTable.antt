-- The first table of a program, as functions.
use Rattle.std.proofs.Common.{◌≡◌, ℕ, zero, suc, ◌+◌, ◌-◌, ◌*◌, ◌<◌, ◌≤◌, List, [], ◌∷◌, ◌++◌, length, map, take, drop, arith, refl, sym, ◌∙◌, ap, subst, pos, inl, inr}
use Rattle.std.proofs.lemmas.List.{get_or-drop, get_or-append-add, get_or_append_left, get_or-map, length-append, length-take-le, length-drop, length-map}
use Rattle.std.proofs.lemmas.Bool.{cases_lt}
use Rattle.std.proofs.Math.Nat.{mul-le-mul_right}
use Rattle.exact_num.specs.Fraction.{Fraction, IsLowest, whole, negated}
use Rattle.exact_num.proofs.Values.{whole_is_lowest, negated_is_lowest}
use Rattle.exact_num.proofs.Rationals.{value_zero, value_negated, not_below_value}
use Rattle.exact_num.specs.Rationals.{neg_Q, 0Q, value, IsNotBelow0, unit}
use Rattle.simplex_run.specs.Places.{at, fraction_zero, values_at, numbers}
use Rattle.simplex_run.specs.Program.{LinearProgram, row}
use Rattle.simplex_run.specs.Table.{label_at, entries_at, first_row, first_table, basic_at, own_entry, no_entry}
use Rattle.simplex_run.specs.Optimum.{IsProgram}
use Rattle.simplex_run.specs.Tableau.{tableau_of, IsFeasible}
use Rattle.simplex_run.proofs.Entries.{IsTable, no_row, column_entry, right_entry, is_feasible}
use Rattle.simplex_run.proofs.Listed.{listed_count, listed_item, listed_entries, listed_basic}

-- ---- parts of rows
pub append_has : (P : Fraction → Type 0) (xs ys : List Fraction) → ((j : ℕ) → P (at xs j)) → ((j : ℕ) → P (at ys j)) → (j : ℕ) → P (at (xs ++ ys) j)
append_has P [] ys h k j = k j
append_has P (x ∷ xs) ys h k zero = h 0
append_has P (x ∷ xs) ys h k (suc j) = append_has P xs ys (λ i. h (suc i)) k j

pub one_has : (P : Fraction → Type 0) (x : Fraction) → P fraction_zero → P x → (j : ℕ) → P (at (x ∷ []) j)
one_has P x z h zero = h
one_has P x z h (suc j) = z

lowest-zero : IsLowest (whole (pos 0))
lowest-zero = whole_is_lowest (pos 0)

lowest-take : (n : ℕ) (xs : List Fraction) → ((j : ℕ) → IsLowest (at xs j)) → (j : ℕ) → IsLowest (at (take n xs) j)
lowest-take zero xs h j = lowest-zero
lowest-take (suc n) [] h j = lowest-zero
lowest-take (suc n) (x ∷ xs) h zero = h 0
lowest-take (suc n) (x ∷ xs) h (suc j) = lowest-take n xs (λ i. h (suc i)) j

lowest-drop : (n : ℕ) (xs : List Fraction) → ((j : ℕ) → IsLowest (at xs j)) → (j : ℕ) → IsLowest (at (drop n xs) j)
lowest-drop n xs h j = subst IsLowest (sym (get_or-drop n xs j (whole (pos 0)))) (h (n + j))

pub lowest-negated : (xs : List Fraction) → ((j : ℕ) → IsLowest (at xs j)) → (j : ℕ) → IsLowest (at (map negated xs) j)
lowest-negated [] h j = lowest-zero
lowest-negated (x ∷ xs) h zero = negated_is_lowest x (h 0)
lowest-negated (x ∷ xs) h (suc j) = lowest-negated xs (λ i. h (suc i)) j

pub lowest-row : (p : LinearProgram) → IsProgram p → (i j : ℕ) → IsLowest (at (row p i) j)
lowest-row p g i = lowest-take p.variables _ (lowest-drop (i * p.variables) p.coefficients g.coefficients.lowest)

pub length-row : (p : LinearProgram) → IsProgram p → (i : ℕ) → i < p.rows → length (row p i) ≡ p.variables
length-row p g i h =
    let n = p.variables in
    let whole_rows : (i + 1) * n ≤ p.rows * n = mul-le-mul_right n (omega (arith, h)) in
    let rest : length (drop (i * n) p.coefficients) ≡ p.rows * n - i * n = length-drop (i * n) p.coefficients ∙ ap (λ w. w - i * n) g.coefficients.count in
    length-take-le n (drop (i * n) p.coefficients) (omega (arith, rest, whole_rows))

-- ---- the first table
abbrev entries_of : LinearProgram → ℕ → List Fraction
entries_of p i = row p i ++ (at p.right_sides i ∷ [])

abbrev prices_of : LinearProgram → List Fraction
prices_of p = map negated p.costs ++ (fraction_zero ∷ [])

first_entries : (p : LinearProgram) (i : ℕ) → i < p.rows → entries_at (values_at (first_row p) 0 p.rows) i ≡ entries_of p i
first_entries p i h = listed_entries (first_row p) 0 p.rows i h ∙ ap (entries_of p) (omega arith)

first_label : (n k : ℕ) → k < n → label_at (numbers 0 n) k ≡ k
first_label n k h = listed_item 0 (λ i. i) 0 n k h ∙ omega arith

first_basic : (p : LinearProgram) (i : ℕ) → i < p.rows → basic_at (values_at (first_row p) 0 p.rows) i ≡ p.variables + i
first_basic p i h = listed_basic (first_row p) 0 p.rows i h ∙ omega arith

entries_count : (p : LinearProgram) → IsProgram p → (i : ℕ) → i < p.rows → length (entries_of p i) ≡ suc p.variables
entries_count p g i h = length-append (row p i) (at p.right_sides i ∷ []) ∙ omega (arith, length-row p g i h)

prices_count : (p : LinearProgram) → IsProgram p → length (prices_of p) ≡ suc p.variables
prices_count p g = length-append (map negated p.costs) (fraction_zero ∷ []) ∙ omega (arith, length-map p.costs negated, g.costs.count)

pub first_is_table : (p : LinearProgram) → IsProgram p → IsTable p.variables p.rows (first_table p)
unfolding first_table
first_is_table p g =
    let n = p.variables in
    let m = p.rows in
    record {
      total = refl;
      labels = listed_count (λ (i : ℕ). i) 0 n;
      count = listed_count (first_row p) 0 m;
      columns_differ = λ k l a b h. sym (first_label n k a) ∙ h ∙ first_label n l b;
      columns_inside = λ k a. omega (arith, a, first_label n k a);
      basics_differ = λ i k a b h. omega (arith, first_basic p i a, first_basic p k b, h);
      basics_inside = λ i a. omega (arith, a, first_basic p i a);
      apart = λ k i a b h. omega (arith, a, first_label n k a, first_basic p i b, h);
      widths = λ i a. ap length (first_entries p i a) ∙ entries_count p g i a;
      width = prices_count p g;
      lowest = λ i j. elim (cases_lt i m) [
        | inl a ↦ subst (λ es. IsLowest (at es j)) (sym (first_entries p i a)) (append_has IsLowest (row p i) (at p.right_sides i ∷ []) (lowest-row p g i) (one_has IsLowest (at p.right_sides i) lowest-zero (g.right_sides.lowest i)) j)
        | inr a ↦ subst (λ es. IsLowest (at es j)) (sym (no_row (values_at (first_row p) 0 m) i (omega (arith, a, listed_count (first_row p) 0 m)))) lowest-zero
      ];
      lowest_price = append_has IsLowest (map negated p.costs) (fraction_zero ∷ []) (lowest-negated p.costs g.costs.lowest) (one_has IsLowest fraction_zero lowest-zero lowest-zero);
    }

-- ---- its tableau
pub basic_first : (p : LinearProgram) (i : ℕ) → i < p.rows → (tableau_of (first_table p)).basic i ≡ p.variables + i
unfolding first_table
basic_first p i h = first_basic p i h

pub entry_variable : (p : LinearProgram) → IsProgram p → (i j : ℕ) → i < p.rows → j < p.variables → (tableau_of (first_table p)).entry i j ≡ value (at (row p i) j)
unfolding first_table
entry_variable p g i j h k =
    let t = first_table p in
    let w = first_is_table p g in
    ap (λ w. (tableau_of t).entry i w) (sym (first_label p.variables j k))
    ∙ ap value (column_entry p.variables p.rows j t (own_entry (basic_at t.rows i)) (entries_at t.rows i) w k (w.widths i h))
    ∙ ap (λ es. value (at es j)) (first_entries p i h) ∙ ap value (get_or_append_left (row p i) (at p.right_sides i ∷ []) (whole (pos 0)) j (omega (arith, k, length-row p g i h)))

pub entry_right : (p : LinearProgram) → IsProgram p → (i : ℕ) → i < p.rows → (tableau_of (first_table p)).entry i (p.variables + p.rows) ≡ value (at p.right_sides i)
unfolding first_table
entry_right p g i h =
    let t = first_table p in
    let w = first_is_table p g in
    let last : p.variables ≡ length (row p i) + 0 = omega (arith, length-row p g i h) in
    ap value (right_entry p.variables p.rows t (own_entry (basic_at t.rows i)) (entries_at t.rows i) w (w.widths i h))
    ∙ ap (λ es. value (at es p.variables)) (first_entries p i h) ∙ ap (λ k. value (at (entries_of p i) k)) last ∙ ap value (get_or-append-add (row p i) (at p.right_sides i ∷ []) 0 (whole (pos 0)))

pub first_is_good : (p : LinearProgram) → IsProgram p → IsFeasible p.rows (p.variables + p.rows) (tableau_of (first_table p))
first_is_good p g =
    is_feasible p.variables p.rows (first_table p) (first_is_table p g)
    (λ i h. subst IsNotBelow0 (sym (entry_right p g i h)) (not_below_value (at p.right_sides i) (g.right_sides.lowest i).positive (g.right_sides.sign i)))

pub entry_slack : (p : LinearProgram) → IsProgram p → (i k : ℕ) → i < p.rows → k < p.rows → (tableau_of (first_table p)).entry i (p.variables + k) ≡ unit i k
entry_slack p g i k h l = ap (λ w. (tableau_of (first_table p)).entry i w) (sym (basic_first p k l)) ∙ (first_is_good p g).unit_columns i k h l

pub price_variable : (p : LinearProgram) → IsProgram p → (j : ℕ) → j < p.variables → (tableau_of (first_table p)).price j ≡ neg_Q (value (at p.costs j))
unfolding first_table
price_variable p g j h =
    let t = first_table p in
    ap (tableau_of t).price (sym (first_label p.variables j h)) ∙ ap value (column_entry p.variables p.rows j t no_entry t.objective (first_is_table p g) h (prices_count p g))
    ∙ ap value (get_or_append_left (map negated p.costs) (fraction_zero ∷ []) (whole (pos 0)) j (omega (arith, h, length-map p.costs negated, g.costs.count)) ∙ get_or-map negated p.costs j (whole (pos 0)) (whole (pos 0)) (omega (arith, h, g.costs.count)))
    ∙ value_negated (at p.costs j) (g.costs.lowest j).positive

pub price_slack : (p : LinearProgram) → IsProgram p → (k : ℕ) → k < p.rows → (tableau_of (first_table p)).price (p.variables + k) ≡ 0Q
price_slack p g k h = ap (tableau_of (first_table p)).price (sym (basic_first p k h)) ∙ (first_is_good p g).priced k h

-- the objective's right side
pub first_value : (p : LinearProgram) → IsProgram p → at (first_table p).objective p.variables ≡ fraction_zero
unfolding first_table
first_value p g =
    let last : p.variables ≡ length (map negated p.costs) + 0 = omega (arith, length-map p.costs negated, g.costs.count) in
    ap (at (prices_of p)) last ∙ get_or-append-add (map negated p.costs) (fraction_zero ∷ []) 0 (whole (pos 0))

pub price_last : (p : LinearProgram) → IsProgram p → (tableau_of (first_table p)).price (p.variables + p.rows) ≡ 0Q
price_last p g =
    let w = first_is_table p g in
    ap value (right_entry p.variables p.rows (first_table p) no_entry (first_table p).objective w w.width ∙ first_value p g) ∙ value_zero
