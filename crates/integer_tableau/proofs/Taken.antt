-- The first table, taken in row by row.
use Rattle.std.proofs.Common.{◌≡◌, ℕ, zero, suc, ◌+◌, ◌*◌, ◌/◌, ◌<◌, ◌≤◌, List, [], ◌∷◌, ◌++◌, length, map, take, drop, get_or, refl, sym, ◌∙◌, ap, arith, ℤ}
use Rattle.std.specs.Prelude.{slice_index_or}
use Rattle.std.proofs.lemmas.List.{drop_all, length-map, map-append, take_more, get_or-map}
use Rattle.std.proofs.Math.Nat.{div-one, one-mul}
use Rattle.arithmetic.specs.Gcd.{gcd}
use Rattle.arithmetic.proofs.GcdLaws.{gcd_comm, gcd-one}
use Rattle.exact_num.specs.Fraction.{Fraction, negated}
use Rattle.simplex_run.specs.Places.{fraction_zero, numbers}
use Rattle.simplex_run.specs.Table.{first_table}
use Rattle.fraction_tableau.specs.Candidates.{beside_basics as beside_lists, apart}
use Rattle.fraction_tableau.specs.Programs.{program_of}
use Rattle.fraction_tableau.proofs.Starts.{AreLong, none_long, rows_given, table_with as fractions_with}
use Rattle.run_equivalence.specs.IntegerRows.{IntegerRow, WholeRow, taken_in, row_taken_in, table_taken_in, multiple, least_multiple, widest}
use Rattle.integer_tableau.specs.Within.{HasMultiple}
use Rattle.integer_tableau.specs.Rows.{row_in, integer_rows_in, beside_basics}
use Rattle.integer_tableau.specs.Tables.{table_of}
use Rattle.integer_tableau.proofs.Pivoting.{table_with}

-- ---- the common denominator, from the last entry to the first
pub multiple_more : {A : Type 0} (f : A → Fraction) (xs : List A) (k : ℕ) (x : A) → k < length xs → x ≡ slice_index_or xs k x → least_multiple (map f (drop k xs)) ≡ multiple (f x).denominator (least_multiple (map f (drop (k + 1) xs)))
unfolding least_multiple
multiple_more f [] k x h e = absurd (omega (arith, h))
multiple_more {A} f (y ∷ xs) zero x h e = ap (λ (z : A). multiple (f z).denominator (least_multiple (map f xs))) (sym e)
multiple_more f (y ∷ xs) (suc k) x h e =
    let same : suc (k + 1) ≡ suc k + 1 = omega arith in
    multiple_more f xs k x (omega (arith, h)) e ∙ ap (λ n. multiple (f x).denominator (least_multiple (map f (drop n (y ∷ xs))))) same

pub no_multiple : {A : Type 0} (f : A → Fraction) (xs : List A) (k : ℕ) → length xs ≤ k → HasMultiple (least_multiple (map f (drop k xs))) 1
unfolding least_multiple
no_multiple f xs k h =
    let none : drop k xs ≡ [] = drop_all k xs h in
    rw none (record { is = refl; positive = omega arith; below = omega arith })

pub has_more : {A : Type 0} (f : A → Fraction) (xs : List A) (k found next : ℕ) (x : A) → k < length xs → x ≡ slice_index_or xs k x → HasMultiple (least_multiple (map f (drop (k + 1) xs))) found
    → next ≡ multiple (f x).denominator found → 0 < next → next ≤ widest → HasMultiple (least_multiple (map f (drop k xs))) next
has_more f xs k found next x low at_x h is p q =
    record { is = is ∙ ap (multiple (f x).denominator) h.is ∙ sym (multiple_more f xs k x low at_x); positive = p; below = q }

pub multiple_one : (b : ℕ) → multiple 1 b ≡ b
multiple_one b = let e : gcd 1 b ≡ 1 = gcd_comm 1 b ∙ gcd-one b in ap (λ g. 1 * (b / g)) e ∙ one-mul _ ∙ div-one b

-- ---- one row more
pub taken_more : (w : ℕ) (lists : List (List Fraction)) (rows : List (List ℤ)) (new : List ℤ) (i : ℕ) → i < length lists → integer_rows_in w rows ≡ take i (map taken_in lists) → row_in w new ≡ taken_in (get_or lists i [])
    → integer_rows_in w (rows ++ new ∷ []) ≡ take (i + 1) (map taken_in lists)
taken_more w lists rows new i low h is_new =
    map-append (row_in w) rows (new ∷ [])
    ∙ ap (λ (ls : List IntegerRow). ls ++ row_in w new ∷ []) h
    ∙ ap (λ (l : IntegerRow). take i (map taken_in lists) ++ l ∷ []) (is_new ∙ sym (get_or-map taken_in lists i [] (taken_in []) low))
    ∙ sym (take_more (map taken_in lists) i (taken_in []) (omega (arith, low, length-map lists taken_in)))

-- ---- the table
rows_taken : (bs : List ℕ) (lists : List (List Fraction)) → map row_taken_in (beside_lists bs lists) ≡ beside_basics bs (map taken_in lists)
rows_taken [] lists = refl
rows_taken (b ∷ bs) [] = refl
rows_taken (b ∷ bs) (xs ∷ lists) = ap (λ (rows : List WholeRow). row_taken_in (record { basic = b; entries = xs }) ∷ rows) (rows_taken bs lists)

pub table_taken : (N : ℕ) (labels basics : List ℕ) (lists : List (List Fraction)) (objective : List Fraction) (rows : List (List ℤ)) (last : List ℤ) → length labels + length basics ≡ N
    → integer_rows_in (length labels + 1) rows ≡ map taken_in lists → row_in (length labels + 1) last ≡ taken_in objective
    → table_of labels basics rows last ≡ table_taken_in (apart N labels basics lists objective)
table_taken N labels basics lists objective rows last count rows_are last_is =
    let all = ap (beside_basics basics) rows_are ∙ sym (rows_taken basics lists) in
    λ i. table_with (count i) labels (all i) (last_is i)

-- ---- the first table of lists, each with its right side last
pub lists_first : (n : ℕ) (lists : List (List Fraction)) (costs : List Fraction) → AreLong n lists
    → apart (n + length lists) (numbers 0 n) (numbers n (length lists)) lists (map negated costs ++ fraction_zero ∷ []) ≡ first_table (program_of n lists costs)
unfolding first_table
lists_first n lists costs long =
    let none : n ≡ n + 0 = omega arith in
    let rows = ap (λ k. beside_lists (numbers k (length lists)) lists) none ∙ sym (rows_given n costs [] lists (none_long n) long) in
    ap (λ r. fractions_with (n + length lists) (numbers 0 n) r (map negated costs ++ fraction_zero ∷ [])) rows
