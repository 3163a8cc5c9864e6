-- A program that is given row by row, and its first table.
use Rattle.std.proofs.Common.{◌≡◌, ℕ, zero, suc, ◌+◌, ◌*◌, ◌≤◌, List, [], ◌∷◌, ◌++◌, length, map, take, drop, refl, sym, ◌∙◌, ap, arith, append_assoc}
use Rattle.std.proofs.lemmas.List.{length-map, length-append, map-append, take-append-le, take_all, length-take-le, append-nil}
use Rattle.std.specs.List.{All}
use Rattle.std.proofs.lemmas.List.Elements.{All-push}
use Rattle.exact_num.specs.Fraction.{Fraction, negated}
use Rattle.simplex_run.specs.Places.{at, fraction_zero, numbers, values_at}
use Rattle.simplex_run.specs.Program.{row}
use Rattle.simplex_run.specs.Table.{Row, Table, first_row}
use Rattle.fraction_tableau.specs.Candidates.{beside_basics}
use Rattle.fraction_tableau.specs.Lists.{front, fronts}
use Rattle.fraction_tableau.specs.Programs.{empty_program, with_row, coefficients_in, program_of}
use Rattle.simplex_run.proofs.Listed.{listed_count}

pub take_front : {A : Type 0} (xs : List A) (n : ℕ) (y : A) → length xs ≡ n → take n (xs ++ y ∷ []) ≡ xs
take_front [] zero y e = refl
take_front [] (suc n) y e = absurd (omega (arith, e))
take_front (x ∷ xs) zero y e = absurd (omega (arith, e))
take_front (x ∷ xs) (suc n) y e = ap (λ zs. x ∷ zs) (take_front xs n y (omega (arith, e)))

pub at_end : (xs : List Fraction) (n : ℕ) (y : Fraction) → length xs ≡ n → at (xs ++ y ∷ []) n ≡ y
at_end [] zero y e = refl
at_end [] (suc n) y e = absurd (omega (arith, e))
at_end (x ∷ xs) zero y e = absurd (omega (arith, e))
at_end (x ∷ xs) (suc n) y e = at_end xs n y (omega (arith, e))

-- ---- the costs
pub begun : {A : Type 0} (value : A → Fraction) (kept : List ℕ) (rows : List (List A)) (objective costs : List A) (z : A) → kept ≡ numbers 0 (length costs) → rows ≡ [] → objective ≡ costs ++ z ∷ []
    → program_of (length kept) (fronts value (length kept + 1) rows) (take (length kept) (map value objective)) ≡ empty_program (map value costs)
unfolding coefficients_in
begun value kept rows objective costs z k r o =
    let count : length kept ≡ length costs = ap length k ∙ listed_count (λ i. i) 0 (length costs) in
    let as_many : length (map value costs) ≡ length costs = length-map costs value in
    let split : map value (costs ++ z ∷ []) ≡ map value costs ++ value z ∷ [] = map-append value costs (z ∷ []) in
    let taken = take_front (map value costs) (length costs) (value z) as_many in
    rw (count, r, o, split, taken, as_many) refl

pub begun_objective : {A : Type 0} (value : A → Fraction) (n : ℕ) (objective costs : List A) (z : A) → n ≡ length costs → objective ≡ costs ++ z ∷ [] → value z ≡ fraction_zero
    → map value objective ≡ take n (map value objective) ++ fraction_zero ∷ []
begun_objective value n objective costs z k o is_zero =
    let as_many : length (map value costs) ≡ length costs = length-map costs value in
    let split : map value (costs ++ z ∷ []) ≡ map value costs ++ value z ∷ [] = map-append value costs (z ∷ []) in
    let taken = take_front (map value costs) (length costs) (value z) as_many in
    rw (k, o, split, taken, is_zero) refl

-- ---- one row more
coefficients_more : (n : ℕ) (lists : List (List Fraction)) (xs : List Fraction) → coefficients_in n (lists ++ xs ∷ []) ≡ coefficients_in n lists ++ take n xs
unfolding coefficients_in
coefficients_more n [] xs = append-nil (take n xs)
coefficients_more n (ys ∷ lists) xs =
    ap (λ (l : List Fraction). take n ys ++ l) (coefficients_more n lists xs) ∙ sym (append_assoc (take n ys) (coefficients_in n lists) (take n xs))

pub program_more : (n : ℕ) (lists : List (List Fraction)) (xs costs : List Fraction) → program_of n (lists ++ xs ∷ []) costs ≡ with_row (program_of n lists costs) (take n xs) (at xs n)
program_more n lists xs costs =
    let as_many : length (lists ++ xs ∷ []) ≡ length lists + 1 = length-append lists (xs ∷ []) in
    let sides : map (λ ys. at ys n) (lists ++ xs ∷ []) ≡ map (λ ys. at ys n) lists ++ at xs n ∷ [] = map-append (λ ys. at ys n) lists (xs ∷ []) in
    let all = coefficients_more n lists xs in
    rw (as_many, sides, all) refl

pub row_given : {A : Type 0} (value : A → Fraction) (n : ℕ) (rows new : List (List A)) (line a : List A) (b : A) (costs : List Fraction) → new ≡ rows ++ line ∷ [] → take (length a + 1) line ≡ a ++ b ∷ [] → length a ≡ n
    → program_of n (fronts value (n + 1) new) costs ≡ with_row (program_of n (fronts value (n + 1) rows) costs) (map value a) (value b)
row_given value n rows new line a b costs is_new is_line width =
    let as_many : length (map value a) ≡ n = length-map a value ∙ width in
    let is_front : front value (n + 1) line ≡ map value a ++ value b ∷ [] =
    ap (λ k. map value (take (k + 1) line)) (sym width) ∙ ap (map value) is_line ∙ map-append value a (b ∷ []) in
    let split : fronts value (n + 1) (rows ++ line ∷ []) ≡ fronts value (n + 1) rows ++ (map value a ++ value b ∷ []) ∷ [] =
    map-append (front value (n + 1)) rows (line ∷ []) ∙ ap (λ xs. fronts value (n + 1) rows ++ xs ∷ []) is_front in
    ap (λ l. program_of n (fronts value (n + 1) l) costs) is_new
    ∙ ap (λ l. program_of n l costs) split
    ∙ program_more n (fronts value (n + 1) rows) (map value a ++ value b ∷ []) costs
    ∙ ap (λ l. with_row (program_of n (fronts value (n + 1) rows) costs) l (at (map value a ++ value b ∷ []) n)) (take_front (map value a) n (value b) as_many)
    ∙ ap (λ z. with_row (program_of n (fronts value (n + 1) rows) costs) (map value a) z) (at_end (map value a) n (value b) as_many)

-- ---- the first table
split_at_end : (xs : List Fraction) (n : ℕ) → length xs ≡ n + 1 → take n xs ++ at xs n ∷ [] ≡ xs
split_at_end [] n e = absurd (omega (arith, e))
split_at_end (x ∷ []) zero e = refl
split_at_end (x ∷ y ∷ xs) zero e = absurd (omega (arith, e))
split_at_end (x ∷ xs) (suc n) e = ap (λ zs. x ∷ zs) (split_at_end xs n (omega (arith, e)))

drop_past : {A : Type 0} (xs ys : List A) (n k : ℕ) → length xs ≡ n → drop (n + k) (xs ++ ys) ≡ drop k ys
drop_past [] ys n k e = let none : n + k ≡ k = omega (arith, e) in rw none refl
drop_past (x ∷ xs) ys zero k e = absurd (omega (arith, e))
drop_past (x ∷ xs) ys (suc n) k e = let more : suc n + k ≡ suc (n + k) = omega arith in rw more (drop_past xs ys n k (omega (arith, e)))

pub take_past : {A : Type 0} (n : ℕ) (xs ys : List A) → length xs ≡ n → take n (xs ++ ys) ≡ xs
take_past n xs ys e = let low : n ≤ length xs = omega (arith, e) in rw take-append-le (take_all n xs (omega (arith, e)))

-- all lists have n entries and a right side
abbrev pub AreLong : ℕ → List (List Fraction) → Type 0
AreLong n lists = All (λ xs. length xs ≡ n + 1) lists

later_long : (n : ℕ) (xs : List Fraction) (lists : List (List Fraction)) → AreLong n (xs ∷ lists) → AreLong n lists
later_long n xs lists h k d low = h (suc k) d (omega (arith, low))

first_long : (n : ℕ) (xs : List Fraction) (lists : List (List Fraction)) → AreLong n (xs ∷ lists) → length xs ≡ n + 1
first_long n xs lists h = h 0 [] (omega arith)

coefficients_behind : (n : ℕ) (done lists : List (List Fraction)) → AreLong n done → drop (length done * n) (coefficients_in n (done ++ lists)) ≡ coefficients_in n lists
unfolding coefficients_in
coefficients_behind n [] lists h = let none : 0 * n ≡ 0 = omega arith in rw none refl
coefficients_behind n (xs ∷ done) lists h =
    let more : suc (length done) * n ≡ n + length done * n = omega arith in
    let long : length (take n xs) ≡ n = length-take-le n xs (omega (arith, first_long n xs done h)) in
    rw more (drop_past (take n xs) (coefficients_in n (done ++ lists)) n (length done * n) long ∙ coefficients_behind n done lists (later_long n xs done h))

right_at : (n : ℕ) (done : List (List Fraction)) (xs : List Fraction) (lists : List (List Fraction)) → at (map (λ ys. at ys n) (done ++ xs ∷ lists)) (length done) ≡ at xs n
right_at n [] xs lists = refl
right_at n (ys ∷ done) xs lists = right_at n done xs lists

row_at : (n : ℕ) (done : List (List Fraction)) (xs : List Fraction) (lists : List (List Fraction)) (costs : List Fraction) → AreLong n done → length xs ≡ n + 1 → row (program_of n (done ++ xs ∷ lists) costs) (length done) ≡ take n xs
unfolding coefficients_in
row_at n done xs lists costs h long =
    let behind = coefficients_behind n done (xs ∷ lists) h in
    let short : length (take n xs) ≡ n = length-take-le n xs (omega (arith, long)) in
    rw behind (take_past n (take n xs) (coefficients_in n lists) short)

pub rows_given : (n : ℕ) (costs : List Fraction) (done lists : List (List Fraction)) → AreLong n done → AreLong n lists
    → values_at (first_row (program_of n (done ++ lists) costs)) (length done) (length lists) ≡ beside_basics (numbers (n + length done) (length lists)) lists
unfolding values_at
rows_given n costs done [] h k = refl
rows_given n costs done (xs ∷ lists) h k =
    let long = first_long n xs lists k in
    let first = row_at n done xs lists costs h long in
    let side = right_at n done xs lists in
    let whole = split_at_end xs n long in
    let as_many : length (done ++ xs ∷ []) ≡ length done + 1 = length-append done (xs ∷ []) in
    let count : n + (length done + 1) ≡ n + length done + 1 = omega arith in
    let later = rows_given n costs (done ++ xs ∷ []) lists (long_more n done xs h long) (later_long n xs lists k) in
    let later' = rw (append_assoc done (xs ∷ []) lists, as_many, count) at later in
    rw (first, side, whole, later') refl
  where
    long_more : (n : ℕ) (done : List (List Fraction)) (xs : List Fraction) → AreLong n done → length xs ≡ n + 1 → AreLong n (done ++ xs ∷ [])
    long_more n done xs h long = All-push (λ ys. length ys ≡ n + 1) done xs h long

pub fronts_long : {A : Type 0} (value : A → Fraction) (n w : ℕ) (rows : List (List A)) → n + 1 ≤ w → All (λ row. length row ≡ w) rows → AreLong n (fronts value (n + 1) rows)
fronts_long value n w [] low h k d inside = absurd (omega (arith, inside))
fronts_long value n w (row ∷ rows) low h zero d inside = length-map (take (n + 1) row) value ∙ length-take-le (n + 1) row (omega (arith, low, h 0 row (omega arith)))
fronts_long value n w (row ∷ rows) low h (suc k) d inside = fronts_long value n w rows low (λ j e l. h (suc j) e (omega (arith, l))) k d (omega (arith, inside))

-- no list before
pub none_long : (n : ℕ) → AreLong n []
none_long n k d low = absurd (omega (arith, low))

-- the objective row of the first table
pub first_objective : (objective costs : List Fraction) → objective ≡ costs ++ fraction_zero ∷ [] → map negated objective ≡ map negated costs ++ fraction_zero ∷ []
first_objective objective costs e = ap (map negated) e ∙ map-append negated costs (fraction_zero ∷ [])

abbrev pub table_with : ℕ → List ℕ → List Row → List Fraction → Table
table_with columns labels rows objective = record { columns = columns; labels = labels; rows = rows; objective = objective }
