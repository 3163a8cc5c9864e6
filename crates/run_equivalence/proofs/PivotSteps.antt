-- One pivot over rows of whole numbers, and the pivot of the run over fractions on what they stand
-- for.
use Rattle.exact_num.specs.Rationals.{reduced_is_lowest}
use Rattle.exact_num.proofs.GreaterLimit.{le_more}
use Rattle.std.proofs.Common.{◌≡◌, ℕ, zero, suc, ◌+◌, ◌*◌, ◌/◌, ◌<◌, ◌≤◌, List, [], ◌∷◌, length, map, set, arith, refl, sym, ◌∙◌, ap, subst, ℤ, pos, negsuc, ◌*ℤ◌, unsigned_abs, int_div, Bool, true, false, nat_eq}
use Rattle.std.specs.Prelude.{Result, Ok, Option, Some, None, if◌then◌else◌, int_lt, nat_lt}
use Rattle.std.specs.declared.cmp.Ordering.{Ordering}
use Rattle.std.specs.declared.cmp.Ordering.TheVariants.{Less, Equal, Greater}
use Rattle.std.specs.Ordering.{int_cmp}
use Rattle.std.proofs.lemmas.Int.{ints}
use Rattle.std.proofs.lemmas.Bool.{and_from, and_parts, leb-true}
use Rattle.std.proofs.lemmas.List.{length-set}
use Rattle.std.proofs.Math.Nat.{mul-pos, pos_of_dvd_of_pos}
use Rattle.std.specs.Int.{◌∣◌}
use Rattle.arithmetic.proofs.GcdLaws.{pos_of_quotient}
use Rattle.arithmetic.proofs.Comparisons.{int_cmp-mul}
use Rattle.arithmetic.proofs.Ring.{ring, V, ◌⊗◌}
use Rattle.exact_num.specs.declared.misfit.Wide.{Wide}
use Rattle.exact_num.specs.Fraction.{Fraction, over, reduced, fraction_cmp}
use Rattle.exact_num.specs.CommonDenominator.{IsRatio}
use Rattle.exact_num.specs.Fits.{div_of, after}
use Rattle.simplex_run.specs.Places.{at}
use Rattle.simplex_run.specs.Table.{Row, row_of, label_at, with_right, entries_at, basic_at, right_side}
use Rattle.simplex_run.specs.Choice.{Column, smaller, least_below, entering, Ratio, ratio_of, ratio_in, join_ratio, ratios, by_order, lesser, least}
use Rattle.simplex_run.specs.Pivot.{eliminated, row_after, rows_after, after_pivot}
use Rattle.simplex_run.specs.Run.{leave, pivoted, moved_or_stopped}
use Rattle.simplex_run.proofs.Columns.{right_count}
use Rattle.run_equivalence.specs.IntegerRows.{IntegerRow, AreSizes, IsShaped, IsIntegerRow, AreIntegerRows, IsWithin, WholeRow, IntegerTable, integer_row, whole_row, number_at, integer_row_at, basic_of, fractions_over, fractions_of, row_for, table_for, row_size, row_fits, rows_fit}
use Rattle.run_equivalence.specs.WholePivoting.{least_column, whole_entering, whole_ratios, content, cut, exchanged_in, row_eliminated, whole_rows_after, whole_pivoted, whole_leave, whole_pivot, step_size, steps_within, row_steps_within, rows_steps_within, table_steps_within, leaving_fits, pivot_fits}
use Rattle.run_equivalence.specs.WholeLaws.{as_pivot, PivotsAgree}
use Rattle.run_equivalence.proofs.Multiples.{multiple_of, by_positive, reduced_is}
use Rattle.run_equivalence.proofs.StepsFit.{quotients_fit}
use Rattle.run_equivalence.proofs.IntegerRowSteps.{row_of_fit, sizes_bound, fraction_at, content_denominator, content_numbers, cut_same, cut_within, cleared_shaped, set_sizes}
use Rattle.run_equivalence.proofs.IntegerPivots.{divided_is, cleared_is}

-- ---- tables of whole rows, each of n numbers
abbrev pub AreShaped : ℕ → List WholeRow → Type 0
AreShaped n [] = Unit {0}
AreShaped n (row ∷ rows) = IsShaped n row.line × AreShaped n rows

pub record IsWhole (n : ℕ) (w : IntegerTable) : Type 0 where
  pub labels : length w.labels ≡ n
  pub rows : AreShaped (suc n) w.rows
  pub objective : IsShaped (suc n) w.objective

pub rows_of_fit : (bound n : ℕ) (rows : List WholeRow) → AreShaped n rows → rows_fit bound rows ≡ true → AreIntegerRows bound n rows
unfolding rows_fit
rows_of_fit bound n [] s h = tt
rows_of_fit bound n (row ∷ rows) s h =
    let parts = and_parts (row_fits bound row.line) (rows_fit bound rows) h in
    (row_of_fit bound n row.line s.0 parts.0, rows_of_fit bound n rows s.1 parts.1)

pub within_of_fit : (bound n : ℕ) (w : IntegerTable) → IsWhole n w → rows_fit bound w.rows ≡ true → IsWithin bound n w
within_of_fit bound n w s h = record { labels = s.labels; rows = rows_of_fit bound (suc n) w.rows s.rows h; objective = s.objective }

pub shaped_row : (bound n : ℕ) (l : IntegerRow) → IsIntegerRow bound n l → IsShaped n l
shaped_row bound n l g = record { positive = g.positive; count = g.count }

pub shaped_rows : (bound n : ℕ) (rows : List WholeRow) → AreIntegerRows bound n rows → AreShaped n rows
shaped_rows bound n [] g = tt
shaped_rows bound n (row ∷ rows) g = (shaped_row bound n row.line g.0, shaped_rows bound n rows g.1)

pub integer_row_at_is : (bound n : ℕ) (rows : List WholeRow) (r : ℕ) → AreIntegerRows bound n rows → r < length rows → IsIntegerRow bound n (integer_row_at rows r)
integer_row_at_is bound n [] r g h = absurd (omega (arith, h))
integer_row_at_is bound n (row ∷ rows) zero g h = g.0
integer_row_at_is bound n (row ∷ rows) (suc r) g h = integer_row_at_is bound n rows r g.1 (omega (arith, h))

pub entries_for : (rows : List WholeRow) (r : ℕ) → entries_at (map row_for rows) r ≡ fractions_of (integer_row_at rows r)
unfolding fractions_over
entries_for [] r = refl
entries_for (row ∷ rows) zero = refl
entries_for (row ∷ rows) (suc r) = entries_for rows r

-- ---- signs
sign_above : (n : ℤ) (k : ℕ) → 0 < k → int_lt (pos 0) (n *ℤ pos k) ≡ int_lt (pos 0) n
sign_above (pos zero) k p = grind (arith, ints)
sign_above (pos (suc n)) k p = let q : 0 < suc n * k = mul-pos (omega arith) p in grind (arith, ints)
sign_above (negsuc n) k p = let q : 0 < suc n * k = mul-pos (omega arith) p in grind (arith, ints)

sign_below : (n : ℤ) (k : ℕ) → 0 < k → int_lt (n *ℤ pos k) (pos 0) ≡ int_lt n (pos 0)
sign_below (pos n) k p = grind (arith, ints)
sign_below (negsuc n) k p = let q : 0 < suc n * k = mul-pos (omega arith) p in grind (arith, ints)

above_same : (z : ℤ) (d : ℕ) → 0 < d → int_lt (pos 0) (reduced z d).numerator ≡ int_lt (pos 0) z
above_same z d p =
    let m = multiple_of (reduced z d) z d (reduced_is_lowest z d p) (reduced_is z d) in
    sym (sign_above (reduced z d).numerator m.by (by_positive (reduced z d) z d m p)) ∙ ap (int_lt (pos 0)) (sym m.above)

pub below_same : (z : ℤ) (d : ℕ) → 0 < d → int_lt (reduced z d).numerator (pos 0) ≡ int_lt z (pos 0)
below_same z d p =
    let m = multiple_of (reduced z d) z d (reduced_is_lowest z d p) (reduced_is z d) in
    sym (sign_below (reduced z d).numerator m.by (by_positive (reduced z d) z d m p)) ∙ ap (λ w. int_lt w (pos 0)) (sym m.above)

-- ---- the entering column
least_same : (k d : ℕ) (vs : List ℕ) (zs : List ℤ) → 0 < d → least_below k vs (fractions_over d zs) ≡ least_column k vs zs
unfolding least_below least_column fractions_over
least_same k d [] zs p = refl
least_same k d (v ∷ vs) [] p = refl
least_same k d (v ∷ vs) (z ∷ zs) p =
    let first = below_same z d p in
    let later = least_same (k + 1) d vs zs p in
    rw (first, later) refl

pub entering_same : (w : IntegerTable) → 0 < w.objective.denominator → whole_entering w ≡ entering (table_for w)
unfolding whole_entering entering
entering_same w p = sym (least_same 0 w.objective.denominator w.labels w.objective.numbers p)

abbrev Inside : ℕ → ℕ → Option Column → Type 0
Inside k l None = Unit {0}
Inside k l (Some c) = (k ≤ c.place) × (c.place < k + l)

inside : (k : ℕ) (vs : List ℕ) (zs : List ℤ) → Inside k (length vs) (least_column k vs zs)
unfolding least_column
inside k [] zs = tt
inside k (v ∷ vs) [] = tt
inside k (v ∷ vs) (z ∷ zs) = step (int_lt z (pos 0)) (least_column (k + 1) vs zs) (inside (k + 1) vs zs)
  where
    more : (o : Option Column) → Inside (k + 1) (length vs) o → Inside k (length (v ∷ vs)) o
    more None h = tt
    more (Some c) h = (omega (arith, h.0), omega (arith, h.1))

    choose : (c : Column) → Inside (k + 1) (length vs) (Some c) → (t : Bool) → Inside k (length (v ∷ vs)) (Some (if t then c else record { place = k; label = v }))
    choose c h true = more (Some c) h
    choose c h false = (omega arith, omega arith)

    step : (b : Bool) (o : Option Column) → Inside (k + 1) (length vs) o → Inside k (length (v ∷ vs)) (if b then Some (smaller (record { place = k; label = v }) o) else o)
    step true None h = (omega arith, omega arith)
    step true (Some c) h = choose c h (nat_lt c.label v)
    step false o h = more o h

pub entering_inside : (n : ℕ) (w : IntegerTable) (c : Column) → length w.labels ≡ n → whole_entering w ≡ Some c → c.place < n
unfolding whole_entering
entering_inside n w c count h =
    let within : Inside 0 (length w.labels) (Some c) = subst (Inside 0 (length w.labels)) h (inside 0 w.labels w.objective.numbers) in
    omega (arith, within.1, count)

-- ---- the ratios
-- a ratio with its value in lowest terms
abbrev pub lowered : Ratio → Ratio
lowered q = ratio_of q.place q.basic (reduced q.value.numerator q.value.denominator)

pub size_above : (z : ℤ) → int_lt (pos 0) z ≡ true → (z ≡ pos (unsigned_abs z)) × (0 < unsigned_abs z)
size_above (pos n) h = (refl, positive n h)
  where
    positive : (n : ℕ) → int_lt (pos 0) (pos n) ≡ true → 0 < n
    positive n h = grind (arith, ints)
size_above (negsuc n) h = absurd (gone n h)
  where
    gone : (n : ℕ) → int_lt (pos 0) (negsuc n) ≡ true → ⊥
    gone n h = grind (arith, ints)

-- ---- what is above 0 in a row stays above 0 where it is cut
divided_number : (c : ℕ) (zs : List ℤ) (j : ℕ) → 0 < unsigned_abs (number_at zs j) → number_at (map (λ z. int_div z (pos c)) zs) j ≡ int_div (number_at zs j) (pos c)
divided_number c [] j h = absurd (omega (arith, h))
divided_number c (z ∷ zs) zero h = refl
divided_number c (z ∷ zs) (suc j) h = divided_number c zs j h

divided_above : (x : ℤ) (c : ℕ) → int_lt (pos 0) x ≡ true → 0 < c → c ∣ unsigned_abs x → int_lt (pos 0) (int_div x (pos c)) ≡ true
divided_above (pos n) c h p d = let q : 0 < n / c = pos_of_quotient n c (size_above (pos n) h).1 p d in grind (arith, ints)
divided_above (negsuc n) c h p d = absurd cc

pub cut_above : (l : IntegerRow) (j : ℕ) → 0 < l.denominator → int_lt (pos 0) (number_at l.numbers j) ≡ true → int_lt (pos 0) (number_at (cut l).numbers j) ≡ true
unfolding cut
cut_above l j p h =
    let divides = content_denominator l.denominator l.numbers in
    let c = content l.denominator l.numbers in
    subst (λ z. int_lt (pos 0) z ≡ true) (sym (divided_number c l.numbers j (size_above (number_at l.numbers j) h).1))
    (divided_above (number_at l.numbers j) c h (pos_of_dvd_of_pos divides p) (content_numbers l.denominator l.numbers j))

-- the ratio of a row, where its entry in column e is above 0
abbrev value_if : Bool → ℤ → ℕ → Option Fraction
value_if b z a = if b then Some (reduced z a) else None

ratio_is : (limit n columns e : ℕ) (l : IntegerRow) → IsIntegerRow limit n l
    → ratio_in limit columns e (fractions_of l) ≡ Ok (value_if (int_lt (pos 0) (number_at l.numbers e)) (number_at l.numbers columns) (unsigned_abs (number_at l.numbers e)))
unfolding ratio_in
ratio_is limit n columns e l g =
    rw (at_e, above_same x l.denominator g.positive) (step (int_lt (pos 0) x) refl)
  where
    x : ℤ
    x = number_at l.numbers e

    z : ℤ
    z = number_at l.numbers columns

    at_e : at (fractions_of l) e ≡ reduced (number_at l.numbers e) l.denominator
    at_e = fraction_at l.denominator l.numbers e g.positive

    at_right : at (fractions_of l) columns ≡ reduced z l.denominator
    at_right = fraction_at l.denominator l.numbers columns g.positive

    step : (b : Bool) → int_lt (pos 0) x ≡ b → (if b then after (div_of limit (right_side columns (fractions_of l)) (reduced (number_at l.numbers e) l.denominator)) (λ q. Ok (Some q)) else Ok None) ≡ Ok (value_if b z (unsigned_abs (number_at l.numbers e)))
    step true h =
        let s = size_above x h in
        let a : ℕ = unsigned_abs x in
        let low = reduced_is_lowest x l.denominator g.positive in
        let is_a : IsRatio (reduced x l.denominator) (pos a) l.denominator = subst (λ (w : ℤ). IsRatio (reduced x l.denominator) w l.denominator) s.0 (reduced_is x l.denominator) in
        let q : div_of limit (reduced z l.denominator) (reduced x l.denominator) ≡ Ok (reduced z a) = quotients_fit limit l.denominator a (reduced z l.denominator) (reduced x l.denominator) z (reduced_is_lowest z l.denominator g.positive) low g.positive s.1 (reduced_is z l.denominator) is_a (g.sizes columns) (g.sizes e) in
        rw (at_right, q) refl
    step false h = refl

pub ratios_are : (limit n columns e i : ℕ) (rows : List WholeRow) → AreIntegerRows limit n rows → ratios limit columns e i (map row_for rows) ≡ Ok (map lowered (whole_ratios columns e i rows))
unfolding ratios whole_ratios
ratios_are limit n columns e i [] g = refl
ratios_are limit n columns e i (row ∷ rows) g =
    let first = ratio_is limit n columns e row.line g.0 in
    let later = ratios_are limit n columns e (i + 1) rows g.1 in
    rw (first, later) (ap Ok (join (int_lt (pos 0) (number_at row.line.numbers e)) (whole_ratios columns e (i + 1) rows)))
  where
    z : ℤ
    z = number_at row.line.numbers columns

    a : ℕ
    a = unsigned_abs (number_at row.line.numbers e)

    join : (b : Bool) (qs : List Ratio) → join_ratio i row.basic (value_if b (number_at row.line.numbers columns) (unsigned_abs (number_at row.line.numbers e))) (map lowered qs) ≡ map lowered (if b then ratio_of i row.basic (over (number_at row.line.numbers columns) (unsigned_abs (number_at row.line.numbers e))) ∷ qs else qs)
    join true qs = refl
    join false qs = refl

-- ---- the least of the ratios
abbrev pub AllOf : (Ratio → Type 0) → List Ratio → Type 0
AllOf P [] = Unit {0}
AllOf P (q ∷ qs) = P q × AllOf P qs

pub all_of : (P R : Ratio → Type 0) → ((q : Ratio) → P q → R q) → (qs : List Ratio) → AllOf P qs → AllOf R qs
all_of P R f [] h = tt
all_of P R f (q ∷ qs) h = (f q h.0, all_of P R f qs h.1)

lesser_has : (P : Ratio → Type 0) (a b : Ratio) → P a → P b → P (lesser a b)
lesser_has P a b p q = step (fraction_cmp a.value b.value) (nat_lt a.basic b.basic)
  where
    choose : (t : Bool) → P (if t then a else b)
    choose true = p
    choose false = q

    step : (o : Ordering) (t : Bool) → P (by_order o a (if t then a else b) b)
    step Less t = p
    step Equal t = choose t
    step Greater t = q

least_has : (P : Ratio → Type 0) (a : Ratio) (qs : List Ratio) → P a → AllOf P qs → P (least a qs)
unfolding least
least_has P a [] p h = p
least_has P a (b ∷ qs) p h = least_has P (lesser a b) qs (lesser_has P a b p h.0) h.1

-- in lowest terms the order is the same
cmp_cross : (a c x y : ℤ) (b d e f : ℕ) → 0 < b → 0 < d → 0 < e → 0 < f → x *ℤ pos b ≡ a *ℤ pos e → y *ℤ pos d ≡ c *ℤ pos f → int_cmp (x *ℤ pos f) (y *ℤ pos e) ≡ int_cmp (a *ℤ pos d) (c *ℤ pos b)
cmp_cross a c x y b d e f pb pd pe pf h k =
    let left : (x *ℤ pos f) *ℤ pos (b * d) ≡ (a *ℤ pos d) *ℤ pos (e * f) =
    ring (x ∷ pos f ∷ pos b ∷ pos d ∷ []) ((V 0 ⊗ V 1) ⊗ (V 2 ⊗ V 3)) ((V 0 ⊗ V 2) ⊗ (V 1 ⊗ V 3)) refl ∙ ap (λ (w : ℤ). w *ℤ pos (f * d)) h ∙ ring (a ∷ pos e ∷ pos f ∷ pos d ∷ []) ((V 0 ⊗ V 1) ⊗ (V 2 ⊗ V 3)) ((V 0 ⊗ V 3) ⊗ (V 1 ⊗ V 2)) refl in
    let right : (y *ℤ pos e) *ℤ pos (b * d) ≡ (c *ℤ pos b) *ℤ pos (e * f) =
    ring (y ∷ pos e ∷ pos b ∷ pos d ∷ []) ((V 0 ⊗ V 1) ⊗ (V 2 ⊗ V 3)) ((V 0 ⊗ V 3) ⊗ (V 1 ⊗ V 2)) refl ∙ ap (λ (w : ℤ). w *ℤ pos (e * b)) k ∙ ring (c ∷ pos f ∷ pos e ∷ pos b ∷ []) ((V 0 ⊗ V 1) ⊗ (V 2 ⊗ V 3)) ((V 0 ⊗ V 3) ⊗ (V 2 ⊗ V 1)) refl in
    sym (int_cmp-mul (x *ℤ pos f) (y *ℤ pos e) (b * d) (mul-pos pb pd))
    ∙ ap (λ (w : ℤ). int_cmp w ((y *ℤ pos e) *ℤ pos (b * d))) left
    ∙ ap (λ (w : ℤ). int_cmp ((a *ℤ pos d) *ℤ pos (e * f)) w) right
    ∙ int_cmp-mul (a *ℤ pos d) (c *ℤ pos b) (e * f) (mul-pos pe pf)

cmp_lowered : (x y : Fraction) → 0 < x.denominator → 0 < y.denominator → fraction_cmp (reduced x.numerator x.denominator) (reduced y.numerator y.denominator) ≡ fraction_cmp x y
cmp_lowered x y p q =
    let r = reduced x.numerator x.denominator in
    let s = reduced y.numerator y.denominator in
    cmp_cross x.numerator y.numerator r.numerator s.numerator x.denominator y.denominator r.denominator s.denominator p q
    (reduced_is_lowest x.numerator x.denominator p).positive (reduced_is_lowest y.numerator y.denominator q).positive (reduced_is x.numerator x.denominator) (reduced_is y.numerator y.denominator)

abbrev pub IsOver : Ratio → Type 0
IsOver q = 0 < q.value.denominator

lesser_lowered : (a b : Ratio) → IsOver a → IsOver b → lesser (lowered a) (lowered b) ≡ lowered (lesser a b)
lesser_lowered a b p q =
    ap (λ o. by_order o (lowered a) (if nat_lt a.basic b.basic then lowered a else lowered b) (lowered b)) (cmp_lowered a.value b.value p q)
    ∙ step (fraction_cmp a.value b.value) (nat_lt a.basic b.basic)
  where
    choose : (t : Bool) → (if t then lowered a else lowered b) ≡ lowered (if t then a else b)
    choose true = refl
    choose false = refl

    step : (o : Ordering) (t : Bool) → by_order o (lowered a) (if t then lowered a else lowered b) (lowered b) ≡ lowered (by_order o a (if t then a else b) b)
    step Less t = refl
    step Equal t = choose t
    step Greater t = refl

pub least_lowered : (a : Ratio) (qs : List Ratio) → IsOver a → AllOf IsOver qs → least (lowered a) (map lowered qs) ≡ lowered (least a qs)
unfolding least
least_lowered a [] p h = refl
least_lowered a (b ∷ qs) p h =
    ap (λ w. least w (map lowered qs)) (lesser_lowered a b p h.0) ∙ least_lowered (lesser a b) qs (lesser_has IsOver a b p h.0) h.1

-- where a ratio comes from
pub record IsCandidate (e i : ℕ) (rows : List WholeRow) (q : Ratio) : Type 0 where
  pub row : ℕ
  pub place : q.place ≡ i + row
  pub inside : row < length rows
  pub above : int_lt (pos 0) (number_at (integer_row_at rows row).numbers e) ≡ true
  pub below : IsOver q

pub candidates : (columns e i : ℕ) (rows : List WholeRow) → AllOf (IsCandidate e i rows) (whole_ratios columns e i rows)
unfolding whole_ratios
candidates columns e i [] = tt
candidates columns e i (row ∷ rows) =
    step (int_lt (pos 0) (number_at row.line.numbers e)) refl (all_of (IsCandidate e (i + 1) rows) (IsCandidate e i (row ∷ rows)) shift (whole_ratios columns e (i + 1) rows) (candidates columns e (i + 1) rows))
  where
    shift : (q : Ratio) → IsCandidate e (i + 1) rows q → IsCandidate e i (row ∷ rows) q
    shift q c = record { row = suc c.row; place = c.place ∙ omega arith; inside = omega (arith, c.inside); above = c.above; below = c.below }

    step : (b : Bool) → int_lt (pos 0) (number_at row.line.numbers e) ≡ b → AllOf (IsCandidate e i (row ∷ rows)) (whole_ratios columns e (i + 1) rows)
        → AllOf (IsCandidate e i (row ∷ rows)) (if b then ratio_of i row.basic (over (number_at row.line.numbers columns) (unsigned_abs (number_at row.line.numbers e))) ∷ whole_ratios columns e (i + 1) rows else whole_ratios columns e (i + 1) rows)
    step true h later = (record { row = 0; place = omega arith; inside = omega arith; above = h; below = (size_above (number_at row.line.numbers e) h).1 }, later)
    step false h later = later

-- ---- the rows
fits : Row → Result Row Wide
fits row = Ok row

row_after_is : (limit n c e r i a : ℕ) (labels : List ℕ) (before : IntegerRow) (pivot : List ℤ) (row : WholeRow) → IsShaped n before → c < n → length labels ≡ n → a ≡ unsigned_abs (number_at before.numbers c) → 0 < a → length pivot ≡ n → AreSizes (row_size before) pivot → IsShaped n row.line → row_steps_within limit c r before i row.line ≡ true
    → row_after limit c labels e r (fractions_over a pivot) i (row_for row) ≡ Ok (row_for (if nat_eq i r then whole_row e (integer_row a pivot) else whole_row row.basic (row_eliminated c a pivot row.line)))
unfolding fits
row_after_is limit n c e r i a labels before pivot row sp in_c many is_a pa wide hq g = step (nat_eq i r)
  where
    step : (b : Bool) → (if b then true else steps_within limit c before row.line) ≡ true
        → (if b then fits (row_of e (fractions_over a pivot)) else after (eliminated limit c labels (fractions_over a pivot) (fractions_of row.line)) (λ es. fits (row_of row.basic es)))
        ≡ fits (row_for (if b then whole_row e (integer_row a pivot) else whole_row row.basic (row_eliminated c a pivot row.line)))
    step true h = refl
    step false h =
        let room : step_size (row_size row.line) (unsigned_abs (number_at row.line.numbers c)) a (row_size before) ≤ limit =
        subst (λ (w : ℕ). step_size (row_size row.line) (unsigned_abs (number_at row.line.numbers c)) w (row_size before) ≤ limit) (sym is_a) (leb-true _ limit h) in
        let other = cleared_is limit (row_size row.line) (row_size before) n c a labels pivot row.line room (sizes_bound n row.line g) in_c many pa wide hq in
        rw other refl

rows_after_are : (limit n c e r i a : ℕ) (labels : List ℕ) (before : IntegerRow) (pivot : List ℤ) (rows : List WholeRow) → IsShaped n before → c < n → length labels ≡ n → a ≡ unsigned_abs (number_at before.numbers c) → 0 < a → length pivot ≡ n → AreSizes (row_size before) pivot → AreShaped n rows → rows_steps_within limit c r before i rows ≡ true
    → rows_after limit c labels e r (fractions_over a pivot) i (map row_for rows) ≡ Ok (map row_for (whole_rows_after c e r a pivot i rows))
unfolding rows_after whole_rows_after rows_steps_within
rows_after_are limit n c e r i a labels before pivot [] sp in_c many is_a pa wide hq g h = refl
rows_after_are limit n c e r i a labels before pivot (row ∷ rows) sp in_c many is_a pa wide hq g h =
    let parts = and_parts (row_steps_within limit c r before i row.line) (rows_steps_within limit c r before (i + 1) rows) h in
    let first = row_after_is limit n c e r i a labels before pivot row sp in_c many is_a pa wide hq g.0 parts.0 in
    let others = rows_after_are limit n c e r (i + 1) a labels before pivot rows sp in_c many is_a pa wide hq g.1 parts.1 in
    rw (first, others) refl

pub rows_shaped : (n c e r a i : ℕ) (pivot : List ℤ) (rows : List WholeRow) → AreShaped n rows → 0 < a → length pivot ≡ n → AreShaped n (whole_rows_after c e r a pivot i rows)
unfolding whole_rows_after
rows_shaped n c e r a i pivot [] g pa wide = tt
rows_shaped n c e r a i pivot (row ∷ rows) g pa wide = (step (nat_eq i r), rows_shaped n c e r a (i + 1) pivot rows g.1 pa wide)
  where
    step : (b : Bool) → IsShaped n (if b then whole_row e (integer_row a pivot) else whole_row row.basic (row_eliminated c a pivot row.line)).line
    step true = record { positive = pa; count = wide }
    step false = cleared_shaped n c a pivot row.line g.0 pa wide

-- ---- the pivot
basic_for : (rows : List WholeRow) (r : ℕ) → r < length rows → basic_at (map row_for rows) r ≡ basic_of rows r
basic_for [] r h = absurd (omega (arith, h))
basic_for (row ∷ rows) zero h = refl
basic_for (row ∷ rows) (suc r) h = basic_for rows r (omega (arith, h))

pub pivoted_is : (limit n c r : ℕ) (t : IntegerTable) → table_steps_within limit c r t.objective t.rows ≡ true → IsWithin limit n t → c < n → r < length t.rows → int_lt (pos 0) (number_at (integer_row_at t.rows r).numbers c) ≡ true
    → after_pivot limit c r (table_for t) ≡ Ok (table_for (whole_pivoted c r t))
unfolding after_pivot whole_pivoted
pivoted_is limit n c r t mixed g in_c inside above =
    let v = basic_of t.rows r in
    let ks = with_right t.columns (set t.labels c v) in
    let many : length ks ≡ suc n = right_count t.columns (set t.labels c v) ∙ ap suc (length-set t.labels c v ∙ g.labels) in
    let in_n : c < suc n = omega (arith, in_c) in
    let before = integer_row_at_is limit (suc n) t.rows r g.rows inside in
    let l = cut (integer_row_at t.rows r) in
    let is_integer_row = cut_within limit (suc n) (integer_row_at t.rows r) before in
    let s = size_above (number_at l.numbers c) (cut_above (integer_row_at t.rows r) c before.positive above) in
    let a : ℕ = unsigned_abs (number_at l.numbers c) in
    let pivot = exchanged_in c l in
    let wide : length pivot ≡ suc n = length-set l.numbers c (pos l.denominator) ∙ is_integer_row.count in
    let shaped = shaped_row limit (suc n) l is_integer_row in
    let bound = sizes_bound (suc n) l shaped in
    let hq : AreSizes (row_size l) pivot = set_sizes (row_size l) l.numbers c (pos l.denominator) bound.sizes bound.below in
    let labels = basic_for t.rows r inside in
    let entries = entries_for t.rows r ∙ sym (cut_same (integer_row_at t.rows r) before.positive) in
    let first = divided_is limit (suc n) c a ks l is_integer_row many s.1 s.0 (is_integer_row.sizes c) in
    let parts = and_parts (steps_within limit c l t.objective) (rows_steps_within limit c r l 0 t.rows) mixed in
    let rows = rows_after_are limit (suc n) c (label_at t.labels c) r 0 a ks l pivot t.rows shaped in_n many refl s.1 wide hq (shaped_rows limit (suc n) t.rows g.rows) parts.1 in
    let objective = cleared_is limit (row_size t.objective) (row_size l) (suc n) c a ks pivot t.objective (leb-true _ limit parts.0) (sizes_bound (suc n) t.objective g.objective) in_n many s.1 wide hq in
    rw (labels, entries, first, rows, objective) refl

pivoted_whole : (bound n c r : ℕ) (w : IntegerTable) → IsWithin bound n w → r < length w.rows → int_lt (pos 0) (number_at (integer_row_at w.rows r).numbers c) ≡ true → IsWhole n (whole_pivoted c r w)
unfolding whole_pivoted
pivoted_whole bound n c r w g inside above =
    let before = integer_row_at_is bound (suc n) w.rows r g.rows inside in
    let l = cut (integer_row_at w.rows r) in
    let is_integer_row = cut_within bound (suc n) (integer_row_at w.rows r) before in
    let s = size_above (number_at l.numbers c) (cut_above (integer_row_at w.rows r) c before.positive above) in
    let a : ℕ = unsigned_abs (number_at l.numbers c) in
    let pivot = exchanged_in c l in
    let wide : length pivot ≡ suc n = length-set l.numbers c (pos l.denominator) ∙ is_integer_row.count in
    record {
      labels = length-set w.labels c (basic_of w.rows r) ∙ g.labels;
      rows = rows_shaped (suc n) c (label_at w.labels c) r a 0 pivot w.rows (shaped_rows bound (suc n) w.rows g.rows) s.1 wide;
      objective = cleared_shaped (suc n) c a pivot w.objective g.objective s.1 wide;
    }

-- the row of the least ratio is there, and its entry in column e is above 0
pub record Leaves (e r : ℕ) (rows : List WholeRow) : Type 0 where
  pub inside : r < length rows
  pub above : int_lt (pos 0) (number_at (integer_row_at rows r).numbers e) ≡ true

pub leaves : (e : ℕ) (rows : List WholeRow) (q : Ratio) (qs : List Ratio) → AllOf (IsCandidate e 0 rows) (q ∷ qs) → Leaves e (least q qs).place rows
leaves e rows q qs h =
    let c = least_has (IsCandidate e 0 rows) q qs h.0 h.1 in
    let is_row : c.row ≡ (least q qs).place = omega (arith, c.place) in
    record { inside = omega (arith, is_row, c.inside); above = subst (λ k. int_lt (pos 0) (number_at (integer_row_at rows k).numbers e) ≡ true) is_row c.above }

pub pivots_agree : PivotsAgree
unfolding pivoted whole_pivot pivot_fits
pivots_agree limit n e w g in_c fits =
    let all = ratios_are limit (suc n) (length w.labels) e 0 w.rows g.rows in
    rw all (step (whole_ratios (length w.labels) e 0 w.rows) (candidates (length w.labels) e 0 w.rows) fits)
  where
    step : (qs : List Ratio) → AllOf (IsCandidate e 0 w.rows) qs → leaving_fits limit e w.objective w.rows qs ≡ true → leave limit e (table_for w) (map lowered qs) ≡ as_pivot (whole_leave e w qs)
    step [] h mixes = refl
    step (q ∷ qs) h mixes =
        let over_0 : AllOf IsOver qs = all_of (IsCandidate e 0 w.rows) IsOver (λ c k. k.below) qs h.1 in
        let least_is = least_lowered q qs h.0.below over_0 in
        let l = leaves e w.rows q qs h in
        let next = pivoted_is limit n e (least q qs).place w mixes g in_c l.inside l.above in
        ap (λ (c : Ratio). moved_or_stopped (after_pivot limit e c.place (table_for w))) least_is ∙ ap moved_or_stopped next

-- where no row limits the column, no step is made
pub unlimited_fits : (limit e : ℕ) (w : IntegerTable) → whole_pivot e w ≡ None → pivot_fits limit e w ≡ true
unfolding whole_pivot pivot_fits
unlimited_fits limit e w h = step (whole_ratios (length w.labels) e 0 w.rows) h
  where
    step : (qs : List Ratio) → whole_leave e w qs ≡ None → leaving_fits limit e w.objective w.rows qs ≡ true
    step [] k = refl
    step (q ∷ qs) k = absurd cc

-- ---- steps within a limit are within a greater one
row_steps_more : (limit greater e r i : ℕ) (pivot l : IntegerRow) → limit ≤ greater → row_steps_within limit e r pivot i l ≡ true → row_steps_within greater e r pivot i l ≡ true
row_steps_more limit greater e r i pivot l more = step (nat_eq i r)
  where
    step : (b : Bool) → (if b then true else steps_within limit e pivot l) ≡ true → (if b then true else steps_within greater e pivot l) ≡ true
    step true h = refl
    step false h = le_more _ limit greater more h

pub rows_steps_more : (limit greater e r i : ℕ) (pivot : IntegerRow) (rows : List WholeRow) → limit ≤ greater → rows_steps_within limit e r pivot i rows ≡ true → rows_steps_within greater e r pivot i rows ≡ true
unfolding rows_steps_within
rows_steps_more limit greater e r i pivot [] more h = refl
rows_steps_more limit greater e r i pivot (row ∷ rows) more h =
    let parts = and_parts (row_steps_within limit e r pivot i row.line) (rows_steps_within limit e r pivot (i + 1) rows) h in
    and_from (row_steps_within greater e r pivot i row.line) (rows_steps_within greater e r pivot (i + 1) rows)
    (row_steps_more limit greater e r i pivot row.line more parts.0) (rows_steps_more limit greater e r (i + 1) pivot rows more parts.1)

pub pivot_more : (limit greater e : ℕ) (w : IntegerTable) → limit ≤ greater → pivot_fits limit e w ≡ true → pivot_fits greater e w ≡ true
unfolding pivot_fits
pivot_more limit greater e w more h = step (whole_ratios (length w.labels) e 0 w.rows) h
  where
    step : (qs : List Ratio) → leaving_fits limit e w.objective w.rows qs ≡ true → leaving_fits greater e w.objective w.rows qs ≡ true
    step [] k = refl
    step (q ∷ qs) k =
        let r = (least q qs).place in
        let pivot = cut (integer_row_at w.rows r) in
        let parts = and_parts (steps_within limit e pivot w.objective) (rows_steps_within limit e r pivot 0 w.rows) k in
        and_from (steps_within greater e pivot w.objective) (rows_steps_within greater e r pivot 0 w.rows)
        (le_more _ limit greater more parts.0) (rows_steps_more limit greater e r 0 pivot w.rows more parts.1)

pub turned_whole : (bound n e : ℕ) (w u : IntegerTable) → IsWithin bound n w → whole_pivot e w ≡ Some u → IsWhole n u
unfolding whole_pivot
turned_whole bound n e w u g h = step (whole_ratios (length w.labels) e 0 w.rows) (candidates (length w.labels) e 0 w.rows) h
  where
    step : (qs : List Ratio) → AllOf (IsCandidate e 0 w.rows) qs → whole_leave e w qs ≡ Some u → IsWhole n u
    step [] c h = absurd cc
    step (q ∷ qs) c h =
        let l = leaves e w.rows q qs c in
        let is_u : whole_pivoted e (least q qs).place w ≡ u = cc in
        subst (IsWhole n) is_u (pivoted_whole bound n e (least q qs).place w g l.inside l.above)
