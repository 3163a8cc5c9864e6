-- The entering column and the leaving row, as facts of the table.
use Rattle.std.proofs.Common.{◌≡◌, ℕ, suc, ◌+◌, ◌<◌, ◌≤◌, List, [], ◌∷◌, length, arith, refl, sym, ◌∙◌, ap, subst, ℤ, pos, ◌<ℤ◌, ◌≤ℤ◌, ◌*ℤ◌, Bool, true, false, ◌⊎◌, inl, inr}
use Rattle.std.specs.Prelude.{Result, Ok, Err, if◌then◌else◌, Option, Some, None, int_lt, nat_lt}
use Rattle.std.specs.declared.cmp.Ordering.{Ordering}
use Rattle.std.specs.declared.cmp.Ordering.TheVariants.{Less, Equal, Greater}
use Rattle.std.specs.Ordering.{int_cmp}
use Rattle.std.proofs.lemmas.Int.{ints, by_lt_z}
use Rattle.std.proofs.lemmas.Bool.Decides.{nat_tests}
use Rattle.arithmetic.proofs.Comparisons.{equal_int_cmp}
use Rattle.exact_num.specs.declared.misfit.Wide.{Wide}
use Rattle.exact_num.specs.Fraction.{Fraction, IsLowest, fraction_cmp}
use Rattle.exact_num.specs.Fits.{div_of, after}
use Rattle.exact_num.specs.Tests.{is_below_zero, is_above_zero}
use Rattle.exact_num.proofs.After.{after_value}
use Rattle.exact_num.proofs.Rationals.{quotient_step, at_most_refl, at_most_trans, at_most_value, at_most_antisymm, value_same, value_of_lowest, value_zero, not_below_value, zero_not_below}
use Rattle.exact_num.specs.Rationals.{Q, ◌*Q◌, inv_Q, value, IsAtMost, IsAbove0, IsBelow0, IsNotBelow0}
use Rattle.simplex_run.specs.Places.{at}
use Rattle.simplex_run.specs.Table.{Row, Table, label_at, with_right, entries_at, right_side, basic_at, entry_for, own_entry, no_entry}
use Rattle.simplex_run.specs.Choice.{Column, smaller, least_below, entering, Ratio, ratio_in, ratios, join_ratio, lesser, least, by_order}
use Rattle.simplex_run.specs.Pivot.{after_pivot}
use Rattle.simplex_run.specs.Run.{pivoted, moved, unlimited, moved_or_stopped, on_ratios, leave}
use Rattle.simplex_run.specs.Tableau.{ratio, IsAfterPivot, IsBlandPivot, tableau_of}
use Rattle.simplex_run.proofs.Listed.{by_first}
use Rattle.simplex_run.proofs.Columns.{find, entry_none}
use Rattle.simplex_run.proofs.Entries.{IsTable, place_is, named, named_right, column_entry, right_entry}
use Rattle.simplex_run.proofs.Pivoting.{pivot_out}

-- ---- the entering column
test_below : (z : ℤ) → int_lt z (pos 0) ≡ true → z <ℤ pos 0
test_below z h = grind (arith, ints)

test_above : (z : ℤ) → int_lt (pos 0) z ≡ true → pos 0 <ℤ z
test_above z h = grind (arith, ints)

above_test : (z : ℤ) → pos 0 <ℤ z → int_lt (pos 0) z ≡ true
above_test z h = grind (arith, ints)

below_test : (z : ℤ) → z <ℤ pos 0 → int_lt z (pos 0) ≡ true
below_test z h = grind (arith, ints)

-- of the columns from place k on
record IsLeast (k : ℕ) (vs : List ℕ) (xs : List Fraction) (c : Column) : Type 0 where
  row : ℕ
  place : c.place ≡ k + row
  inside : row < length vs
  labelled : c.label ≡ label_at vs row
  below : is_below_zero (at xs row) ≡ true
  least : (j : ℕ) → j < length vs → is_below_zero (at xs j) ≡ true → c.label ≤ label_at vs j

abbrev NoneBelow : List ℕ → List Fraction → Type 0
NoneBelow vs xs = (j : ℕ) → j < length vs → is_below_zero (at xs j) ≡ false

abbrev Found : ℕ → List ℕ → List Fraction → Option Column → Type 0
Found k vs xs None = NoneBelow vs xs
Found k vs xs (Some c) = IsLeast k vs xs c

both : (b : Bool) → b ≡ true → b ≡ false → ⊥
both b h k = cc

found : (k : ℕ) (vs : List ℕ) (xs : List Fraction) → Found k vs xs (least_below k vs xs)
unfolding least_below
found k [] xs = λ j p. absurd (omega (arith, p))
found k (v ∷ vs) [] = λ j p. refl
found k (v ∷ vs) (x ∷ xs) = step (is_below_zero x) refl (least_below (k + 1) vs xs) (found (k + 1) vs xs)
  where
    here : Column
    here = record { place = k; label = v }

    first : is_below_zero x ≡ true → ((j : ℕ) → j < length vs → is_below_zero (at xs j) ≡ true → v ≤ label_at vs j) → IsLeast k (v ∷ vs) (x ∷ xs) (record { place = k; label = v })
    first t later =
        record {
          row = 0;
          place = omega arith;
          inside = omega arith;
          labelled = refl;
          below = t;
          least = by_first (λ j. j < length (v ∷ vs) → is_below_zero (at (x ∷ xs) j) ≡ true → v ≤ label_at (v ∷ vs) j) (λ p h. omega arith) (λ j p h. later j (omega (arith, p)) h);
        }

    shifted : (c : Column) → IsLeast (k + 1) vs xs c → (is_below_zero x ≡ true → c.label ≤ v) → IsLeast k (v ∷ vs) (x ∷ xs) c
    shifted c l low =
        record {
          row = suc l.row;
          place = l.place ∙ omega arith;
          inside = (let p = l.inside in omega (arith, p));
          labelled = l.labelled;
          below = l.below;
          least = by_first (λ j. j < length (v ∷ vs) → is_below_zero (at (x ∷ xs) j) ≡ true → c.label ≤ label_at (v ∷ vs) j) (λ p h. low h) (λ j p h. l.least j (omega (arith, p)) h);
        }

    choose : is_below_zero x ≡ true → (c : Column) → IsLeast (k + 1) vs xs c → (b : Bool) → nat_lt c.label v ≡ b → IsLeast k (v ∷ vs) (x ∷ xs) (if b then c else record { place = k; label = v })
    choose t c l true q = let less : c.label < v = grind (arith, nat_tests) in shifted c l (λ h. omega (arith, less))
    choose t c l false q = let more : v ≤ c.label = grind (arith, nat_tests) in first t (λ j p h. let up = l.least j p h in omega (arith, up, more))

    step : (b : Bool) → is_below_zero x ≡ b → (o : Option Column) → Found (k + 1) vs xs o → Found k (v ∷ vs) (x ∷ xs) (if b then Some (smaller (record { place = k; label = v }) o) else o)
    step true t None f = first t (λ j p h. absurd (both (is_below_zero (at xs j)) h (f j p)))
    step true t (Some c) f = choose t c f (nat_lt c.label v) refl
    step false t None f = by_first (λ j. j < length (v ∷ vs) → is_below_zero (at (x ∷ xs) j) ≡ false) (λ p. t) (λ j p. f j (omega (arith, p)))
    step false t (Some c) f = shifted c f (λ h. absurd (both (is_below_zero x) h t))

-- ---- the ratios
-- q is one of the ratios
abbrev pub Has : Ratio → List Ratio → Type 0
Has q [] = ⊥
Has q (a ∷ others) = (q ≡ a) ⊎ Has q others

-- q is the ratio of a row of these, the first of which is row i
pub record IsRatio (columns e i : ℕ) (rows : List Row) (q : Ratio) : Type 0 where
  pub row : ℕ
  pub place : q.place ≡ i + row
  pub inside : row < length rows
  pub basic : q.basic ≡ basic_at rows row
  pub above : pos 0 <ℤ (at (entries_at rows row) e).numerator
  pub lowest : IsLowest q.value
  pub is_value : value q.value ≡ value (at (entries_at rows row) columns) *Q inv_Q (value (at (entries_at rows row) e))

-- the ratios are just those of the rows with an entry above 0
pub record AreRatios (columns e i : ℕ) (rows : List Row) (qs : List Ratio) : Type 0 where
  pub each_is : (q : Ratio) → Has q qs → IsRatio columns e i rows q
  pub each_has : (k : ℕ) → k < length rows → pos 0 <ℤ (at (entries_at rows k) e).numerator → (q : Ratio) × Has q qs × (q.place ≡ i + k) × (q.basic ≡ basic_at rows k) × IsLowest q.value × (value q.value ≡ value (at (entries_at rows k) columns) *Q inv_Q (value (at (entries_at rows k) e)))

ratio_out : (limit columns e : ℕ) (entries : List Fraction) (o : Option Fraction) → ((j : ℕ) → IsLowest (at entries j)) → ratio_in limit columns e entries ≡ Ok o
    → (((pos 0 <ℤ (at entries e).numerator) → ⊥) × (o ≡ None)) ⊎ ((q : Fraction) × (o ≡ Some q) × (pos 0 <ℤ (at entries e).numerator) × IsLowest q × (value q ≡ value (at entries columns) *Q inv_Q (value (at entries e))))
unfolding ratio_in
ratio_out limit columns e entries o low h = step (is_above_zero (at entries e)) refl h
  where
    step : (b : Bool) → is_above_zero (at entries e) ≡ b → (if b then after (div_of limit (right_side columns entries) (at entries e)) (λ q. Ok (Some q)) else Ok None) ≡ Ok o
        → (((pos 0 <ℤ (at entries e).numerator) → ⊥) × (o ≡ None)) ⊎ ((q : Fraction) × (o ≡ Some q) × (pos 0 <ℤ (at entries e).numerator) × IsLowest q × (value q ≡ value (at entries columns) *Q inv_Q (value (at entries e))))
    step true t k =
        let above : pos 0 <ℤ (at entries e).numerator = test_above _ t in
        let a = after_value (div_of limit (right_side columns entries) (at entries e)) (λ q. Ok (Some q)) o k in
        let s = quotient_step limit (at entries columns) (at entries e) a.value (low columns) (low e) (λ z. omega (arith, ints, above, z)) a.first in
        let is_o : Some a.value ≡ o = cc in
        inr (a.value, sym is_o, above, s.0, s.1)
    step false t k = inl (λ above. let t' = above_test _ above in cc, cc)

pub ratios_out : (limit columns e i : ℕ) (rows : List Row) (qs : List Ratio) → ((k j : ℕ) → IsLowest (at (entries_at rows k) j)) → ratios limit columns e i rows ≡ Ok qs → AreRatios columns e i rows qs
unfolding ratios
ratios_out limit columns e i [] qs low h =
    let q : [] ≡ qs = cc in
    subst (λ w. AreRatios columns e i [] w) q (record { each_is = λ q h. absurd h; each_has = λ k p. absurd (omega (arith, p)) })
ratios_out limit columns e i (row ∷ rows) qs low h =
    let a = after_value (ratio_in limit columns e row.entries) _ qs h in
    let b = after_value (ratios limit columns e (i + 1) rows) _ qs a.rest in
    let is_qs : join_ratio i row.basic a.value b.value ≡ qs = cc in
    let later = ratios_out limit columns e (i + 1) rows b.value (λ k j. low (suc k) j) b.first in
    subst (λ w. AreRatios columns e i (row ∷ rows) w) is_qs (join a.value b.value later (ratio_out limit columns e row.entries a.value (low 0) a.first))
  where
    shift : (q : Ratio) → IsRatio columns e (i + 1) rows q → IsRatio columns e i (row ∷ rows) q
    shift q r = record { row = suc r.row; place = r.place ∙ omega arith; inside = omega (arith, r.inside); basic = r.basic; above = r.above; lowest = r.lowest; is_value = r.is_value }

    join : (o : Option Fraction) (rs : List Ratio) → AreRatios columns e (i + 1) rows rs
        → (((pos 0 <ℤ (at row.entries e).numerator) → ⊥) × (o ≡ None)) ⊎ ((q : Fraction) × (o ≡ Some q) × (pos 0 <ℤ (at row.entries e).numerator) × IsLowest q × (value q ≡ value (at row.entries columns) *Q inv_Q (value (at row.entries e))))
        → AreRatios columns e i (row ∷ rows) (join_ratio i row.basic o rs)
    join o rs later (inl w) =
        subst (λ o. AreRatios columns e i (row ∷ rows) (join_ratio i row.basic o rs)) (sym w.1)
        (record {
          each_is = λ q h. shift q (later.each_is q h);
          each_has = by_first _ (λ p above. absurd (w.0 above)) (λ k p above. let r = later.each_has k (omega (arith, p)) above in (r.0, r.1, r.2 ∙ omega arith, r.3, r.4, r.5));
        })
    join o rs later (inr w) =
        let first : Ratio = record { place = i; basic = row.basic; value = w.0 } in
        subst (λ o. AreRatios columns e i (row ∷ rows) (join_ratio i row.basic o rs)) (sym w.1)
        (record {
          each_is = λ q h. elim h [
            | inl is_first ↦ subst (λ q. IsRatio columns e i (row ∷ rows) q) (sym is_first) (record { row = 0; place = omega arith; inside = omega arith; basic = refl; above = w.2; lowest = w.3; is_value = w.4 })
            | inr others ↦ shift q (later.each_is q others)
          ];
          each_has = by_first _ (λ p above. (first, inl refl, omega arith, refl, w.3, w.4)) (λ k p above. let r = later.each_has k (omega (arith, p)) above in (r.0, inr r.1, r.2 ∙ omega arith, r.3, r.4, r.5));
        })

-- ---- the least of the ratios
-- a comes before q: by the value, and of equal ones by the basic variable
abbrev pub Before : Ratio → Ratio → Type 0
Before a q = IsAtMost (value a.value) (value q.value) × (value a.value ≡ value q.value → a.basic ≤ q.basic)

before_refl : (a : Ratio) → Before a a
before_refl a = (at_most_refl (value a.value), λ e. omega arith)

before_trans : (a b c : Ratio) → Before a b → Before b c → Before a c
before_trans a b c p q = (
  at_most_trans (value a.value) (value b.value) (value c.value) p.0 q.0,
  λ e.
      let back : IsAtMost (value b.value) (value a.value) = subst (λ w. IsAtMost (value b.value) w) (sym e) q.0 in
      let same : value a.value ≡ value b.value = at_most_antisymm (value a.value) (value b.value) p.0 back in
      let first : a.basic ≤ b.basic = p.1 same in
      let second : b.basic ≤ c.basic = q.1 (sym same ∙ e) in
      omega arith,
)

cmp_less : (a b : ℤ) → int_cmp a b ≡ Less → a <ℤ b
cmp_less a b h = grind (arith, ints)

cmp_greater : (a b : ℤ) → int_cmp a b ≡ Greater → b <ℤ a
cmp_greater a b h = grind (arith, ints)

less_at_most : (a b : ℤ) → a <ℤ b → a ≤ℤ b
less_at_most a b h = omega (arith, ints, h)

less_apart : (a b : ℤ) → a <ℤ b → a ≡ b → ⊥
less_apart a b h e = omega (arith, ints, h, e)

same_at_most : (a b : ℤ) → a ≡ b → a ≤ℤ b
same_at_most a b h = omega (arith, ints, h)

lesser_out : (a b : Ratio) → IsLowest a.value → IsLowest b.value → ((lesser a b ≡ a) ⊎ (lesser a b ≡ b)) × Before (lesser a b) a × Before (lesser a b) b
lesser_out a b p q = step (fraction_cmp a.value b.value) refl
  where
    left : ℤ
    left = a.value.numerator *ℤ pos b.value.denominator

    right : ℤ
    right = b.value.numerator *ℤ pos a.value.denominator

    Goal : Ratio → Type 0
    Goal c = ((c ≡ a) ⊎ (c ≡ b)) × Before c a × Before c b

    choose : (t : Bool) → nat_lt a.basic b.basic ≡ t → a.value.numerator *ℤ pos b.value.denominator ≡ b.value.numerator *ℤ pos a.value.denominator
        → ((if t then a else b ≡ a) ⊎ (if t then a else b ≡ b)) × Before (if t then a else b) a × Before (if t then a else b) b
    choose true t e =
        (inl refl, before_refl a, (at_most_value a.value b.value p.positive q.positive (same_at_most _ _ e), λ w. let l : a.basic < b.basic = grind (arith, nat_tests) in omega arith))
    choose false t e =
        (inr refl, (at_most_value b.value a.value q.positive p.positive (same_at_most _ _ (sym e)), λ w. let l : b.basic ≤ a.basic = grind (arith, nat_tests) in l), before_refl b)

    step : (o : Ordering) → fraction_cmp a.value b.value ≡ o → ((by_order o a (if nat_lt a.basic b.basic then a else b) b ≡ a) ⊎ (by_order o a (if nat_lt a.basic b.basic then a else b) b ≡ b)) × Before (by_order o a (if nat_lt a.basic b.basic then a else b) b) a × Before (by_order o a (if nat_lt a.basic b.basic then a else b) b) b
    step Less h =
        let l = cmp_less _ _ h in
        (inl refl, before_refl a, (at_most_value a.value b.value p.positive q.positive (less_at_most _ _ l), λ w. absurd (less_apart _ _ l (value_same a.value b.value p.positive q.positive w))))
    step Equal h = choose (nat_lt a.basic b.basic) refl (equal_int_cmp _ _ h)
    step Greater h =
        let l = cmp_greater _ _ h in
        (inr refl, (at_most_value b.value a.value q.positive p.positive (less_at_most _ _ l), λ w. absurd (less_apart _ _ l (value_same b.value a.value q.positive p.positive w))), before_refl b)

pub least_out : (a : Ratio) (qs : List Ratio) → IsLowest a.value → ((q : Ratio) → Has q qs → IsLowest q.value) → Has (least a qs) (a ∷ qs) × ((q : Ratio) → Has q (a ∷ qs) → Before (least a qs) q)
unfolding least
least_out a [] p h = (inl refl, λ q w. elim w [ inl e ↦ subst (λ c. Before a c) (sym e) (before_refl a) | inr e ↦ absurd e ])
least_out a (b ∷ qs) p h =
    let o = lesser_out a b p (h b (inl refl)) in
    let low : IsLowest (lesser a b).value = elim o.0 [ inl e ↦ subst (λ (c : Ratio). IsLowest c.value) (sym e) p | inr e ↦ subst (λ (c : Ratio). IsLowest c.value) (sym e) (h b (inl refl)) ] in
    let r = least_out (lesser a b) qs low (λ q w. h q (inr w)) in
    let of_two : Before (least (lesser a b) qs) (lesser a b) = r.1 (lesser a b) (inl refl) in (
      elim r.0 [
        | inl e ↦ elim o.0 [ inl f ↦ inl (e ∙ f) | inr f ↦ inr (inl (e ∙ f)) ]
        | inr w ↦ inr (inr w)
      ],
      λ q w. elim w [
        | inl e ↦ subst (λ c. Before (least (lesser a b) qs) c) (sym e) (before_trans (least (lesser a b) qs) (lesser a b) a of_two o.1)
        | inr v ↦ elim v [
          | inl e ↦ subst (λ c. Before (least (lesser a b) qs) c) (sym e) (before_trans (least (lesser a b) qs) (lesser a b) b of_two o.2)
          | inr u ↦ r.1 q (inr u)
        ]
      ],
    )

-- the row that leaves is there, and its entry in column e is above 0
pub least_limits : (limit columns e : ℕ) (rows : List Row) (q : Ratio) (qs : List Ratio) → ((k j : ℕ) → IsLowest (at (entries_at rows k) j)) → ratios limit columns e 0 rows ≡ Ok (q ∷ qs)
    → ((least q qs).place < length rows) × (pos 0 <ℤ (at (entries_at rows (least q qs).place) e).numerator)
least_limits limit columns e rows q qs low h =
    let a = ratios_out limit columns e 0 rows (q ∷ qs) low h in
    let lows : (c : Ratio) → Has c (q ∷ qs) → IsLowest c.value = λ c w. (a.each_is c w).lowest in
    let best = a.each_is (least q qs) (least_out q qs (lows q (inl refl)) (λ c w. lows c (inr w))).0 in
    let is_row : (least q qs).place ≡ best.row = best.place ∙ omega arith in
    (omega (arith, is_row, best.inside), subst (λ r. pos 0 <ℤ (at (entries_at rows r) e).numerator) (sym is_row) best.above)

-- ---- what a pivot says
pub moved_out : (limit c : ℕ) (t u : Table) → pivoted limit c t ≡ moved u → (q : Ratio) × (qs : List Ratio) × (ratios limit (length t.labels) c 0 t.rows ≡ Ok (q ∷ qs)) × (after_pivot limit c (least q qs).place t ≡ Ok u)
unfolding pivoted
moved_out limit c t u h = step (ratios limit (length t.labels) c 0 t.rows) refl h
  where
    moved_ok : (r : Result Table Wide) → moved_or_stopped r ≡ moved u → r ≡ Ok u
    moved_ok (Ok next) k = cc
    moved_ok (Err w) k = cc

    step : (r : Result (List Ratio) Wide) → ratios limit (length t.labels) c 0 t.rows ≡ r → on_ratios r (λ qs. leave limit c t qs) ≡ moved u → (q : Ratio) × (qs : List Ratio) × (ratios limit (length t.labels) c 0 t.rows ≡ Ok (q ∷ qs)) × (after_pivot limit c (least q qs).place t ≡ Ok u)
    step (Ok []) f k = cc
    step (Ok (q ∷ qs)) f k = (q, qs, f, moved_ok _ k)
    step (Err w) f k = cc

pub unlimited_out : (limit c : ℕ) (t : Table) → pivoted limit c t ≡ unlimited → ratios limit (length t.labels) c 0 t.rows ≡ Ok []
unfolding pivoted
unlimited_out limit c t h = step (ratios limit (length t.labels) c 0 t.rows) refl h
  where
    not_ray : (r : Result Table Wide) → moved_or_stopped r ≡ unlimited → ⊥
    not_ray (Ok next) k = cc
    not_ray (Err w) k = cc

    step : (r : Result (List Ratio) Wide) → ratios limit (length t.labels) c 0 t.rows ≡ r → on_ratios r (λ qs. leave limit c t qs) ≡ unlimited → ratios limit (length t.labels) c 0 t.rows ≡ Ok []
    step (Ok []) f k = f
    step (Ok (q ∷ qs)) f k = absurd (not_ray _ k)
    step (Err w) f k = cc

-- ---- the entering column of a table
pub above_value : (x : Fraction) → IsLowest x → pos 0 <ℤ x.numerator → IsAbove0 (value x)
above_value x p h = subst (λ (f : Fraction). pos 0 <ℤ f.numerator) (sym (value_of_lowest x p)) h

pub value_above : (x : Fraction) → IsLowest x → IsAbove0 (value x) → pos 0 <ℤ x.numerator
value_above x p h = subst (λ (f : Fraction). pos 0 <ℤ f.numerator) (value_of_lowest x p) h

below_value : (x : Fraction) → IsLowest x → x.numerator <ℤ pos 0 → IsBelow0 (value x)
below_value x p h = subst (λ (f : Fraction). f.numerator <ℤ pos 0) (sym (value_of_lowest x p)) h

-- the column that enters is that of the smallest variable whose objective entry is below 0
pub record Enters (n : ℕ) (t : Table) (c : Column) : Type 0 where
  pub inside : c.place < n
  pub labelled : c.label ≡ label_at t.labels c.place
  pub below : (at t.objective c.place).numerator <ℤ pos 0
  pub least : (k : ℕ) → k < n → (at t.objective k).numerator <ℤ pos 0 → c.label ≤ label_at t.labels k

pub entering_out : (n m : ℕ) (t : Table) (c : Column) → IsTable n m t → entering t ≡ Some c → Enters n t c
unfolding entering
entering_out n m t c g h = step (least_below 0 t.labels t.objective) (found 0 t.labels t.objective) h
  where
    step : (o : Option Column) → Found 0 t.labels t.objective o → o ≡ Some c → Enters n t c
    step None f q = cc
    step (Some x) f q =
        let same : x ≡ c = cc in
        let is_row : f.row ≡ x.place = omega (arith, f.place) in
        let in_row = f.inside in
        subst (Enters n t) same (record {
          inside = omega (arith, is_row, in_row, g.labels);
          labelled = f.labelled ∙ ap (label_at t.labels) is_row;
          below = test_below _ (ap (λ k. is_below_zero (at t.objective k)) (sym is_row) ∙ f.below);
          least = λ k p below. f.least k (omega (arith, p, g.labels)) (below_test _ below);
        })

pub entering_none : (n m : ℕ) (t : Table) → IsTable n m t → entering t ≡ None → (k : ℕ) → k < n → (at t.objective k).numerator <ℤ pos 0 → ⊥
unfolding entering
entering_none n m t g h k p below = step (least_below 0 t.labels t.objective) (found 0 t.labels t.objective) h
  where
    step : (o : Option Column) → Found 0 t.labels t.objective o → o ≡ None → ⊥
    step None f q = both (is_below_zero (at t.objective k)) (below_test _ below) (f k (omega (arith, p, g.labels)))
    step (Some x) f q = cc

pub label_inside : (n m : ℕ) (t : Table) (c : Column) → IsTable n m t → Enters n t c → c.label < n + m
label_inside n m t c g e = subst (λ w. w < n + m) (sym e.labelled) (g.columns_inside c.place e.inside)

pub entry_entering : (n m : ℕ) (t : Table) (c : Column) (own : ℕ → Fraction) (es : List Fraction) → IsTable n m t → Enters n t c → length es ≡ suc n → value (entry_for own (with_right t.columns t.labels) es c.label) ≡ value (at es c.place)
entry_entering n m t c own es g e wide = ap (λ j. value (entry_for own (with_right t.columns t.labels) es j)) e.labelled ∙ ap value (column_entry n m c.place t own es g e.inside wide)

pub price_entering : (n m : ℕ) (t : Table) (c : Column) → IsTable n m t → Enters n t c → IsBelow0 ((tableau_of t).price c.label)
price_entering n m t c g e = subst IsBelow0 (sym (entry_entering n m t c no_entry t.objective g e g.width)) (below_value _ (g.lowest_price c.place) e.below)

-- ---- the choice of a pivot
-- the sign of a price, where no column of that variable has an entry below 0
pub price_sign : (n m : ℕ) (t : Table) → IsTable n m t → (j : ℕ) → j < n + m → ((k : ℕ) → k < n → label_at t.labels k ≡ j → (at t.objective k).numerator <ℤ pos 0 → ⊥) → IsNotBelow0 ((tableau_of t).price j)
price_sign n m t g j low h =
    elim (find (with_right t.columns t.labels) j) [
      | inl k ↦ elim (place_is n m k.place t g k.inside) [
        | inl in_k ↦
            let is_j : label_at t.labels k.place ≡ j = sym (named n m k.place t g in_k) ∙ k.labelled in
            subst IsNotBelow0 (sym (ap (tableau_of t).price (sym is_j) ∙ ap value (column_entry n m k.place t no_entry t.objective g in_k g.width)))
            (not_below_value (at t.objective k.place) (g.lowest_price k.place).positive (by_lt_z (at t.objective k.place).numerator (pos 0) (λ below. absurd (h k.place in_k is_j below)) (λ up. up)))
        | inr is_n ↦
            let same : n + m ≡ j = sym (ap (label_at (with_right t.columns t.labels)) is_n ∙ named_right n m t g) ∙ k.labelled in
            absurd (omega (arith, same, low))
      ]
      | inr none ↦ subst IsNotBelow0 (sym (ap value (entry_none no_entry (with_right t.columns t.labels) t.objective j none) ∙ value_zero)) zero_not_below
    ]

-- a pivot that fits is one by Bland's rule
pub bland_pivot : (limit n m : ℕ) (t u : Table) (c : Column) (q : Ratio) (qs : List Ratio) → IsTable n m t → entering t ≡ Some c → ratios limit (length t.labels) c.place 0 t.rows ≡ Ok (q ∷ qs) → after_pivot limit c.place (least q qs).place t ≡ Ok u
    → IsTable n m u × IsBlandPivot m (n + m) c.label (least q qs).place (tableau_of t) (tableau_of u)
bland_pivot limit n m t u c q qs g enters is_ratios is_u =
    let T = tableau_of t in
    let e = entering_out n m t c g enters in
    let h = c.place in
    let a = ratios_out limit (length t.labels) h 0 t.rows (q ∷ qs) g.lowest is_ratios in
    let lows : (x : Ratio) → Has x (q ∷ qs) → IsLowest x.value = λ x w. (a.each_is x w).lowest in
    let l = least_out q qs (lows q (inl refl)) (λ x w. lows x (inr w)) in
    let best = a.each_is (least q qs) l.0 in
    let r = (least q qs).place in
    let is_row : r ≡ best.row = best.place ∙ omega arith in
    let best_in = best.inside in
    let in_r : r < m = omega (arith, is_row, best_in, g.count) in
    let in_c = e.inside in
    let E : ℕ → Q = λ i. value (at (entries_at t.rows i) h) in
    let B : ℕ → Q = λ i. value (at (entries_at t.rows i) n) in
    let at_e : (i : ℕ) → i < m → T.entry i c.label ≡ E i = λ i p. entry_entering n m t c (own_entry (basic_at t.rows i)) (entries_at t.rows i) g e (g.widths i p) in
    let at_n : (i : ℕ) → i < m → T.entry i (n + m) ≡ B i = λ i p. ap value (right_entry n m t (own_entry (basic_at t.rows i)) (entries_at t.rows i) g (g.widths i p)) in
    let is_ratio : (i : ℕ) → i < m → ratio T (n + m) c.label i ≡ B i *Q inv_Q (E i) = λ i p k. at_n i p k *Q inv_Q (at_e i p k) in
    let above : IsAbove0 (E r) = above_value _ (g.lowest r h) (subst (λ w. pos 0 <ℤ (at (entries_at t.rows w) h).numerator) (sym is_row) best.above) in
    let value_r : value (least q qs).value ≡ B r *Q inv_Q (E r) = best.is_value ∙ ap (λ w. value (at (entries_at t.rows best.row) w) *Q inv_Q (E best.row)) g.labels ∙ ap (λ w. B w *Q inv_Q (E w)) (sym is_row) in
    let other : (i : ℕ) → i < m → IsAbove0 (T.entry i c.label) → (x : Ratio) × Has x (q ∷ qs) × (x.basic ≡ basic_at t.rows i) × (value x.value ≡ B i *Q inv_Q (E i)) = λ i p up.
    let w = a.each_has i (omega (arith, p, g.count)) (value_above _ (g.lowest i h) (subst IsAbove0 (at_e i p) up)) in
    (w.0, w.1, w.3, w.5 ∙ ap (λ k. value (at (entries_at t.rows i) k) *Q inv_Q (E i)) g.labels) in
    let is_inside = label_inside n m t c g e in
    let o = pivot_out limit n m h r t u g in_c in_r (λ z. let up = value_above _ (g.lowest r h) above in omega (arith, ints, z, up)) is_u in (
      o.0,
      record {
        choice = record {
          row = in_r;
          column = is_inside;
          above = subst IsAbove0 (sym (at_e r in_r)) above;
          below = price_entering n m t c g e;
          least = λ i p up.
              let w = other i p up in
              subst (λ x. IsAtMost x (ratio T (n + m) c.label i)) (value_r ∙ sym (is_ratio r in_r)) (subst (IsAtMost (value (least q qs).value)) (w.3 ∙ sym (is_ratio i p)) (l.1 w.0 w.1).0);
        };
        pivoted = subst (λ w. IsAfterPivot m (n + m) w r T (tableau_of u)) (sym e.labelled) o.1;
        first = λ j l. price_sign n m t g j (omega (arith, l, is_inside)) (λ k in_k is_j below. let up = e.least k in_k below in omega (arith, up, is_j, l));
        ties = λ i p up same.
            let w = other i p up in
            let equal : value (least q qs).value ≡ value w.0.value = value_r ∙ sym (is_ratio r in_r) ∙ same ∙ is_ratio i p ∙ sym w.3 in
            subst (λ x. x ≤ basic_at t.rows i) (best.basic ∙ ap (basic_at t.rows) (sym is_row)) (subst (λ x. (least q qs).basic ≤ x) w.2 ((l.1 w.0 w.1).1 equal));
      },
    )

-- no row limits the column
pub unlimited_is : (limit n m c : ℕ) (t : Table) → IsTable n m t → ratios limit (length t.labels) c 0 t.rows ≡ Ok [] → (i : ℕ) → i < m → IsAbove0 (value (at (entries_at t.rows i) c)) → ⊥
unlimited_is limit n m c t g h i p above =
    let a = ratios_out limit (length t.labels) c 0 t.rows [] g.lowest h in
    (a.each_has i (omega (arith, p, g.count)) (value_above _ (g.lowest i c) above)).1
