-- The entries of a table, by places and by variables.
use Rattle.std.proofs.Common.{◌≡◌, ℕ, zero, suc, ◌+◌, ◌<◌, ◌≤◌, List, [], ◌∷◌, length, set, ◌⊎◌, inl, inr, arith, refl, sym, ◌∙◌, ap, subst, pos, Bool, true, false, nat_eq}
use Rattle.std.specs.Prelude.{if◌then◌else◌}
use Rattle.std.proofs.lemmas.Bool.{cases_lt, eq-eqb, ne_eqb}
use Rattle.std.proofs.lemmas.List.{get_or-set_same, get_or-set_other, length-set}
use Rattle.std.proofs.Math.Decide.{ℕ_discrete}
use Rattle.exact_num.specs.Fraction.{Fraction, IsLowest, whole}
use Rattle.exact_num.proofs.Rationals.{value_zero, value_one}
use Rattle.exact_num.specs.Rationals.{value, IsNotBelow0}
use Rattle.exact_num.proofs.Totals.{unit-same, unit-other}
use Rattle.simplex_run.specs.Places.{at, fraction_zero}
use Rattle.simplex_run.specs.Table.{Row, Table, label_at, with_right, entries_at, basic_at, entry_for, own_entry, no_entry}
use Rattle.simplex_run.specs.Tableau.{tableau_of, IsFeasible}
use Rattle.simplex_run.proofs.Columns.{HasNone, Distinct, IsSwap, entry_none, entry_where, label_other, label_own, distinct_after, none_before, right_count, right_label, right_own, right_set}

-- n columns and m rows: each variable is either basic, in one row, or has one column; the fractions
-- are in lowest terms
pub record IsTable (n m : ℕ) (t : Table) : Type 0 where
  pub total : t.columns ≡ n + m
  pub labels : length t.labels ≡ n
  pub count : length t.rows ≡ m
  pub columns_differ : (k l : ℕ) → k < n → l < n → label_at t.labels k ≡ label_at t.labels l → k ≡ l
  pub columns_inside : (k : ℕ) → k < n → label_at t.labels k < n + m
  pub basics_differ : (i k : ℕ) → i < m → k < m → basic_at t.rows i ≡ basic_at t.rows k → i ≡ k
  pub basics_inside : (i : ℕ) → i < m → basic_at t.rows i < n + m
  pub apart : (k i : ℕ) → k < n → i < m → label_at t.labels k ≡ basic_at t.rows i → ⊥
  pub widths : (i : ℕ) → i < m → length (entries_at t.rows i) ≡ suc n
  pub width : length t.objective ≡ suc n
  pub lowest : (i j : ℕ) → IsLowest (at (entries_at t.rows i) j)
  pub lowest_price : (j : ℕ) → IsLowest (at t.objective j)

pub no_row : (rows : List Row) (k : ℕ) → length rows ≤ k → entries_at rows k ≡ []
no_row [] k h = refl
no_row (row ∷ rows) zero h = absurd (omega (arith, h))
no_row (row ∷ rows) (suc k) h = no_row rows k (omega (arith, h))

-- ---- the own entries of a row
pub own_same : (b j : ℕ) → b ≡ j → own_entry b j ≡ whole (pos 1)
own_same b j e = let t = eq-eqb b j e in ap (λ (x : Bool). if x then whole (pos 1) else fraction_zero) t

pub own_other : (b j : ℕ) → (b ≡ j → ⊥) → own_entry b j ≡ fraction_zero
own_other b j ne = let t = ne_eqb b j ne in ap (λ (x : Bool). if x then whole (pos 1) else fraction_zero) t

-- ---- the labels, with the right side
pub labels_count : (n m : ℕ) (t : Table) → IsTable n m t → length (with_right t.columns t.labels) ≡ suc n
labels_count n m t g = right_count t.columns t.labels ∙ ap suc g.labels

pub named : (n m k : ℕ) (t : Table) → IsTable n m t → k < n → label_at (with_right t.columns t.labels) k ≡ label_at t.labels k
named n m k t g p = right_label t.columns t.labels k (omega (arith, p, g.labels))

pub named_right : (n m : ℕ) (t : Table) → IsTable n m t → label_at (with_right t.columns t.labels) n ≡ n + m
named_right n m t g = ap (label_at (with_right t.columns t.labels)) (sym g.labels) ∙ right_own t.columns t.labels ∙ g.total

-- a place is that of a column, or of the right side
pub place_is : (n m k : ℕ) (t : Table) → IsTable n m t → k < length (with_right t.columns t.labels) → (k < n) ⊎ (k ≡ n)
place_is n m k t g p =
    elim (cases_lt k n) [
      | inl q ↦ inl q
      | inr q ↦ inr (omega (arith, p, q, labels_count n m t g))
    ]

pub right_distinct : (n m : ℕ) (t : Table) → IsTable n m t → Distinct (with_right t.columns t.labels)
right_distinct n m t g k l p q h =
    let apart : (k l : ℕ) → k < n → l ≡ n → label_at (with_right t.columns t.labels) k ≡ label_at (with_right t.columns t.labels) l → ⊥ = λ k l a b e.
    let low = g.columns_inside k a in
    let same : label_at t.labels k ≡ n + m = sym (named n m k t g a) ∙ e ∙ ap (label_at (with_right t.columns t.labels)) b ∙ named_right n m t g in
    omega (arith, low, same) in
    elim (place_is n m k t g p) [
      | inl a ↦ elim (place_is n m l t g q) [
        | inl b ↦ g.columns_differ k l a b (sym (named n m k t g a) ∙ h ∙ named n m l t g b)
        | inr b ↦ absurd (apart k l a b h)
      ]
      | inr a ↦ elim (place_is n m l t g q) [
        | inl b ↦ absurd (apart l k b a (sym h))
        | inr b ↦ a ∙ sym b
      ]
    ]

right_fresh : (n m r : ℕ) (t : Table) → IsTable n m t → r < m → HasNone (with_right t.columns t.labels) (basic_at t.rows r)
right_fresh n m r t g in_r k p h =
    let low = g.basics_inside r in_r in
    elim (place_is n m k t g p) [
      | inl a ↦ g.apart k r a in_r (sym (named n m k t g a) ∙ h)
      | inr a ↦
          let same : n + m ≡ basic_at t.rows r = sym (ap (label_at (with_right t.columns t.labels)) a ∙ named_right n m t g) ∙ h in
          omega (arith, low, same)
    ]

-- ---- the entries, by variables
pub entry_has : (P : Fraction → Type 0) (own : ℕ → Fraction) (ls : List ℕ) (xs : List Fraction) (j : ℕ) → P (own j) → ((k : ℕ) → P (at xs k)) → P (entry_for own ls xs j)
unfolding entry_for
entry_has P own [] xs j o h = o
entry_has P own (v ∷ vs) [] j o h = o
entry_has P own (v ∷ vs) (x ∷ xs) j o h = step (nat_eq v j) (entry_has P own vs xs j o (λ k. h (suc k)))
  where
    step : (b : Bool) → P (entry_for own vs xs j) → P (if b then x else entry_for own vs xs j)
    step true later = h 0
    step false later = later

pub column_entry : (n m k : ℕ) (t : Table) (own : ℕ → Fraction) (es : List Fraction) → IsTable n m t → k < n → length es ≡ suc n → entry_for own (with_right t.columns t.labels) es (label_at t.labels k) ≡ at es k
column_entry n m k t own es g in_k wide =
    let count = labels_count n m t g in
    entry_where fraction_zero own (with_right t.columns t.labels) es (label_at t.labels k) k (right_distinct n m t g) (wide ∙ sym count) (omega (arith, in_k, count)) (named n m k t g in_k)

pub right_entry : (n m : ℕ) (t : Table) (own : ℕ → Fraction) (es : List Fraction) → IsTable n m t → length es ≡ suc n → entry_for own (with_right t.columns t.labels) es (n + m) ≡ at es n
right_entry n m t own es g wide =
    let count = labels_count n m t g in
    entry_where fraction_zero own (with_right t.columns t.labels) es (n + m) n (right_distinct n m t g) (wide ∙ sym count) (omega (arith, count)) (named_right n m t g)

pub basic_entry : (n m i : ℕ) (t : Table) (own : ℕ → Fraction) (es : List Fraction) → IsTable n m t → i < m → entry_for own (with_right t.columns t.labels) es (basic_at t.rows i) ≡ own (basic_at t.rows i)
basic_entry n m i t own es g in_i = entry_none own (with_right t.columns t.labels) es (basic_at t.rows i) (right_fresh n m i t g in_i)

-- whose right sides are not below 0
pub is_feasible : (n m : ℕ) (t : Table) → IsTable n m t → ((i : ℕ) → i < m → IsNotBelow0 ((tableau_of t).entry i (n + m))) → IsFeasible m (n + m) (tableau_of t)
is_feasible n m t g right =
    record {
      unit_columns = λ i k p q.
          ap value (basic_entry n m k t (own_entry (basic_at t.rows i)) (entries_at t.rows i) g q)
          ∙ elim (ℕ_discrete i k) [
            | yes e ↦ ap value (own_same (basic_at t.rows i) (basic_at t.rows k) (ap (basic_at t.rows) e)) ∙ value_one ∙ sym (unit-same i k e)
            | no ne ↦ ap value (own_other (basic_at t.rows i) (basic_at t.rows k) (λ h. ne (g.basics_differ i k p q h))) ∙ value_zero ∙ sym (unit-other i k ne)
          ];
      priced = λ k q. ap value (basic_entry n m k t no_entry t.objective g q) ∙ value_zero;
      inside = g.basics_inside;
      right = right;
    }

-- ---- the columns before and after a pivot in column c, where e enters and v leaves
pub record Swapped (ls ks : List ℕ) (c e v : ℕ) : Type 0 where
  pub swap : IsSwap ls c e v
  pub count : length ks ≡ length ls
  pub distinct : Distinct ks
  pub own : label_at ks c ≡ v
  pub other : (k : ℕ) → (k ≡ c → ⊥) → label_at ks k ≡ label_at ls k
  pub none : (j : ℕ) → HasNone ks j → (e ≡ j → ⊥) → (v ≡ j → ⊥) × HasNone ls j

swapped_set : (ls : List ℕ) (c e v : ℕ) → IsSwap ls c e v → Swapped ls (set ls c v) c e v
swapped_set ls c e v s =
    record {
      swap = s;
      count = length-set ls c v;
      distinct = distinct_after ls c e v s;
      own = label_own ls c v s.inside;
      other = λ k ne. label_other ls c v k ne;
      none = λ j h ne. none_before ls c e v j s h ne;
    }

pub swapped_of : (n m c r : ℕ) (t : Table) → IsTable n m t → c < n → r < m → Swapped (with_right t.columns t.labels) (with_right t.columns (set t.labels c (basic_at t.rows r))) c (label_at t.labels c) (basic_at t.rows r)
swapped_of n m c r t g in_c in_r =
    let ls = with_right t.columns t.labels in
    let v = basic_at t.rows r in
    subst (λ ks. Swapped ls ks c (label_at t.labels c) v) (sym (right_set t.columns t.labels c v (omega (arith, in_c, g.labels))))
    (swapped_set ls c (label_at t.labels c) v
    (record {
      inside = omega (arith, in_c, labels_count n m t g);
      entering = named n m c t g in_c;
      distinct = right_distinct n m t g;
      fresh = right_fresh n m r t g in_r;
    }))

-- an entry that is set where the variable that leaves comes in: x there, as own says
pub set_entry : (ls ks : List ℕ) (c e v : ℕ) (own : ℕ → Fraction) (es : List Fraction) (x : Fraction) → Swapped ls ks c e v → length es ≡ length ls → own v ≡ x → (k : ℕ) → k < length ks → entry_for own ls es (label_at ks k) ≡ at (set es c x) k
set_entry ls ks c e v own es x s wide is_x k p =
    let in_c = s.swap.inside in
    elim (ℕ_discrete k c) [
      | yes is_c ↦
          ap (λ w. entry_for own ls es (label_at ks w)) is_c ∙ ap (entry_for own ls es) s.own ∙ entry_none own ls es v s.swap.fresh ∙ is_x
          ∙ sym (ap (at (set es c x)) is_c ∙ get_or-set_same es c x fraction_zero (omega (arith, in_c, wide)))
      | no ne ↦
          ap (entry_for own ls es) (s.other k ne) ∙ entry_where fraction_zero own ls es (label_at ls k) k s.swap.distinct wide (omega (arith, p, s.count)) refl
          ∙ sym (get_or-set_other es c k x fraction_zero ne)
    ]

pub set_lowest : (es : List Fraction) (c : ℕ) (x : Fraction) → c < length es → IsLowest x → ((j : ℕ) → IsLowest (at es j)) → (k : ℕ) → IsLowest (at (set es c x) k)
set_lowest es c x p lx h k =
    elim (ℕ_discrete k c) [
      | yes is_c ↦ subst IsLowest (sym (ap (at (set es c x)) is_c ∙ get_or-set_same es c x fraction_zero p)) lx
      | no ne ↦ subst IsLowest (sym (get_or-set_other es c k x fraction_zero ne)) (h k)
    ]
