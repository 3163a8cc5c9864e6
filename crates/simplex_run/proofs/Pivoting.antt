-- A pivot of a table that fits, as a pivot of its tableau over the rationals.
use Rattle.std.proofs.Common.{◌≡◌, ◌≢◌, ℕ, suc, ◌+◌, ◌<◌, List, [], ◌∷◌, length, set, inl, inr, arith, refl, sym, ◌∙◌, ap, subst, pos, Bool, true, false, nat_eq}
use Rattle.std.specs.Prelude.{Ok, if◌then◌else◌}
use Rattle.std.proofs.lemmas.Bool.{eqb-true, eqb-false, cases_lt}
use Rattle.std.proofs.lemmas.List.{length-set}
use Rattle.std.proofs.Math.Decide.{ℕ_discrete}
use Rattle.exact_num.specs.Fraction.{Fraction, IsLowest, whole}
use Rattle.exact_num.specs.Fits.{mul_of, sub_of, div_of, after}
use Rattle.exact_num.proofs.After.{after_value}
use Rattle.exact_num.proofs.Values.{whole_is_lowest}
use Rattle.exact_num.proofs.Rationals.{difference_step, product_step, quotient_step, value_zero, value_one, value_of_lowest, mul_inv, zero_mul_Q}
use Rattle.exact_num.specs.Rationals.{Q, ◌+Q◌, ◌*Q◌, neg_Q, inv_Q, value}
use Rattle.simplex_run.specs.Places.{at, fraction_zero}
use Rattle.simplex_run.specs.Table.{Row, Table, row_of, label_at, with_right, entries_at, basic_at, entry_for, own_entry, no_entry}
use Rattle.simplex_run.specs.Pivot.{less_product, divided, eliminated, row_after, rows_after, after_pivot}
use Rattle.simplex_run.specs.Tableau.{tableau_of, IsAfterPivot}
use Rattle.simplex_run.proofs.Listed.{by_first}
use Rattle.simplex_run.proofs.Columns.{find, entry_none, entry_where, label_other, label_own, right_label}
use Rattle.simplex_run.proofs.StepsOf.{told_steps}
use Rattle.simplex_run.proofs.Ends.{holds_at}
use Rattle.simplex_run.proofs.Pivot.{less_one, less_none}
use Rattle.simplex_run.proofs.Entries.{IsTable, no_row, own_same, own_other, labels_count, column_entry, Swapped, swapped_of, set_entry, set_lowest}

-- ---- the steps of a row that fit
less_step : (limit : ℕ) (f x p y : Fraction) → IsLowest f → IsLowest x → IsLowest p → less_product limit f x p ≡ Ok y → IsLowest y × (value y ≡ value x +Q neg_Q (value f *Q value p))
less_step limit f x p y lf lx lp h =
    let a = after_value (mul_of limit f p) (λ product. sub_of limit x product) y h in
    let m = product_step limit f p a.value lf lp a.first in
    let s = difference_step limit x a.value y lx m.0 a.rest in
    (s.0, s.1 ∙ ap (λ w. value x +Q neg_Q w) m.1)

-- what a row is after the pivot, of whatever is written out
record IsRowAfter (n : ℕ) (ks : List ℕ) (own : ℕ → Fraction) (ys : List Fraction) (z : ℕ → Q) : Type 0 where
  count : length ys ≡ n
  lowest : (j : ℕ) → IsLowest (at ys j)
  is_value : (j : ℕ) → value (entry_for own ks ys j) ≡ z j

divided_out : (limit c e v : ℕ) (ls ks : List ℕ) (es ys : List Fraction) → Swapped ls ks c e v → length es ≡ length ls → ((j : ℕ) → IsLowest (at es j)) → (at es c).numerator ≢ pos 0 → divided limit c ks es ≡ Ok ys
    → IsRowAfter (length ks) ks (own_entry e) ys (λ j. value (entry_for (own_entry v) ls es j) *Q inv_Q (value (at es c)))
unfolding divided
divided_out limit c e v ls ks es ys s wide low ne h =
    let a = at es c in
    let ne_Q : (value a).fraction.numerator ≢ pos 0 = λ z. ne (ap (λ (f : Fraction). f.numerator) (sym (value_of_lowest a (low c))) ∙ z) in
    let x : List Fraction = set es c (whole (pos 1)) in
    let in_c = s.swap.inside in
    let t = told_steps (λ k. div_of limit (at x k) a) ks ys h in
    let step : (k : ℕ) → k < length ks → IsLowest (at ys k) × (value (at ys k) ≡ value (at x k) *Q inv_Q (value a)) = λ k p. quotient_step limit (at x k) a (at ys k) (set_lowest es c (whole (pos 1)) (omega (arith, in_c, wide)) (whole_is_lowest (pos 1)) low k) (low c) ne (t.1 k p) in
    record {
      count = t.0;
      lowest = holds_at IsLowest ys (whole_is_lowest (pos 0)) (λ j p. (step j (omega (arith, p, t.0))).0);
      is_value = λ j. elim (find ks j) [
        | inl k ↦
            ap value (entry_where fraction_zero (own_entry e) ks ys j k.place s.distinct t.0 k.inside k.labelled) ∙ (step k.place k.inside).1
            ∙ ap (λ w. value w *Q inv_Q (value a)) (sym (set_entry ls ks c e v (own_entry v) es (whole (pos 1)) s wide (own_same v v refl) k.place k.inside) ∙ ap (entry_for (own_entry v) ls es) k.labelled)
        | inr none ↦ elim (ℕ_discrete e j) [
          | yes is_e ↦
              ap value (entry_none (own_entry e) ks ys j none ∙ own_same e j is_e) ∙ value_one ∙ sym (mul_inv (value a) ne_Q)
              ∙ ap (λ w. value w *Q inv_Q (value a)) (sym (entry_where fraction_zero (own_entry v) ls es j c s.swap.distinct wide s.swap.inside (s.swap.entering ∙ is_e)))
          | no apart ↦
              let before = s.none j none apart in
              ap value (entry_none (own_entry e) ks ys j none ∙ own_other e j apart) ∙ value_zero ∙ sym (zero_mul_Q _)
              ∙ ap (λ w. w *Q inv_Q (value a)) (sym (ap value (entry_none (own_entry v) ls es j before.1 ∙ own_other v j before.0) ∙ value_zero))
        ]
      ];
    }

cleared_out : (limit c e v : ℕ) (ls ks : List ℕ) (own : ℕ → Fraction) (pivot es ys : List Fraction) → Swapped ls ks c e v → length es ≡ length ls → length pivot ≡ length ks → ((j : ℕ) → IsLowest (at es j)) → ((j : ℕ) → IsLowest (at pivot j)) → own v ≡ fraction_zero → own e ≡ fraction_zero → eliminated limit c ks pivot es ≡ Ok ys
    → IsRowAfter (length ks) ks own ys (λ j. value (entry_for own ls es j) +Q neg_Q (value (at es c) *Q value (entry_for (own_entry e) ks pivot j)))
unfolding eliminated
cleared_out limit c e v ls ks own pivot es ys s wide long low low_p at_v at_e h =
    let f = at es c in
    let x : List Fraction = set es c fraction_zero in
    let P : ℕ → Fraction = entry_for (own_entry e) ks pivot in
    let in_c = s.swap.inside in
    let t = told_steps (λ k. less_product limit f (at x k) (at pivot k)) ks ys h in
    let step : (k : ℕ) → k < length ks → IsLowest (at ys k) × (value (at ys k) ≡ value (at x k) +Q neg_Q (value f *Q value (at pivot k))) = λ k p. less_step limit f (at x k) (at pivot k) (at ys k) (low c) (set_lowest es c fraction_zero (omega (arith, in_c, wide)) (whole_is_lowest (pos 0)) low k) (low_p k) (t.1 k p) in
    record {
      count = t.0;
      lowest = holds_at IsLowest ys (whole_is_lowest (pos 0)) (λ j p. (step j (omega (arith, p, t.0))).0);
      is_value = λ j. elim (find ks j) [
        | inl k ↦
            ap value (entry_where fraction_zero own ks ys j k.place s.distinct t.0 k.inside k.labelled) ∙ (step k.place k.inside).1
            ∙ ap (λ w. value w +Q neg_Q (value f *Q value (at pivot k.place))) (sym (set_entry ls ks c e v own es fraction_zero s wide at_v k.place k.inside) ∙ ap (entry_for own ls es) k.labelled)
            ∙ ap (λ w. value (entry_for own ls es j) +Q neg_Q (value f *Q value w)) (sym (entry_where fraction_zero (own_entry e) ks pivot j k.place s.distinct long k.inside k.labelled))
        | inr none ↦ elim (ℕ_discrete e j) [
          | yes is_e ↦
              ap value (entry_none own ks ys j none ∙ ap own (sym is_e) ∙ at_e) ∙ value_zero
              ∙ sym (less_one (value f) (value (P j)) (ap value (entry_none (own_entry e) ks pivot j none ∙ own_same e j is_e) ∙ value_one))
              ∙ ap (λ w. value w +Q neg_Q (value f *Q value (P j))) (sym (entry_where fraction_zero own ls es j c s.swap.distinct wide s.swap.inside (s.swap.entering ∙ is_e)))
          | no apart ↦
              let before = s.none j none apart in
              ap value (entry_none own ks ys j none ∙ sym (entry_none own ls es j before.1))
              ∙ sym (less_none (value (entry_for own ls es j)) (value f) (value (P j)) (ap value (entry_none (own_entry e) ks pivot j none ∙ own_other e j apart) ∙ value_zero))
        ]
      ];
    }

-- ---- the rows
row_after_out : (limit c e r : ℕ) (ks : List ℕ) (pivot : List Fraction) (i : ℕ) (row u : Row) → row_after limit c ks e r pivot i row ≡ Ok u → (i ≡ r → u ≡ row_of e pivot) × ((i ≡ r → ⊥) → (u.basic ≡ row.basic) × (eliminated limit c ks pivot row.entries ≡ Ok u.entries))
row_after_out limit c e r ks pivot i row u h = step (nat_eq i r) refl h
  where
    step : (b : Bool) → nat_eq i r ≡ b → (if b then Ok (row_of e pivot) else after (eliminated limit c ks pivot row.entries) (λ es. Ok (row_of row.basic es))) ≡ Ok u → (i ≡ r → u ≡ row_of e pivot) × ((i ≡ r → ⊥) → (u.basic ≡ row.basic) × (eliminated limit c ks pivot row.entries ≡ Ok u.entries))
    step true t k = (λ same. cc, λ ne. absurd (ne (eqb-true i r t)))
    step false t k =
        let a = after_value (eliminated limit c ks pivot row.entries) _ u k in
        let q : row_of row.basic a.value ≡ u = cc in
        (λ same. absurd (eqb-false i r t same), λ ne. (sym (ap (λ (w : Row). w.basic) q), a.first ∙ ap Ok (ap (λ (w : Row). w.entries) q)))

rows_after_out : (limit c e r : ℕ) (ks : List ℕ) (pivot : List Fraction) (i : ℕ) (rows us : List Row) → rows_after limit c ks e r pivot i rows ≡ Ok us
    → (length us ≡ length rows) × ((k : ℕ) → k < length rows → (i + k ≡ r → row_of (basic_at us k) (entries_at us k) ≡ row_of e pivot) × ((i + k ≡ r → ⊥) → (basic_at us k ≡ basic_at rows k) × (eliminated limit c ks pivot (entries_at rows k) ≡ Ok (entries_at us k))))
unfolding rows_after
rows_after_out limit c e r ks pivot i [] us h = let q : [] ≡ us = cc in (ap length (sym q), λ j p. absurd (omega (arith, p)))
rows_after_out limit c e r ks pivot i (row ∷ rows) us h =
    let a = after_value (row_after limit c ks e r pivot i row) _ us h in
    let b = after_value (rows_after limit c ks e r pivot (i + 1) rows) _ us a.rest in
    let q : a.value ∷ b.value ≡ us = cc in
    let rest = rows_after_out limit c e r ks pivot (i + 1) rows b.value b.first in
    let here = row_after_out limit c e r ks pivot i row a.value a.first in
    let first : i + 0 ≡ i = omega arith in
    let next : (k : ℕ) → i + 1 + k ≡ i + suc k = λ k. omega arith in
    subst (λ (zs : List Row). (length zs ≡ length (row ∷ rows)) × ((k : ℕ) → k < length (row ∷ rows) → (i + k ≡ r → row_of (basic_at zs k) (entries_at zs k) ≡ row_of e pivot) × ((i + k ≡ r → ⊥) → (basic_at zs k ≡ basic_at (row ∷ rows) k) × (eliminated limit c ks pivot (entries_at (row ∷ rows) k) ≡ Ok (entries_at zs k))))) q (
      ap suc rest.0,
      by_first (λ k. k < length (row ∷ rows) → (i + k ≡ r → row_of (basic_at (a.value ∷ b.value) k) (entries_at (a.value ∷ b.value) k) ≡ row_of e pivot) × ((i + k ≡ r → ⊥) → (basic_at (a.value ∷ b.value) k ≡ basic_at (row ∷ rows) k) × (eliminated limit c ks pivot (entries_at (row ∷ rows) k) ≡ Ok (entries_at (a.value ∷ b.value) k))))
          (λ p. (λ same. here.0 (sym first ∙ same), λ ne. here.1 (λ same. ne (first ∙ same))))
          (λ k p. let later = rest.1 k (omega (arith, p)) in (λ same. later.0 (next k ∙ same), λ ne. later.1 (λ same. ne (sym (next k) ∙ same)))),
    )

-- ---- the pivot
pivot_parts : (limit n m c r : ℕ) (t : Table) (pivot : List Fraction) (rows : List Row) (objective : List Fraction) → IsTable n m t → c < n → r < m → (at (entries_at t.rows r) c).numerator ≢ pos 0
    → divided limit c (with_right t.columns (set t.labels c (basic_at t.rows r))) (entries_at t.rows r) ≡ Ok pivot
    → rows_after limit c (with_right t.columns (set t.labels c (basic_at t.rows r))) (label_at t.labels c) r pivot 0 t.rows ≡ Ok rows
    → eliminated limit c (with_right t.columns (set t.labels c (basic_at t.rows r))) pivot t.objective ≡ Ok objective
    → IsTable n m (record { columns = t.columns; labels = set t.labels c (basic_at t.rows r); rows = rows; objective = objective })
    × IsAfterPivot m (n + m) (label_at t.labels c) r (tableau_of t) (tableau_of (record { columns = t.columns; labels = set t.labels c (basic_at t.rows r); rows = rows; objective = objective }))
pivot_parts limit n m c r t pivot rows objective g in_c in_r ne is_pivot are_rows is_objective =
    let e = label_at t.labels c in
    let v = basic_at t.rows r in
    let ls = with_right t.columns t.labels in
    let us = set t.labels c v in
    let ks = with_right t.columns us in
    let s = swapped_of n m c r t g in_c in_r in
    let long = labels_count n m t g in
    let many = s.count ∙ long in
    let in_labels : c < length t.labels = omega (arith, in_c, g.labels) in
    let p = divided_out limit c e v ls ks (entries_at t.rows r) pivot s (g.widths r in_r ∙ sym long) (g.lowest r) ne is_pivot in
    let q = rows_after_out limit c e r ks pivot 0 t.rows rows are_rows in
    let on : (k : ℕ) → 0 + k ≡ k = λ k. omega arith in
    let count : length rows ≡ m = q.0 ∙ g.count in
    let own_row = (q.1 r (omega (arith, in_r, g.count))).0 (on r) in
    let is_entries : entries_at rows r ≡ pivot = ap (λ (w : Row). w.entries) own_row in
    let own : basic_at rows r ≡ e = ap (λ (w : Row). w.basic) own_row in
    let at_pivot : (j : ℕ) → value (entry_for (own_entry (basic_at rows r)) ks (entries_at rows r) j) ≡ value (entry_for (own_entry e) ks pivot j) = λ j i. value (entry_for (own_entry (own i)) ks (is_entries i) j) in
    let at_e : (own : ℕ → Fraction) (es : List Fraction) → length es ≡ suc n → value (entry_for own ls es e) ≡ value (at es c) = λ own es w. ap value (column_entry n m c t own es g in_c w) in
    let other : (k : ℕ) → k < m → (k ≡ r → ⊥) → (basic_at rows k ≡ basic_at t.rows k) × IsRowAfter (length ks) ks (own_entry (basic_at t.rows k)) (entries_at rows k) (λ j. value (entry_for (own_entry (basic_at t.rows k)) ls (entries_at t.rows k) j) +Q neg_Q (value (at (entries_at t.rows k) c) *Q value (entry_for (own_entry e) ks pivot j))) = λ k l apart.
    let w = (q.1 k (omega (arith, l, g.count))).1 (λ x. apart (sym (on k) ∙ x)) in
    (w.0, cleared_out limit c e v ls ks (own_entry (basic_at t.rows k)) pivot (entries_at t.rows k) (entries_at rows k) s (g.widths k l ∙ sym long) p.count (g.lowest k) p.lowest (own_other (basic_at t.rows k) v (λ h. apart (g.basics_differ k r l in_r h))) (own_other (basic_at t.rows k) e (λ h. g.apart c k in_c l (sym h))) w.1) in
    let o = cleared_out limit c e v ls ks no_entry pivot t.objective objective s (g.width ∙ sym long) p.count g.lowest_price p.lowest refl refl is_objective in
    let basic : (P : ℕ → Type 0) (k : ℕ) → k < m → (k ≡ r → P e) → ((k ≡ r → ⊥) → P (basic_at t.rows k)) → P (basic_at rows k) = λ P k l here there. elim (ℕ_discrete k r) [
      | yes is_r ↦ subst P (sym (ap (basic_at rows) is_r ∙ own)) (here is_r)
      | no apart ↦ subst P (sym (other k l apart).0) (there apart)
    ] in
    let label : (P : ℕ → Type 0) (k : ℕ) → (k ≡ c → P v) → ((k ≡ c → ⊥) → P (label_at t.labels k)) → P (label_at us k) = λ P k here there. elim (ℕ_discrete k c) [
      | yes is_c ↦ subst P (sym (ap (label_at us) is_c ∙ label_own t.labels c v in_labels)) (here is_c)
      | no apart ↦ subst P (sym (label_other t.labels c v k apart)) (there apart)
    ] in
    let entries : (P : List Fraction → Type 0) (k : ℕ) → k < m → P pivot → ((k ≡ r → ⊥) → P (entries_at rows k)) → P (entries_at rows k) = λ P k l here there. elim (ℕ_discrete k r) [
      | yes is_r ↦ subst P (sym (ap (entries_at rows) is_r ∙ is_entries)) here
      | no apart ↦ there apart
    ] in
    let named : (k : ℕ) → k < n → label_at ks k ≡ label_at us k = λ k l. right_label t.columns us k (omega (arith, l, length-set t.labels c v, g.labels)) in (
      record {
        total = g.total;
        labels = length-set t.labels c v ∙ g.labels;
        count = count;
        columns_differ = λ k l a b h. s.distinct k l (omega (arith, a, many)) (omega (arith, b, many)) (named k a ∙ h ∙ sym (named l b));
        columns_inside = λ k a. label (λ w. w < n + m) k (λ h. g.basics_inside r in_r) (λ h. g.columns_inside k a);
        basics_differ = λ i k a b.
            basic (λ w. w ≡ basic_at rows k → i ≡ k) i a
            (λ i_r. basic (λ w. e ≡ w → i ≡ k) k b (λ k_r h. i_r ∙ sym k_r) (λ k_ne h. absurd (g.apart c k in_c b h)))
            (λ i_ne. basic (λ w. basic_at t.rows i ≡ w → i ≡ k) k b (λ k_r h. absurd (g.apart c i in_c a (sym h))) (λ k_ne h. g.basics_differ i k a b h));
        basics_inside = λ i a. basic (λ w. w < n + m) i a (λ h. g.columns_inside c in_c) (λ h. g.basics_inside i a);
        apart = λ k i a b.
            label (λ w. w ≡ basic_at rows i → ⊥) k
            (λ k_c. basic (λ w. v ≡ w → ⊥) i b (λ i_r h. g.apart c r in_c in_r (sym h)) (λ i_ne h. i_ne (sym (g.basics_differ r i in_r b h))))
            (λ k_ne. basic (λ w. label_at t.labels k ≡ w → ⊥) i b (λ i_r h. k_ne (g.columns_differ k c a in_c h)) (λ i_ne h. g.apart k i a b h));
        widths = λ i a. entries (λ es. length es ≡ suc n) i a (p.count ∙ many) (λ apart. (other i a apart).1.count ∙ many);
        width = o.count ∙ many;
        lowest = λ i j. elim (cases_lt i m) [
          | inl a ↦ entries (λ es. IsLowest (at es j)) i a (p.lowest j) (λ apart. (other i a apart).1.lowest j)
          | inr a ↦ subst (λ es. IsLowest (at es j)) (sym (no_row rows i (omega (arith, a, count)))) (whole_is_lowest (pos 0))
        ];
        lowest_price = o.lowest;
      },
      record {
        pivot = λ j l. at_pivot j ∙ p.is_value j ∙ ap (λ w. value (entry_for (own_entry v) ls (entries_at t.rows r) j) *Q inv_Q w) (sym (at_e (own_entry v) (entries_at t.rows r) (g.widths r in_r)));
        others = λ k j l apart l'.
            let w = other k l apart in
            let b = basic_at t.rows k in
            ap (λ x. value (entry_for (own_entry x) ks (entries_at rows k) j)) w.0 ∙ w.1.is_value j
            ∙ ap (λ x. value (entry_for (own_entry b) ls (entries_at t.rows k) j) +Q neg_Q (x *Q value (entry_for (own_entry e) ks pivot j))) (sym (at_e (own_entry b) (entries_at t.rows k) (g.widths k l)))
            ∙ ap (λ x. value (entry_for (own_entry b) ls (entries_at t.rows k) j) +Q neg_Q (value (entry_for (own_entry b) ls (entries_at t.rows k) e) *Q x)) (sym (at_pivot j));
        prices = λ j l.
            o.is_value j
            ∙ ap (λ x. value (entry_for no_entry ls t.objective j) +Q neg_Q (x *Q value (entry_for (own_entry e) ks pivot j))) (sym (at_e no_entry t.objective g.width))
            ∙ ap (λ x. value (entry_for no_entry ls t.objective j) +Q neg_Q (value (entry_for no_entry ls t.objective e) *Q x)) (sym (at_pivot j));
        enters = own;
        stays = λ k l apart. (other k l apart).0;
      },
    )

pub pivot_out : (limit n m c r : ℕ) (t u : Table) → IsTable n m t → c < n → r < m → (at (entries_at t.rows r) c).numerator ≢ pos 0 → after_pivot limit c r t ≡ Ok u → IsTable n m u × IsAfterPivot m (n + m) (label_at t.labels c) r (tableau_of t) (tableau_of u)
unfolding after_pivot
pivot_out limit n m c r t u g in_c in_r ne h =
    let ks = with_right t.columns (set t.labels c (basic_at t.rows r)) in
    let a = after_value (divided limit c ks (entries_at t.rows r)) _ u h in
    let b = after_value (rows_after limit c ks (label_at t.labels c) r a.value 0 t.rows) _ u a.rest in
    let o = after_value (eliminated limit c ks a.value t.objective) _ u b.rest in
    let is_u : record { columns = t.columns; labels = set t.labels c (basic_at t.rows r); rows = b.value; objective = o.value } ≡ u = cc in
    subst (λ (w : Table). IsTable n m w × IsAfterPivot m (n + m) (label_at t.labels c) r (tableau_of t) (tableau_of w)) is_u (pivot_parts limit n m c r t a.value b.value o.value g in_c in_r ne a.first b.first o.first)
