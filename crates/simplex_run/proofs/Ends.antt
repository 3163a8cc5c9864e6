-- What holds at the end of a run: the table there, and what is read off.
use Rattle.std.proofs.Common.{◌≡◌, ℕ, zero, suc, ◌+◌, ◌<◌, List, [], ◌∷◌, length, arith, refl, sym, ◌∙◌, ap, subst, pos, Bool, true, false, nat_eq, inl, inr}
use Rattle.std.specs.Prelude.{Option, Some, None, if◌then◌else◌}
use Rattle.std.proofs.lemmas.List.{get_or_past}
use Rattle.std.proofs.Math.Decide.{ℕ_discrete}
use Rattle.std.proofs.lemmas.Bool.{cases_lt}
use Rattle.std.proofs.lemmas.Bool.Decides.{nat_tests}
use Rattle.exact_num.specs.declared.misfit.Wide.{Wide}
use Rattle.exact_num.specs.Fraction.{Fraction, IsLowest, whole}
use Rattle.exact_num.proofs.Values.{whole_is_lowest}
use Rattle.exact_num.proofs.Rationals.{value_zero, add_0, zero_add_Q, zero_mul_Q, one_mul_Q, one_not_zero}
use Rattle.exact_num.specs.Rationals.{Q, ◌+Q◌, ◌*Q◌, value, total, unit}
use Rattle.exact_num.proofs.Totals.{total-zero, total-front, unit-same, unit-other}
use Rattle.simplex_run.specs.Places.{at}
use Rattle.simplex_run.specs.Table.{Row, Table, entries_at, where_basic, basic_at}
use Rattle.simplex_run.specs.Choice.{Column, entering}
use Rattle.simplex_run.specs.Ending.{Ending, unbounded, wide_at, no_unit_left}
use Rattle.simplex_run.specs.Run.{Optimum, PivotEnd, moved, unlimited, stopped, pivoted, on_pivot, on_entering, run_from, read_off, direction}
use Rattle.simplex_run.specs.Tableau.{Tableau, IsFeasible}

-- ---- a property of tables that each pivot keeps, and what it makes of the end
pub run_keeps : (P : Table → Type 0) (E : Ending Optimum → Type 0) (limit n m : ℕ)
    → ((t u : Table) (c : Column) → P t → entering t ≡ Some c → pivoted limit c.place t ≡ moved u → P u)
    → ((t : Table) (spent : ℕ) → P t → entering t ≡ None → E (read_off n m t spent))
    → ((t : Table) (c : Column) (spent : ℕ) → P t → entering t ≡ Some c → pivoted limit c.place t ≡ unlimited → E (unbounded (direction n c t) spent))
    → ((spent : ℕ) (w : Wide) → E (wide_at spent w))
    → ((spent : ℕ) → E (no_unit_left spent))
    → (left spent : ℕ) (t : Table) → P t → E (run_from limit n m left spent t)
unfolding run_from
run_keeps P E limit n m kept ends rays stops outs zero spent t p = step (entering t) refl
  where
    step : (o : Option Column) → entering t ≡ o → E (on_entering o (read_off n m t spent) (λ c. no_unit_left spent))
    step None h = ends t spent p h
    step (Some c) h = outs spent
run_keeps P E limit n m kept ends rays stops outs (suc left) spent t p = step (entering t) refl (λ u q. run_keeps P E limit n m kept ends rays stops outs left (spent + 1) u q)
  where
    act : (c : Column) → entering t ≡ Some c → ((u : Table) → P u → E (run_from limit n m left (spent + 1) u)) → (w : PivotEnd) → pivoted limit c.place t ≡ w → E (on_pivot w (λ next. run_from limit n m left (spent + 1) next) (unbounded (direction n c t) (spent + 1)) (λ w. wide_at (spent + 1) w))
    act c h later (moved u) k = later u (kept t u c p h k)
    act c h later unlimited k = rays t c (spent + 1) p h k
    act c h later (stopped w) k = stops (spent + 1) w

    step : (o : Option Column) → entering t ≡ o → ((u : Table) → P u → E (run_from limit n m left (spent + 1) u)) → E (on_entering o (read_off n m t spent) (λ c. on_pivot (pivoted limit c.place t) (λ next. run_from limit n m left (spent + 1) next) (unbounded (direction n c t) (spent + 1)) (λ w. wide_at (spent + 1) w)))
    step None h later = ends t spent p h
    step (Some c) h later = act c h later (pivoted limit c.place t) refl

-- what holds of the items of a list and of 0
pub holds_at : (P : Fraction → Type 0) (xs : List Fraction) → P (whole (pos 0)) → ((j : ℕ) → j < length xs → P (at xs j)) → (j : ℕ) → P (at xs j)
holds_at P xs z h j = elim (cases_lt j (length xs)) [
  | inl p ↦ h j p
  | inr p ↦ subst P (sym (get_or_past xs j (whole (pos 0)) p)) z
]

-- ---- what is read off at a basic variable
pub where_basic_lowest : (f : Row → Fraction) (j : ℕ) (rows : List Row) → ((i : ℕ) → i < length rows → IsLowest (f (record { basic = basic_at rows i; entries = entries_at rows i }))) → IsLowest (where_basic f j rows)
unfolding where_basic
where_basic_lowest f j [] h = whole_is_lowest (pos 0)
where_basic_lowest f j (row ∷ rows) h = step (nat_eq row.basic j) (where_basic_lowest f j rows (λ i p. h (suc i) (omega (arith, p))))
  where
    step : (b : Bool) → IsLowest (where_basic f j rows) → IsLowest (if b then f row else where_basic f j rows)
    step true later = h 0 (omega arith)
    step false later = later

-- where the basic variables differ, it is the sum over the rows
pub where_basic_is : (f : Row → Fraction) (v : ℕ → Q) (j : ℕ) (rows : List Row)
    → ((i : ℕ) → i < length rows → value (f (record { basic = basic_at rows i; entries = entries_at rows i })) ≡ v i)
    → ((i k : ℕ) → i < length rows → k < length rows → basic_at rows i ≡ basic_at rows k → i ≡ k)
    → value (where_basic f j rows) ≡ total (length rows) (λ i. unit (basic_at rows i) j *Q v i)
unfolding where_basic total
where_basic_is f v j [] h apart = value_zero
where_basic_is f v j (row ∷ rows) h apart =
    step (nat_eq row.basic j) refl (where_basic_is f (λ i. v (suc i)) j rows (λ i p. h (suc i) (omega (arith, p))) (λ i k p q e. let s : suc i ≡ suc k = apart (suc i) (suc k) (omega (arith, p)) (omega (arith, q)) e in omega (arith, s)))
    ∙ sym (total-front (length rows) (λ i. unit (basic_at (row ∷ rows) i) j *Q v i))
  where
    rest : Q
    rest = total (length rows) (λ i. unit (basic_at rows i) j *Q v (suc i))

    step : (b : Bool) → nat_eq row.basic j ≡ b → value (where_basic f j rows) ≡ total (length rows) (λ i. unit (basic_at rows i) j *Q v (suc i)) → value (if b then f row else where_basic f j rows) ≡ unit row.basic j *Q v 0 +Q total (length rows) (λ i. unit (basic_at rows i) j *Q v (suc i))
    step true t later =
        let same : row.basic ≡ j = grind (arith, nat_tests) in
        h 0 (omega arith) ∙ sym (ap (λ w. w *Q v 0) (unit-same row.basic j same) ∙ one_mul_Q (v 0)) ∙ sym (add_0 _)
        ∙ ap (λ w. unit row.basic j *Q v 0 +Q w) (sym (total-zero (length rows) _ (λ i p. ap (λ w. w *Q v (suc i)) (unit-other (basic_at rows i) j (λ e. let s : 0 ≡ suc i = apart 0 (suc i) (omega arith) (omega (arith, p)) (same ∙ sym e) in omega (arith, s))) ∙ zero_mul_Q _)))
    step false t later =
        let ne : row.basic ≡ j → ⊥ = λ e. grind (arith, nat_tests) in
        later ∙ sym (zero_add_Q _) ∙ ap (λ w. w +Q total (length rows) (λ i. unit (basic_at rows i) j *Q v (suc i))) (sym (ap (λ w. w *Q v 0) (unit-other row.basic j ne) ∙ zero_mul_Q (v 0)))

-- the basic variables of a good table differ
pub apart_of_good : (m n : ℕ) (T : Tableau) → IsFeasible m n T → (i k : ℕ) → i < m → k < m → T.basic i ≡ T.basic k → i ≡ k
apart_of_good m n T g i k p q e =
    elim (ℕ_discrete i k) [
      | yes same ↦ same
      | no ne ↦ absurd (one_not_zero (sym (unit-same i i refl) ∙ sym (g.unit_columns i i p p) ∙ ap (λ w. T.entry i w) e ∙ g.unit_columns i k p q ∙ unit-other i k ne))
    ]
