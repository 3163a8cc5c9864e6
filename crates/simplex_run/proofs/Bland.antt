-- Bland's rule: no pivots by it lead back to the same basic variables.
use Rattle.std.proofs.Common.{◌≡◌, ℕ, zero, suc, ◌<◌, ◌≤◌, arith, refl, sym, ◌∙◌, ap, subst, ℤ, pos, ◌<ℤ◌, ◌≤ℤ◌, neg_ℤ, ◌⊎◌, inl, inr}
use Rattle.std.proofs.Math.Decide.{ℕ_discrete}
use Rattle.std.proofs.lemmas.Bool.{cases_lt}
use Rattle.std.proofs.lemmas.Int.{ints, by_lt_z}
use Rattle.simplex_run.specs.Tableau.{ratio, IsBlandPivot, Tableau, IsFeasible, HaveSameSolutions, row_at}
use Rattle.exact_num.proofs.Rationals.{zero_add_Q, mul_0, zero_mul_Q, mul_1, one_mul_Q, add_comm, neg_add, neg_0, neg_neg, mul_neg, neg_mul, mul_assoc_Q, mul_comm_Q, mul_inv, add_cancel, add_not_below, mul_not_below, inv_not_below, neg_not_below, above_is_not_zero, zero_has, zero_not_below, at_most_of_sum, at_most_refl, at_most_trans, at_most_antisymm, not_below_out, neg_Q_is, itself_is}
use Rattle.exact_num.specs.Rationals.{Q, ◌+Q◌, ◌*Q◌, neg_Q, inv_Q, 0Q, 1Q, IsNotBelow0, IsAbove0, IsAtMost, total, unit, spread}
use Rattle.exact_num.proofs.Totals.{total-ext, total-zero, total-neg, total-unit, unit-same, unit-other, spread-other}
use Rattle.simplex_run.proofs.Pivot.{point, row_at-point, point_solves, point_earns, tied_refl, tied_trans, tied_after, less_none}
use Rattle.simplex_run.proofs.Ends.{apart_of_good}

-- j is a basic variable
abbrev pub IsIn : ℕ → Tableau → ℕ → Type 0
IsIn m T j = (i : ℕ) × (i < m) × (T.basic i ≡ j)

pub record HaveSame (m : ℕ) (T U : Tableau) : Type 0 where
  pub there : (j : ℕ) → IsIn m T j → IsIn m U j
  pub back : (j : ℕ) → IsIn m U j → IsIn m T j

-- ---- what is above 0
above_of : (x : Q) → (IsNotBelow0 (neg_Q x) → ⊥) → IsAbove0 x
above_of x h = by_lt_z (pos 0) x.fraction.numerator (λ p. p) (λ p. absurd (h (neg_not_below x p)))

turned_sign : (z : ℤ) → pos 0 <ℤ z → pos 0 ≤ℤ neg_ℤ z → ⊥
turned_sign z h k = omega (arith, ints, h, k)

above_not : (x : Q) → IsAbove0 x → IsNotBelow0 (neg_Q x) → ⊥
above_not x h k = turned_sign x.fraction.numerator h (not_below_out (neg_Q x) _ _ (neg_Q_is x _ _ (itself_is x)) k)

below_not : (z : ℤ) → z <ℤ pos 0 → pos 0 ≤ℤ z → ⊥
below_not z h k = omega (arith, ints, h, k)

below_at_most : (z : ℤ) → z <ℤ pos 0 → z ≤ℤ pos 0
below_at_most z h = omega (arith, ints, h)

above_at_least : (z : ℤ) → pos 0 <ℤ z → pos 0 ≤ℤ z
above_at_least z h = omega (arith, ints, h)

below_not_zero : (z : ℤ) → z <ℤ pos 0 → z ≡ pos 0 → ⊥
below_not_zero z h e = omega (arith, ints, h, e)

-- a sum above 0 has a term above 0
pub total_above : (m : ℕ) (f : ℕ → Q) → IsAbove0 (total m f) → (i : ℕ) × (i < m) × IsAbove0 (f i)
unfolding total
total_above zero f h = absurd (above_not 0Q h (subst IsNotBelow0 (sym neg_0) zero_not_below))
total_above (suc m) f h =
    by_lt_z (pos 0) (f m).fraction.numerator (λ p. (m, omega arith, p))
    (λ p.
    let front : IsAbove0 (total m f) = above_of (total m f) (λ k. above_not (total m f +Q f m) h (subst IsNotBelow0 (sym (neg_add (total m f) (f m))) (add_not_below _ _ k (neg_not_below (f m) p)))) in
    let r = total_above m f front in
    (r.0, omega (arith, r.1), r.2))

-- a factor that is not 0 goes away
none_of_product : (x y : Q) → (x.fraction.numerator ≡ pos 0 → ⊥) → x *Q y ≡ 0Q → y ≡ 0Q
none_of_product x y ne h = sym (one_mul_Q y) ∙ ap (λ w. w *Q y) (sym (mul_inv x ne) ∙ mul_comm_Q x (inv_Q x)) ∙ mul_assoc_Q _ _ _ ∙ ap (λ w. inv_Q x *Q w) h ∙ mul_0 _

-- ---- what the tables of a run have in common
pub tied_sym : (m n : ℕ) (T U : Tableau) → HaveSameSolutions m n T U → HaveSameSolutions m n U T
tied_sym m n T U h = record { forth = h.back; back = h.forth; same = λ z s. sym (h.same z (h.back z s)) }

-- the prices depend on the set of basic variables alone
price_same : (m n : ℕ) (T U : Tableau) → IsFeasible m n T → IsFeasible m n U → HaveSameSolutions m n T U → HaveSame m T U → (j : ℕ) → j ≤ n → T.price j ≡ U.price j
price_same m n T U g h tied same j low =
    let z : ℕ → Q = point m U j 1Q in
    let none : total m (λ i. T.price (U.basic i) *Q neg_Q (U.entry i j *Q 1Q)) ≡ 0Q =
    total-zero m _ (λ i p. let w = same.back (U.basic i) (i, p, refl) in ap (λ v. v *Q neg_Q (U.entry i j *Q 1Q)) (ap T.price (sym w.2) ∙ g.priced w.0 w.1) ∙ zero_mul_Q _) in
    sym (mul_1 _) ∙ sym (zero_add_Q _) ∙ ap (λ w. w +Q T.price j *Q 1Q) (sym none)
    ∙ sym (row_at-point m n U j 1Q T.price h low)
    ∙ tied.same z (tied.back z (point_solves m n U j 1Q h low))
    ∙ point_earns m n U j 1Q h low ∙ mul_1 _

-- ---- the value never falls, and where it stays the right side of the pivot's row is 0
gain : (m n e r : ℕ) (T U : Tableau) → IsBlandPivot m n e r T U → Q
gain m n e r T U b = neg_Q (T.price e) *Q U.entry r n

gain_is : (m n e r : ℕ) (T U : Tableau) (b : IsBlandPivot m n e r T U) → T.price n +Q gain m n e r T U b ≡ U.price n
unfolding gain
gain_is m n e r T U b = ap (λ w. T.price n +Q w) (neg_mul _ _) ∙ sym (b.pivoted.prices n (omega arith))

value_up : (m n e r : ℕ) (T U : Tableau) → IsFeasible m n U → IsBlandPivot m n e r T U → IsAtMost (T.price n) (U.price n)
unfolding gain
value_up m n e r T U h b =
    at_most_of_sum (T.price n) (gain m n e r T U b) (U.price n) (gain_is m n e r T U b)
    (mul_not_below _ _ (neg_not_below (T.price e) (below_at_most _ b.choice.below)) (h.right r b.choice.row))

degenerate : (m n e r : ℕ) (T U : Tableau) (b : IsBlandPivot m n e r T U) → T.price n ≡ U.price n → U.entry r n ≡ 0Q
unfolding gain
degenerate m n e r T U b same =
    let none : gain m n e r T U b ≡ 0Q = add_cancel (gain m n e r T U b) 0Q (T.price n) (add_comm _ _ ∙ gain_is m n e r T U b ∙ sym same ∙ sym (zero_add_Q _)) in
    let product : T.price e *Q U.entry r n ≡ 0Q = sym (neg_neg _) ∙ ap neg_Q (sym (neg_mul _ _) ∙ none) ∙ neg_0 in
    none_of_product (T.price e) (U.entry r n) (below_not_zero _ b.choice.below) product

degenerate_before : (m n e r : ℕ) (T U : Tableau) (b : IsBlandPivot m n e r T U) → U.entry r n ≡ 0Q → T.entry r n ≡ 0Q
degenerate_before m n e r T U b none =
    let pe = T.entry r e in
    sym (mul_1 _) ∙ ap (λ w. T.entry r n *Q w) (sym (mul_inv pe (above_is_not_zero pe b.choice.above)) ∙ mul_comm_Q pe (inv_Q pe)) ∙ sym (mul_assoc_Q _ _ _) ∙ ap (λ w. w *Q pe) (sym (b.pivoted.pivot n (omega arith)) ∙ none) ∙ zero_mul_Q pe

-- ---- the basic solution
pub solution : ℕ → ℕ → Tableau → ℕ → Q
solution m n T j = spread m T.basic (λ i. T.entry i n) j

solution_stays : (m n e r : ℕ) (T U : Tableau) → IsBlandPivot m n e r T U → T.price n ≡ U.price n → (j : ℕ) → solution m n T j ≡ solution m n U j
unfolding solution spread
solution_stays m n e r T U b same j =
    let none : U.entry r n ≡ 0Q = degenerate m n e r T U b same in
    let before : T.entry r n ≡ 0Q = degenerate_before m n e r T U b none in
    total-ext m _ _ (λ i p. elim (ℕ_discrete i r) [
      | yes is_r ↦
          ap (λ w. unit (T.basic i) j *Q w) (ap (λ w. T.entry w n) is_r ∙ before) ∙ mul_0 _
          ∙ sym (ap (λ w. unit (U.basic i) j *Q w) (ap (λ w. U.entry w n) is_r ∙ none) ∙ mul_0 _)
      | no ne ↦
          ap (λ w. unit w j *Q T.entry i n) (sym (b.pivoted.stays i p ne))
          ∙ ap (λ w. unit (U.basic i) j *Q w) (sym (b.pivoted.others i n p ne (omega arith) ∙ less_none _ _ _ none))
    ])

solution_outside : (m n : ℕ) (T : Tableau) (j : ℕ) → (IsIn m T j → ⊥) → solution m n T j ≡ 0Q
unfolding solution
solution_outside m n T j h = spread-other m T.basic _ j (λ i p e. h (i, p, e))

solution_inside : (m n : ℕ) (T : Tableau) → IsFeasible m n T → (i : ℕ) → i < m → solution m n T (T.basic i) ≡ T.entry i n
unfolding solution spread
solution_inside m n T g i p =
    total-ext m _ (λ k. T.entry k n *Q unit i k) (λ k q. elim (ℕ_discrete i k) [
      | yes same ↦ ap (λ w. w *Q T.entry k n) (unit-same (T.basic k) (T.basic i) (ap T.basic (sym same)) ∙ sym (unit-same i k same)) ∙ mul_comm_Q _ _
      | no ne ↦ ap (λ w. w *Q T.entry k n) (unit-other (T.basic k) (T.basic i) (λ w. ne (sym (apart_of_good m n T g k i q p w))) ∙ sym (unit-other i k ne)) ∙ mul_comm_Q _ _
    ])
    ∙ total-unit m i (λ k. T.entry k n) p

-- ---- what enters and what leaves
in_or_not : (m : ℕ) (T : Tableau) (j : ℕ) → IsIn m T j ⊎ (IsIn m T j → ⊥)
in_or_not zero T j = inr (λ w. absurd (omega (arith, w.1)))
in_or_not (suc m) T j =
    elim (ℕ_discrete (T.basic m) j) [
      | yes e ↦ inl (m, omega arith, e)
      | no ne ↦ elim (in_or_not m T j) [
        | inl w ↦ inl (w.0, omega (arith, w.1), w.2)
        | inr none ↦ inr (λ w. elim (ℕ_discrete w.0 m) [
          | yes last ↦ ne (ap T.basic (sym last) ∙ w.2)
          | no other ↦ none (w.0, omega (arith, w.1, other), w.2)
        ])
      ]
    ]

enters_is : (m n e r : ℕ) (T U : Tableau) (b : IsBlandPivot m n e r T U) (j : ℕ) → (IsIn m T j → ⊥) → IsIn m U j → j ≡ e
enters_is m n e r T U b j out w =
    elim (ℕ_discrete w.0 r) [
      | yes is_r ↦ sym w.2 ∙ ap U.basic is_r ∙ b.pivoted.enters
      | no ne ↦ absurd (out (w.0, w.1, sym (b.pivoted.stays w.0 w.1 ne) ∙ w.2))
    ]

leaves_is : (m n e r : ℕ) (T U : Tableau) (b : IsBlandPivot m n e r T U) (j : ℕ) → IsIn m T j → (IsIn m U j → ⊥) → T.basic r ≡ j
leaves_is m n e r T U b j w out =
    elim (ℕ_discrete w.0 r) [
      | yes is_r ↦ ap T.basic (sym is_r) ∙ w.2
      | no ne ↦ absurd (out (w.0, w.1, b.pivoted.stays w.0 w.1 ne ∙ w.2))
    ]

entering_is_out : (m n e r : ℕ) (T U : Tableau) → IsFeasible m n T → (b : IsBlandPivot m n e r T U) → IsIn m T e → ⊥
entering_is_out m n e r T U g b w = below_not_zero _ b.choice.below (zero_has (T.price e) (ap T.price (sym w.2) ∙ g.priced w.0 w.1))

entered_is_in : (m n e r : ℕ) (T U : Tableau) (b : IsBlandPivot m n e r T U) → IsIn m U e
entered_is_in m n e r T U b = (r, b.choice.row, b.pivoted.enters)

-- ---- pivots one after another
pub record Pivots (m n L : ℕ) (T : ℕ → Tableau) : Type 0 where
  pub e : ℕ → ℕ
  pub r : ℕ → ℕ
  pub good : (k : ℕ) → k ≤ L → IsFeasible m n (T k)
  pub step : (k : ℕ) → k < L → IsBlandPivot m n (e k) (r k) (T k) (T (suc k))

tied_from : (m n L : ℕ) (T : ℕ → Tableau) → Pivots m n L T → (k : ℕ) → k ≤ L → HaveSameSolutions m n (T 0) (T k)
tied_from m n L T t zero low = tied_refl m n (T 0)
tied_from m n L T t (suc k) low =
    let b = t.step k low in
    tied_trans m n (T 0) (T k) (T (suc k)) (tied_from m n L T t k (omega (arith, low))) (tied_after m n (t.e k) (t.r k) (T k) (T (suc k)) b.choice b.pivoted)

tied_between : (m n L : ℕ) (T : ℕ → Tableau) → Pivots m n L T → (i j : ℕ) → i ≤ L → j ≤ L → HaveSameSolutions m n (T i) (T j)
tied_between m n L T t i j p q = tied_trans m n (T i) (T 0) (T j) (tied_sym m n (T 0) (T i) (tied_from m n L T t i p)) (tied_from m n L T t j q)

values_up : (m n L : ℕ) (T : ℕ → Tableau) → Pivots m n L T → (i j : ℕ) → i ≤ j → j ≤ L → IsAtMost ((T i).price n) ((T j).price n)
values_up m n L T t i zero low high = let e : 0 ≡ i = omega (arith, low) in subst (λ w. IsAtMost ((T w).price n) ((T 0).price n)) e (at_most_refl _)
values_up m n L T t i (suc j) low high =
    elim (ℕ_discrete i (suc j)) [
      | yes e ↦ subst (λ w. IsAtMost ((T w).price n) ((T (suc j)).price n)) (sym e) (at_most_refl _)
      | no ne ↦ at_most_trans ((T i).price n) ((T j).price n) ((T (suc j)).price n) (values_up m n L T t i j (omega (arith, low, ne)) (omega (arith, high))) (value_up m n (t.e j) (t.r j) (T j) (T (suc j)) (t.good (suc j) high) (t.step j high))
    ]

-- where the pivots lead back, the value stays
constant : (m n L : ℕ) (T : ℕ → Tableau) → Pivots m n L T → HaveSame m (T 0) (T L) → (k : ℕ) → k < L → (T k).price n ≡ (T (suc k)).price n
constant m n L T t same k low =
    let ends : (T 0).price n ≡ (T L).price n = price_same m n (T 0) (T L) (t.good 0 (omega arith)) (t.good L (omega arith)) (tied_from m n L T t L (omega arith)) same n (omega arith) in
    at_most_antisymm _ _ (values_up m n L T t k (suc k) (omega arith) low)
    (at_most_trans _ ((T L).price n) _ (values_up m n L T t (suc k) L low (omega arith)) (subst (λ w. IsAtMost w ((T k).price n)) ends (values_up m n L T t 0 k (omega arith) (omega (arith, low)))))

solution_same : (m n L : ℕ) (T : ℕ → Tableau) → Pivots m n L T → HaveSame m (T 0) (T L) → (k : ℕ) → k ≤ L → (j : ℕ) → solution m n (T 0) j ≡ solution m n (T k) j
solution_same m n L T t same zero low j = refl
solution_same m n L T t same (suc k) low j = solution_same m n L T t same k (omega (arith, low)) j ∙ solution_stays m n (t.e k) (t.r k) (T k) (T (suc k)) (t.step k low) (constant m n L T t same k low) j

-- a property that is lost is lost at some step
lost : (P : ℕ → Type 0) → ((k : ℕ) → P k ⊎ (P k → ⊥)) → (a b : ℕ) → a ≤ b → P a → (P b → ⊥) → (k : ℕ) × (a ≤ k) × (k < b) × P k × (P (suc k) → ⊥)
lost P test a zero low here gone = let e : a ≡ 0 = omega (arith, low) in absurd (gone (subst P e here))
lost P test a (suc b) low here gone =
    elim (ℕ_discrete a (suc b)) [
      | yes e ↦ absurd (gone (subst P e here))
      | no ne ↦ elim (test b) [
        | inl there ↦ (b, omega (arith, low, ne), omega arith, there, gone)
        | inr none ↦ let r = lost P test a b (omega (arith, low, ne)) here none in (r.0, r.1, omega (arith, r.2), r.3, r.4)
      ]
    ]

not_twice : {A : Type 0} → A ⊎ (A → ⊥) → ((A → ⊥) → ⊥) → A
not_twice (inl a) h = a
not_twice (inr none) h = absurd (h none)

turned_test : {A : Type 0} → A ⊎ (A → ⊥) → (A → ⊥) ⊎ ((A → ⊥) → ⊥)
turned_test (inl a) = inr (λ none. none a)
turned_test (inr none) = inl none

largest : (f : ℕ → ℕ) (L : ℕ) → 0 < L → (k : ℕ) × (k < L) × ((i : ℕ) → i < L → f i ≤ f k)
largest f zero h = absurd (omega (arith, h))
largest f (suc L) h =
    elim (ℕ_discrete L 0) [
      | yes e ↦ (0, omega arith, λ i p. let z : i ≡ 0 = omega (arith, p, e) in subst (λ w. f w ≤ f 0) (sym z) (omega arith))
      | no ne ↦
          let r = largest f L (omega (arith, ne)) in
          elim (cases_lt (f r.0) (f L)) [
            | inl p ↦ (
              L,
              omega arith,
              λ i q. elim (ℕ_discrete i L) [
                | yes same ↦ subst (λ w. f w ≤ f L) (sym same) (omega arith)
                | no other ↦ let before : f i ≤ f r.0 = r.2 i (omega (arith, q, other)) in omega (arith, before, p)
              ],
            )
            | inr p ↦ (
              r.0,
              omega (arith, r.1),
              λ i q. elim (ℕ_discrete i L) [
                | yes same ↦ subst (λ w. f w ≤ f r.0) (sym same) p
                | no other ↦ r.2 i (omega (arith, q, other))
              ],
            )
          ]
    ]

-- what comes in between two tables enters at some pivot
comes_in : (m n L : ℕ) (T : ℕ → Tableau) (t : Pivots m n L T) (j a b : ℕ) → a ≤ b → b ≤ L → (IsIn m (T a) j → ⊥) → IsIn m (T b) j → (k : ℕ) × (k < L) × (j ≡ t.e k)
comes_in m n L T t j a b low high out here =
    let r = lost (λ k. IsIn m (T k) j → ⊥) (λ k. turned_test (in_or_not m (T k) j)) a b low out (λ none. none here) in
    let p : r.0 < L = omega (arith, r.2, high) in
    (r.0, p, enters_is m n (t.e r.0) (t.r r.0) (T r.0) (T (suc r.0)) (t.step r.0 p) j r.3 (not_twice (in_or_not m (T (suc r.0)) j) r.4))

goes_out : (m n L : ℕ) (T : ℕ → Tableau) (t : Pivots m n L T) (j a b : ℕ) → a ≤ b → b ≤ L → IsIn m (T a) j → (IsIn m (T b) j → ⊥) → (k : ℕ) × (k < L) × IsIn m (T k) j × ((T k).basic (t.r k) ≡ j)
goes_out m n L T t j a b low high here out =
    let r = lost (λ k. IsIn m (T k) j) (λ k. in_or_not m (T k) j) a b low here out in
    let p : r.0 < L = omega (arith, r.2, high) in
    (r.0, p, r.3, leaves_is m n (t.e r.0) (t.r r.0) (T r.0) (T (suc r.0)) (t.step r.0 p) j r.3 r.4)

-- where the pivots lead back, what is in at one table and out at another enters at some pivot
fickle_enters : (m n L : ℕ) (T : ℕ → Tableau) (t : Pivots m n L T) → HaveSame m (T 0) (T L) → (j a b : ℕ) → a ≤ L → b ≤ L → IsIn m (T a) j → (IsIn m (T b) j → ⊥) → (k : ℕ) × (k < L) × (j ≡ t.e k)
fickle_enters m n L T t same j a b p q here out =
    elim (in_or_not m (T 0) j) [
      | inl at_0 ↦ comes_in m n L T t j b L q (omega arith) out (same.there j at_0)
      | inr none ↦ comes_in m n L T t j 0 a (omega arith) p none here
    ]

-- and what enters leaves at some pivot
fickle_leaves : (m n L : ℕ) (T : ℕ → Tableau) (t : Pivots m n L T) → HaveSame m (T 0) (T L) → (k : ℕ) → k < L → (d : ℕ) × (d < L) × IsIn m (T d) (t.e k) × ((T d).basic (t.r d) ≡ t.e k)
fickle_leaves m n L T t same k p =
    let j = t.e k in
    let b = t.step k p in
    let out : IsIn m (T k) j → ⊥ = entering_is_out m n j (t.r k) (T k) (T (suc k)) (t.good k (omega (arith, p))) b in
    let next : IsIn m (T (suc k)) j = entered_is_in m n j (t.r k) (T k) (T (suc k)) b in
    elim (in_or_not m (T 0) j) [
      | inl at_0 ↦ goes_out m n L T t j 0 k (omega arith) (omega (arith, p)) at_0 out
      | inr none ↦ goes_out m n L T t j (suc k) L p (omega arith) next (λ w. none (same.back j w))
    ]

-- where a term of the sum is above 0
clash_at : (m n e r e' r' : ℕ) (T T' U U' : Tableau) → IsFeasible m n T → IsFeasible m n U → IsBlandPivot m n e r T T' → IsBlandPivot m n e' r' U U' → T.basic r ≡ e' → ((j : ℕ) → IsIn m T j → (IsIn m U j → ⊥) → j ≤ e') → ((j : ℕ) → solution m n T j ≡ solution m n U j) → (i : ℕ) → i < m → IsAbove0 (U.price (T.basic i) *Q T.entry i e) → ⊥
clash_at m n e r e' r' T T' U U' gT gU bT bU leaves bound same i p above =
    let b : ℕ = T.basic i in
    let out : IsIn m U b → ⊥ = λ q.
    let none : U.price b *Q T.entry i e ≡ 0Q = ap (λ w. w *Q T.entry i e) (ap U.price (sym q.2) ∙ gU.priced q.0 q.1) ∙ zero_mul_Q _ in
    above_not _ above (subst (λ w. IsNotBelow0 (neg_Q w)) (sym none) (subst IsNotBelow0 (sym neg_0) zero_not_below)) in
    let at_most : b ≤ e' = bound b (i, p, refl) out in
    let apart : b ≡ e' → ⊥ = λ q.
    let is_r : i ≡ r = apart_of_good m n T gT i r p bT.choice.row (q ∙ sym leaves) in
    let entry : IsNotBelow0 (T.entry i e) = subst (λ w. IsNotBelow0 (T.entry w e)) (sym is_r) (above_at_least _ bT.choice.above) in
    let price : IsNotBelow0 (neg_Q (U.price b)) = subst (λ w. IsNotBelow0 (neg_Q (U.price w))) (sym q) (neg_not_below (U.price e') (below_at_most _ bU.choice.below)) in
    above_not _ above (subst IsNotBelow0 (neg_mul _ _) (mul_not_below _ _ price entry)) in
    let less : b < e' = omega (arith, at_most, apart) in
    let entry_above : IsAbove0 (T.entry i e) = above_of (T.entry i e) (λ k. above_not _ above (subst IsNotBelow0 (mul_neg _ _) (mul_not_below _ _ (bU.first b less) k))) in
    let none : T.entry i n ≡ 0Q = sym (solution_inside m n T gT i p) ∙ same b ∙ solution_outside m n U b out in
    let no_ratio : ratio T n e i ≡ 0Q = ap (λ w. w *Q inv_Q (T.entry i e)) none ∙ zero_mul_Q _ in
    let at_least : IsAtMost 0Q (ratio T n e r) = at_most_of_sum 0Q (ratio T n e r) (ratio T n e r) (zero_add_Q _) (mul_not_below _ _ (gT.right r bT.choice.row) (inv_not_below _ bT.choice.above)) in
    let equal : ratio T n e r ≡ ratio T n e i = at_most_antisymm _ _ (bT.choice.least i p entry_above) (subst (λ w. IsAtMost w (ratio T n e r)) (sym no_ratio) at_least) in
    let tie : T.basic r ≤ T.basic i = bT.ties i p entry_above equal in
    omega (arith, tie, leaves, less)

-- ---- two pivots that cannot both be: e' leaves at the first and enters at the second, and no variable past it ever changes
clash : (m n e r e' r' : ℕ) (T T' U U' : Tableau) → IsFeasible m n T → IsFeasible m n U → HaveSameSolutions m n T U → IsBlandPivot m n e r T T' → IsBlandPivot m n e' r' U U' → T.basic r ≡ e' → e ≤ e' → ((j : ℕ) → IsIn m T j → (IsIn m U j → ⊥) → j ≤ e') → ((j : ℕ) → solution m n T j ≡ solution m n U j) → ⊥
clash m n e r e' r' T T' U U' gT gU tied bT bU leaves at_most bound same =
    let not_e : e ≡ e' → ⊥ = λ w. entering_is_out m n e r T T' gT bT (r, bT.choice.row, leaves ∙ sym w) in
    let less : e < e' = omega (arith, at_most, not_e) in
    let low : e ≤ n = omega (arith, bT.choice.column) in
    let f : ℕ → Q = λ i. U.price (T.basic i) *Q T.entry i e in
    let z : ℕ → Q = point m T e 1Q in
    let earned : row_at n U.price z ≡ T.price e = sym (tied.same z (point_solves m n T e 1Q gT low)) ∙ point_earns m n T e 1Q gT low ∙ mul_1 _ in
    let summed : row_at n U.price z ≡ neg_Q (total m f) +Q U.price e =
    row_at-point m n T e 1Q U.price gT low
    ∙ ap (λ w. w +Q U.price e *Q 1Q) (total-ext m _ (λ i. neg_Q (f i)) (λ i p. mul_neg _ _ ∙ ap (λ w. neg_Q (U.price (T.basic i) *Q w)) (mul_1 _)) ∙ total-neg m f)
    ∙ ap (λ w. neg_Q (total m f) +Q w) (mul_1 _) in
    let above : IsAbove0 (total m f) = above_of (total m f) (λ k. below_not _ bT.choice.below (subst IsNotBelow0 (sym summed ∙ earned) (add_not_below _ _ k (bU.first e less)))) in
    let w = total_above m f above in
    clash_at m n e r e' r' T T' U U' gT gU bT bU leaves bound same w.0 w.1 w.2

no_cycle_at : (m n L : ℕ) (T : ℕ → Tableau) (t : Pivots m n L T) → HaveSame m (T 0) (T L) → (k : ℕ) → k < L → ((i : ℕ) → i < L → t.e i ≤ t.e k) → ⊥
no_cycle_at m n L T t same k p top =
    let out = fickle_leaves m n L T t same k p in
    let d = out.0 in
    let below_d : d ≤ L = omega (arith, out.1) in
    let below_k : k ≤ L = omega (arith, p) in
    clash m n (t.e d) (t.r d) (t.e k) (t.r k) (T d) (T (suc d)) (T k) (T (suc k)) (t.good d below_d) (t.good k below_k) (tied_between m n L T t d k below_d below_k) (t.step d out.1) (t.step k p) out.3 (top d out.1)
    (λ j here gone. let c = fickle_enters m n L T t same j d k below_d below_k here gone in subst (λ w. w ≤ t.e k) (sym c.2) (top c.0 c.1))
    (λ j. sym (solution_same m n L T t same d below_d j) ∙ solution_same m n L T t same k below_k j)

-- pivots by Bland's rule never lead back to the same basic variables
pub no_cycle : (m n L : ℕ) (T : ℕ → Tableau) → Pivots m n L T → 0 < L → HaveSame m (T 0) (T L) → ⊥
no_cycle m n L T t some same =
    let big = largest t.e L some in
    no_cycle_at m n L T t same big.0 big.1 big.2
