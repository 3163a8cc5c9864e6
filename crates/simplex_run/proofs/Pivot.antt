-- A table as functions, one pivot of it, and what a pivot keeps.
use Rattle.std.proofs.Common.{◌≡◌, ℕ, suc, ◌<◌, ◌≤◌, arith, refl, sym, ◌∙◌, ap, subst, pos, ◌≤ℤ◌}
use Rattle.std.proofs.Math.Decide.{ℕ_discrete}
use Rattle.std.proofs.lemmas.Int.{ints, by_lt_z}
use Rattle.simplex_run.specs.Tableau.{Tableau, IsFeasible, IsPivot, IsAfterPivot, row_at, Solves, HaveSameSolutions}
use Rattle.exact_num.proofs.Rationals.{add_0, zero_add_Q, mul_0, zero_mul_Q, mul_1, one_mul_Q, distl, distr, add_comm, add_neg, neg_0, mul_neg, neg_mul, mul_assoc_Q, mul_comm_Q, mul_left_comm, mul_inv, add_not_below, mul_not_below, inv_not_below, neg_not_below, above_is_not_zero}
use Rattle.exact_num.specs.Rationals.{Q, ◌+Q◌, ◌*Q◌, neg_Q, inv_Q, 0Q, 1Q, IsNotBelow0, IsAbove0, IsAtMost, total, unit, spread}
use Rattle.exact_num.proofs.Totals.{total-ext, total-zero, total-add, total-mul, total-unit, total-spread}

-- ---- a pivot keeps the right sides from falling below 0
pub less_one : (x y : Q) → y ≡ 1Q → x +Q neg_Q (x *Q y) ≡ 0Q
less_one x y e = ap (λ w. x +Q neg_Q (x *Q w)) e ∙ ap (λ w. x +Q neg_Q w) (mul_1 x) ∙ add_neg x

pub less_none : (x f y : Q) → y ≡ 0Q → x +Q neg_Q (f *Q y) ≡ x
less_none x f y e = ap (λ w. x +Q neg_Q (f *Q w)) e ∙ ap (λ w. x +Q neg_Q w) (mul_0 f) ∙ ap (λ w. x +Q w) neg_0 ∙ add_0 x

-- b less f times p, where f is above 0 and p is at most b / f
kept_above : (b f p : Q) → IsAbove0 f → IsAtMost p (b *Q inv_Q f) → IsNotBelow0 (b +Q neg_Q (f *Q p))
kept_above b f p h k =
    let one : f *Q inv_Q f ≡ 1Q = mul_inv f (above_is_not_zero f h) in
    let e : f *Q (b *Q inv_Q f +Q neg_Q p) ≡ b +Q neg_Q (f *Q p) =
    distl f _ _ ∙ ap (λ w. w +Q f *Q neg_Q p) (mul_left_comm f b (inv_Q f) ∙ ap (λ w. b *Q w) one ∙ mul_1 b) ∙ ap (λ w. b +Q w) (mul_neg f p) in
    subst IsNotBelow0 e (mul_not_below f _ (omega (arith, ints, h)) k)

kept_below : (b f p : Q) → f.fraction.numerator ≤ℤ pos 0 → IsNotBelow0 b → IsNotBelow0 p → IsNotBelow0 (b +Q neg_Q (f *Q p))
kept_below b f p h k l =
    subst (λ w. IsNotBelow0 (b +Q w)) (neg_mul f p) (add_not_below b _ k (mul_not_below (neg_Q f) p (neg_not_below f h) l))

pub after_right : (m n e r : ℕ) (T U : Tableau) → IsFeasible m n T → IsPivot m n e r T → IsAfterPivot m n e r T U → (i : ℕ) → i < m → IsNotBelow0 (U.entry i n)
after_right m n e r T U g c t i p =
    let pivot : U.entry r n ≡ T.entry r n *Q inv_Q (T.entry r e) = t.pivot n (omega arith) in
    let pivot_right : IsNotBelow0 (U.entry r n) = subst IsNotBelow0 (sym pivot) (mul_not_below _ _ (g.right r c.row) (inv_not_below _ c.above)) in
    elim (ℕ_discrete i r) [
      | yes is_r ↦ subst (λ w. IsNotBelow0 (U.entry w n)) (sym is_r) pivot_right
      | no ne ↦
          subst IsNotBelow0 (sym (t.others i n p ne (omega arith)))
          (by_lt_z (pos 0) (T.entry i e).fraction.numerator
          (λ above. kept_above (T.entry i n) (T.entry i e) (U.entry r n) above (subst (λ w. IsAtMost w (T.entry i n *Q inv_Q (T.entry i e))) (sym pivot) (c.least i p above)))
          (λ below. kept_below (T.entry i n) (T.entry i e) (U.entry r n) below (g.right i p) pivot_right))
    ]

pub tied_refl : (m n : ℕ) (T : Tableau) → HaveSameSolutions m n T T
tied_refl m n T = record { forth = λ z h. h; back = λ z h. h; same = λ z h. refl }

pub tied_trans : (m n : ℕ) (S T U : Tableau) → HaveSameSolutions m n S T → HaveSameSolutions m n T U → HaveSameSolutions m n S U
tied_trans m n S T U h k = record { forth = λ z s. k.forth z (h.forth z s); back = λ z s. h.back z (k.back z s); same = λ z s. h.same z s ∙ k.same z (h.forth z s) }

row_less : (n : ℕ) (a b p : ℕ → Q) (f : Q) (z : ℕ → Q) → ((j : ℕ) → j ≤ n → b j ≡ a j +Q neg_Q (f *Q p j)) → row_at n b z ≡ row_at n a z +Q neg_Q (f *Q row_at n p z)
unfolding row_at
row_less n a b p f z h =
    total-ext (suc n) _ (λ j. a j *Q z j +Q neg_Q f *Q (p j *Q z j)) (λ j q. ap (λ w. w *Q z j) (h j (omega arith)) ∙ simp (distr, neg_mul, mul_assoc_Q))
    ∙ total-add (suc n) (λ j. a j *Q z j) (λ j. neg_Q f *Q (p j *Q z j))
    ∙ ap (λ w. total (suc n) (λ j. a j *Q z j) +Q w) (total-mul (suc n) (neg_Q f) (λ j. p j *Q z j) ∙ neg_mul f _)

row_scaled : (n : ℕ) (a b : ℕ → Q) (c : Q) (z : ℕ → Q) → ((j : ℕ) → j ≤ n → b j ≡ a j *Q c) → row_at n b z ≡ c *Q row_at n a z
unfolding row_at
row_scaled n a b c z h =
    total-ext (suc n) _ (λ j. c *Q (a j *Q z j)) (λ j q. ap (λ w. w *Q z j) (h j (omega arith)) ∙ simp (mul_assoc_Q, mul_comm_Q, mul_left_comm))
    ∙ total-mul (suc n) c (λ j. a j *Q z j)

pub tied_after : (m n e r : ℕ) (T U : Tableau) → IsPivot m n e r T → IsAfterPivot m n e r T U → HaveSameSolutions m n T U
tied_after m n e r T U c t =
    let pe = T.entry r e in
    let pivot : (z : ℕ → Q) → row_at n (U.entry r) z ≡ inv_Q pe *Q row_at n (T.entry r) z = λ z. row_scaled n (T.entry r) (U.entry r) (inv_Q pe) z t.pivot in
    let other : (i : ℕ) → i < m → (i ≡ r → ⊥) → (z : ℕ → Q) → row_at n (U.entry i) z ≡ row_at n (T.entry i) z +Q neg_Q (T.entry i e *Q row_at n (U.entry r) z) = λ i p ne z. row_less n (T.entry i) (U.entry i) (U.entry r) (T.entry i e) z (λ j q. t.others i j p ne q) in
    let gone : (z : ℕ → Q) → Solves m n T z → row_at n (U.entry r) z ≡ 0Q = λ z h. pivot z ∙ ap (λ w. inv_Q pe *Q w) (h r c.row) ∙ mul_0 _ in
    let back_r : (z : ℕ → Q) → row_at n (U.entry r) z ≡ 0Q → row_at n (T.entry r) z ≡ 0Q = λ z h.
    sym (one_mul_Q _) ∙ ap (λ w. w *Q row_at n (T.entry r) z) (sym (mul_inv pe (above_is_not_zero pe c.above))) ∙ mul_assoc_Q _ _ _ ∙ ap (λ w. pe *Q w) (sym (pivot z) ∙ h) ∙ mul_0 pe in
    record {
      forth = λ z h i p. elim (ℕ_discrete i r) [
        | yes is_r ↦ ap (λ w. row_at n (U.entry w) z) is_r ∙ gone z h
        | no ne ↦ other i p ne z ∙ less_none _ _ _ (gone z h) ∙ h i p
      ];
      back = λ z h i p. elim (ℕ_discrete i r) [
        | yes is_r ↦ ap (λ w. row_at n (T.entry w) z) is_r ∙ back_r z (h r c.row)
        | no ne ↦ sym (less_none _ _ _ (h r c.row)) ∙ sym (other i p ne z) ∙ h i p
      ];
      same = λ z h. sym (row_less n T.price U.price (U.entry r) (T.price e) z t.prices ∙ less_none _ _ _ (gone z h));
    }

-- ---- the solution with c in column k and else what the rows then ask of their basic variables
unfoldable pub point : ℕ → Tableau → ℕ → Q → ℕ → Q
point m T k c j = spread m T.basic (λ i. neg_Q (T.entry i k *Q c)) j +Q unit k j *Q c

pub row_at-point : (m n : ℕ) (T : Tableau) (k : ℕ) (c : Q) (a : ℕ → Q) → IsFeasible m n T → k ≤ n → row_at n a (point m T k c) ≡ total m (λ i. a (T.basic i) *Q neg_Q (T.entry i k *Q c)) +Q a k *Q c
unfolding row_at point
row_at-point m n T k c a g low =
    total-ext (suc n) _ (λ j. a j *Q spread m T.basic (λ i. neg_Q (T.entry i k *Q c)) j +Q c *Q (a j *Q unit k j)) (λ j p. distl _ _ _ ∙ ap (λ w. a j *Q spread m T.basic (λ i. neg_Q (T.entry i k *Q c)) j +Q w) (simp (mul_assoc_Q, mul_comm_Q, mul_left_comm)))
    ∙ total-add (suc n) (λ j. a j *Q spread m T.basic (λ i. neg_Q (T.entry i k *Q c)) j) (λ j. c *Q (a j *Q unit k j))
    ∙ ap (λ w. w +Q total (suc n) (λ j. c *Q (a j *Q unit k j))) (total-spread (suc n) m a T.basic _ (λ i p. let q : T.basic i < n = g.inside i p in omega arith))
    ∙ ap (λ w. total m (λ i. a (T.basic i) *Q neg_Q (T.entry i k *Q c)) +Q w) (total-mul (suc n) c _ ∙ ap (λ w. c *Q w) (total-unit (suc n) k a (omega arith)) ∙ mul_comm_Q c (a k))

pub point_solves : (m n : ℕ) (T : Tableau) (k : ℕ) (c : Q) → IsFeasible m n T → k ≤ n → Solves m n T (point m T k c)
point_solves m n T k c g low i p =
    row_at-point m n T k c (T.entry i) g low
    ∙ ap (λ w. w +Q T.entry i k *Q c) (total-ext m _ (λ h. neg_Q (T.entry h k *Q c) *Q unit i h) (λ h q. ap (λ w. w *Q neg_Q (T.entry h k *Q c)) (g.unit_columns i h p q) ∙ mul_comm_Q _ _) ∙ total-unit m i (λ h. neg_Q (T.entry h k *Q c)) p)
    ∙ add_comm _ _ ∙ add_neg _

pub point_earns : (m n : ℕ) (T : Tableau) (k : ℕ) (c : Q) → IsFeasible m n T → k ≤ n → row_at n T.price (point m T k c) ≡ T.price k *Q c
point_earns m n T k c g low =
    row_at-point m n T k c T.price g low
    ∙ ap (λ w. w +Q T.price k *Q c) (total-zero m _ (λ h q. ap (λ w. w *Q neg_Q (T.entry h k *Q c)) (g.priced h q) ∙ zero_mul_Q _))
    ∙ zero_add_Q _
