-- Entries along a state: the sum of each entry times that of the state.
use Rattle.std.proofs.Common.{◌≡◌, ℕ, suc, ◌+◌, ◌*◌, ◌<◌, List, [], ◌∷◌, length, get_or, arith, ℤ, pos, ◌+ℤ◌, ◌*ℤ◌, refl, ap, sym, ◌∙◌}
use Rattle.exact_num.specs.Rationals.{Q, ◌+Q◌, ◌*Q◌, neg_Q, 0Q, whole_Q, IsNotBelow0, IsAtMost}
use Rattle.exact_num.proofs.Rationals.{rationals, add_0, at_most_refl, same_of, sum_Q_is, product_Q_is, whole_Q_is, not_below_is}
use Rattle.form.specs.Payoff.{dot, scale_of}
use Rattle.cell_cover.specs.Classes.{Class, sum_over}
use Rattle.cell_cover.specs.Closed.{Known, Entries, over_classes, less_liability}
use Rattle.cell_cover.proofs.Ordered.{at_most_add, at_most_mul}
use Rattle.std.proofs.lemmas.Int.{ints}
use Rattle.arithmetic.proofs.Products.{products}

abbrev pub along : Entries → List ℕ → Q
along w [] = 0Q
along w (x ∷ z) = whole_Q (pos x) *Q w 0 +Q along (λ i. w (suc i)) z

-- sums and products in another order
sums_swap : (c v w s t : Q) → c *Q (v +Q w) +Q (s +Q t) ≡ (c *Q v +Q s) +Q (c *Q w +Q t)
sums_swap c v w s t = simp rationals

factor_out : (c k w s : Q) → c *Q (k *Q w) +Q k *Q s ≡ k *Q (c *Q w +Q s)
factor_out c k w s = simp rationals

sign_out : (c w s : Q) → c *Q neg_Q w +Q neg_Q s ≡ neg_Q (c *Q w +Q s)
sign_out c w s = simp rationals

last_out : (c w l s : Q) → c *Q (w +Q neg_Q l) +Q s ≡ (c *Q w +Q s) +Q neg_Q (l *Q c)
last_out c w l s = simp rationals

pub along-zero : (z : List ℕ) → along (λ i. 0Q) z ≡ 0Q
along-zero [] = refl
along-zero (x ∷ z) = ap (λ s. whole_Q (pos x) *Q 0Q +Q s) (along-zero z) ∙ simp rationals

pub along-add : (v w : Entries) (z : List ℕ) → along (λ i. v i +Q w i) z ≡ along v z +Q along w z
along-add v w [] = sym (add_0 0Q)
along-add v w (x ∷ z) = ap (λ s. whole_Q (pos x) *Q (v 0 +Q w 0) +Q s) (along-add (λ i. v (suc i)) (λ i. w (suc i)) z) ∙ sums_swap (whole_Q (pos x)) (v 0) (w 0) (along (λ i. v (suc i)) z) (along (λ i. w (suc i)) z)

pub along-mul : (c : Q) (w : Entries) (z : List ℕ) → along (λ i. c *Q w i) z ≡ c *Q along w z
along-mul c w [] = simp rationals
along-mul c w (x ∷ z) = ap (λ s. whole_Q (pos x) *Q (c *Q w 0) +Q s) (along-mul c (λ i. w (suc i)) z) ∙ factor_out (whole_Q (pos x)) c (w 0) (along (λ i. w (suc i)) z)

pub along-neg : (w : Entries) (z : List ℕ) → along (λ i. neg_Q (w i)) z ≡ neg_Q (along w z)
along-neg w [] = simp rationals
along-neg w (x ∷ z) = ap (λ s. whole_Q (pos x) *Q neg_Q (w 0) +Q s) (along-neg (λ i. w (suc i)) z) ∙ sign_out (whole_Q (pos x)) (w 0) (along (λ i. w (suc i)) z)

pub natural_not_below : (n : ℕ) → IsNotBelow0 (whole_Q (pos n))
natural_not_below n = not_below_is (whole_Q (pos n)) (pos n) 1 (whole_Q_is (pos n)) (omega (arith, ints))

pub along-le : (v w : Entries) (z : List ℕ) → ((i : ℕ) → i < length z → IsAtMost (v i) (w i)) → IsAtMost (along v z) (along w z)
along-le v w [] h = at_most_refl 0Q
along-le v w (x ∷ z) h =
    at_most_add (whole_Q (pos x) *Q v 0) (whole_Q (pos x) *Q w 0) (along (λ i. v (suc i)) z) (along (λ i. w (suc i)) z)
    (at_most_mul (whole_Q (pos x)) (v 0) (w 0) (natural_not_below x) (h 0 (omega arith)))
    (along-le (λ i. v (suc i)) (λ i. w (suc i)) z (λ i lt. h (suc i) (omega arith)))

pub along_sum : {A : Type 0} (f : A → Entries) (xs : List A) (z : List ℕ) → along (λ i. sum_over (λ x. f x i) xs) z ≡ sum_over (λ x. along (f x) z) xs
along_sum f [] z = along-zero z
along_sum f (x ∷ xs) z = along-add (f x) (λ i. sum_over (λ y. f y i) xs) z ∙ ap (λ s. along (f x) z +Q s) (along_sum f xs z)

pub along_classes : (f : ℕ → Class → Known Entries → Entries) (k : ℕ) (classes : List Class) (known : List (Known Entries)) (z : List ℕ)
    → along (λ i. over_classes (λ k class it. f k class it i) k classes known) z ≡ over_classes (λ k class it. along (f k class it) z) k classes known
along_classes f k [] known z = along-zero z
along_classes f k (class ∷ classes) [] z = along-zero z
along_classes f k (class ∷ classes) (it ∷ known) z =
    along-add (f k class it) (λ i. over_classes (λ k class it. f k class it i) (k + 1) classes known) z
    ∙ ap (λ s. along (f k class it) z +Q s) (along_classes f (k + 1) classes known z)

-- ---- whole numbers
pub whole_sum : (a b : ℤ) → whole_Q (a +ℤ b) ≡ whole_Q a +Q whole_Q b
whole_sum a b =
    let e : (a +ℤ b) *ℤ pos (1 * 1) ≡ (a *ℤ pos 1 +ℤ b *ℤ pos 1) *ℤ pos 1 = omega (arith, ints) in
    same_of (whole_Q (a +ℤ b)) (whole_Q a +Q whole_Q b) _ _ _ _ (whole_Q_is (a +ℤ b)) (sum_Q_is (whole_Q a) (whole_Q b) a b 1 1 (whole_Q_is a) (whole_Q_is b)) e

pub whole_product : (a b : ℤ) → whole_Q (a *ℤ b) ≡ whole_Q a *Q whole_Q b
whole_product a b =
    let e : (a *ℤ b) *ℤ pos (1 * 1) ≡ (a *ℤ b) *ℤ pos 1 = omega (arith, ints) in
    same_of (whole_Q (a *ℤ b)) (whole_Q a *Q whole_Q b) _ _ _ _ (whole_Q_is (a *ℤ b)) (product_Q_is (whole_Q a) (whole_Q b) a b 1 1 (whole_Q_is a) (whole_Q_is b)) e

pub along_whole : (u : List ℤ) (z : List ℕ) → along (λ i. whole_Q (get_or u i (pos 0))) z ≡ whole_Q (dot u z)
unfolding 0Q
along_whole [] z = along-zero z
along_whole (a ∷ u) [] = refl
along_whole (a ∷ u) (x ∷ z) =
    ap (λ s. whole_Q (pos x) *Q whole_Q a +Q s) (along_whole u z)
    ∙ ap (λ p. p +Q whole_Q (dot u z)) (sym (whole_product (pos x) a))
    ∙ sym (whole_sum (pos x *ℤ a) (dot u z))
    ∙ ap (λ p. whole_Q (p +ℤ dot u z)) (turned a x)
  where
    turned : (a : ℤ) (x : ℕ) → pos x *ℤ a ≡ a *ℤ pos x
    turned a x = omega (arith, ints, products)

-- the liability counts at the entry t
pub along_less : (slope : Entries) (L : Q) (z : List ℕ) → along (less_liability slope L) z ≡ along slope z +Q neg_Q (L *Q whole_Q (pos (scale_of z)))
unfolding 0Q
along_less slope L [] = ap (λ s. s) (zero_times L)
  where
    zero_times : (L : Q) → 0Q ≡ 0Q +Q neg_Q (L *Q 0Q)
    zero_times L = simp rationals
along_less slope L (x ∷ z) = last_out (whole_Q (pos x)) (slope 0) L (along (λ i. slope (suc i)) z)
