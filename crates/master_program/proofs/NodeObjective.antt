-- The objective of a node: its costs over a common denominator, and what they earn.
use Rattle.std.proofs.Common.{◌≡◌, ℕ, zero, suc, ◌*◌, ◌≤◌, List, [], ◌∷◌, ◌++◌, length, map, arith, ℤ, pos, negsuc, neg_ℤ, int_div, unsigned_abs, ◌/◌, ◌+ℤ◌, ◌-ℤ◌, ◌*ℤ◌, ◌≤ℤ◌, refl, ap, sym, ◌∙◌}
use Rattle.std.specs.List.{sum}
use Rattle.std.proofs.lemmas.Int.{ints}
use Rattle.std.proofs.lemmas.List.{length-map}
use Rattle.std.proofs.lemmas.List.Sums.{sum_by-cons}
use Rattle.std.proofs.Math.Nat.{mul-pos, div-mul_cancel}
use Rattle.arithmetic.specs.Gcd.{gcd}
use Rattle.arithmetic.specs.Sums.{dot_ℤ}
use Rattle.arithmetic.proofs.GcdLaws.{gcd_dvd_left, gcd_dvd_right, gcd_pos_right, coprime_of_div, pos_of_quotient}
use Rattle.arithmetic.proofs.Quotients.{int_div-mul_cancel, unsigned_abs-int_div}
use Rattle.arithmetic.proofs.Along.{along}
use Rattle.arithmetic.proofs.Dots.{dot-append}
use Rattle.arithmetic.proofs.Products.{products}
use Rattle.arithmetic.proofs.Ring.{ring, V, ◌⊗◌}
use Rattle.exact_num.specs.Fraction.{Fraction, IsLowest, reduced, plain_product, plain_dot}
use Rattle.exact_num.specs.CommonDenominator.{IsPart, AreParts}
use Rattle.exact_num.proofs.Ratios.{zero_part, sum_part}
use Rattle.form.specs.Vector.{scale_of}
use Rattle.clearing_model.specs.Legs.{FilledLeg}
use Rattle.clearing_model.specs.Tree.{Sign, liability_at}
use Rattle.master_program.specs.Roles.{values}
use Rattle.master_program.specs.Node.{earned_at, state_cost, cover_amounts, minus_amount, costs_of}
use Rattle.master_program.proofs.NodeShape.{length-values}
use Rattle.market_laws.proofs.Tree.{liability-along}

-- ---- a whole number over D in lowest terms
pub reduced_is_lowest : (n : ℤ) (d : ℕ) → 1 ≤ d → IsLowest (reduced n d)
unfolding reduced
reduced_is_lowest n d p =
    let a = unsigned_abs n in
    let g = gcd a d in
    record {
      positive = pos_of_quotient d g p (gcd_pos_right a d p) (gcd_dvd_right a d);
      coprime = ap (λ (m : ℕ). gcd m (d / g)) (unsigned_abs-int_div n g) ∙ coprime_of_div a d (gcd_pos_right a d p);
    }

quotient_cross : (q n : ℤ) (e g d : ℕ) → q *ℤ pos g ≡ n → e * g ≡ d → q *ℤ pos d ≡ n *ℤ pos e
quotient_cross q n e g d h k = omega (arith, ints, products, ap (λ w. w *ℤ pos e) h, ap (λ (m : ℕ). q *ℤ pos m) k)

pub reduced_part : (n : ℤ) (d : ℕ) → 1 ≤ d → IsPart d (reduced n d) n
unfolding reduced
reduced_part n d p =
    let a = unsigned_abs n in
    let g = gcd a d in (
      pos_of_quotient d g p (gcd_pos_right a d p) (gcd_dvd_right a d),
      quotient_cross (int_div n (pos g)) n (d / g) g d (int_div-mul_cancel n g (gcd_dvd_left a d)) (div-mul_cancel g (gcd_dvd_right a d)),
    )

abbrev pub over_all : ℕ → List ℤ → List Fraction
over_all D cs = map (λ c. reduced c D) cs

pub reduced_parts : (D : ℕ) (cs : List ℤ) → 1 ≤ D → AreParts D (over_all D cs) cs
reduced_parts D [] p = tt
reduced_parts D (c ∷ cs) p = (reduced_part c D p, reduced_parts D cs p)

-- ---- products of fractions over two denominators
product_cross : (a b x y : ℤ) (D W d e : ℕ) → a *ℤ pos D ≡ x *ℤ pos d → b *ℤ pos W ≡ y *ℤ pos e → (a *ℤ b) *ℤ pos (D * W) ≡ (x *ℤ y) *ℤ pos (d * e)
product_cross a b x y D W d e h k =
    ring (a ∷ b ∷ pos D ∷ pos W ∷ []) ((V 0 ⊗ V 1) ⊗ (V 2 ⊗ V 3)) ((V 0 ⊗ V 2) ⊗ (V 1 ⊗ V 3)) refl
    ∙ ap (λ w. w *ℤ (b *ℤ pos W)) h ∙ ap (λ w. (x *ℤ pos d) *ℤ w) k
    ∙ ring (x ∷ y ∷ pos d ∷ pos e ∷ []) ((V 0 ⊗ V 2) ⊗ (V 1 ⊗ V 3)) ((V 0 ⊗ V 1) ⊗ (V 2 ⊗ V 3)) refl

product_part : (D W : ℕ) (f g : Fraction) (x y : ℤ) → IsPart D f x → IsPart W g y → IsPart (D * W) (plain_product f g) (x *ℤ y)
product_part D W f g x y h k = (mul-pos h.0 k.0, product_cross f.numerator g.numerator x y D W f.denominator g.denominator h.1 k.1)

pub dots_part : (D W : ℕ) (fs gs : List Fraction) (xs ys : List ℤ) → AreParts D fs xs → AreParts W gs ys → IsPart (D * W) (plain_dot fs gs) (dot_ℤ xs ys)
dots_part D W [] gs [] ys h k = zero_part (D * W)
dots_part D W [] gs (x ∷ xs) ys h k = absurd h
dots_part D W (f ∷ fs) gs [] ys h k = absurd h
dots_part D W (f ∷ fs) [] (x ∷ xs) [] h k = zero_part (D * W)
dots_part D W (f ∷ fs) [] (x ∷ xs) (y ∷ ys) h k = absurd k
dots_part D W (f ∷ fs) (g ∷ gs) (x ∷ xs) [] h k = absurd k
dots_part D W (f ∷ fs) (g ∷ gs) (x ∷ xs) (y ∷ ys) h k =
    sum_part (D * W) (plain_product f g) (plain_dot fs gs) (x *ℤ y) (dot_ℤ xs ys) (product_part D W f g x y h.0 k.0) (dots_part D W fs gs xs ys h.1 k.1)

-- ---- sums along a state
abbrev pub wholes : List ℕ → List ℤ
wholes z = map pos z

pub dot-values : (f : ℕ → ℤ) (m : ℕ) (z : List ℕ) → length z ≡ m → dot_ℤ (values f m) (wholes z) ≡ along f z
dot-values f zero [] h = refl
dot-values f zero (x ∷ z) h = absurd (omega (arith, h))
dot-values f (suc m) [] h = absurd (omega (arith, h))
dot-values f (suc m) (x ∷ z) h = ap (λ w. (f 0 *ℤ pos x) +ℤ w) (dot-values (λ i. f (suc i)) m z (omega (arith, h)))

less-along : (f g : ℕ → ℤ) (z : List ℕ) → along (λ i. f i -ℤ g i) z ≡ along f z -ℤ along g z
less-along f g [] = refl
less-along f g (x ∷ z) = omega (arith, ints, products, less-along (λ i. f (suc i)) (λ i. g (suc i)) z)

-- the objective: what the legs earn along the state, less the liability times t, less what the
-- variables cost
pub objective_is : (n : ℕ) (legs : List FilledLeg) (L : ℤ) (signs : List Sign) (z : List ℕ) (U : List ℤ) → length z ≡ suc n
    → dot_ℤ (costs_of n legs L signs) (wholes z ++ U)
    ≡ (along (λ i. earned_at i legs signs) z -ℤ (L *ℤ pos (scale_of z))) +ℤ dot_ℤ (map minus_amount (cover_amounts legs signs)) U
objective_is n legs L signs z U len =
    let costs : List ℤ = map minus_amount (cover_amounts legs signs) in
    let f : ℕ → ℤ = state_cost legs L signs in
    dot-append (values f (suc n)) costs (wholes z) U (length-values f (suc n) ∙ sym len ∙ sym (length-map z pos))
    ∙ ap (λ w. w +ℤ dot_ℤ costs U)
    (dot-values f (suc n) z len ∙ less-along (λ i. earned_at i legs signs) (liability_at L) z
    ∙ ap (λ w. along (λ i. earned_at i legs signs) z -ℤ w) (liability-along L z))

-- ---- without a state nothing is earned
abbrev pub NoneBelow : List ℤ → Type 0
NoneBelow [] = Unit {0}
NoneBelow (x ∷ X) = (pos 0 ≤ℤ x) × NoneBelow X

cost_step : (a : ℕ) (u v : ℤ) → pos 0 ≤ℤ u → v ≤ℤ pos 0 → ((neg_ℤ (pos a) *ℤ u) +ℤ v) ≤ℤ pos 0
cost_step a (pos u) v h k = omega (arith, ints, products, k)
cost_step a (negsuc u) v h k = absurd (omega (arith, ints, h))

covers_cost : (amounts : List ℕ) (U : List ℤ) → NoneBelow U → dot_ℤ (map minus_amount amounts) U ≤ℤ pos 0
covers_cost [] U h = omega (arith, ints)
covers_cost (a ∷ amounts) [] h = omega (arith, ints)
covers_cost (a ∷ amounts) (u ∷ U) h = cost_step a u (dot_ℤ (map minus_amount amounts) U) h.0 (covers_cost amounts U h.1)

nowhere : (f : ℕ → ℤ) (z : List ℕ) → sum z ≡ 0 → along f z ≡ pos 0
nowhere f [] h = refl
nowhere f (x ∷ z) h =
    let s = sum_by-cons (λ (k : ℕ). k) x z in
    let here : x ≡ 0 = omega (arith, h, s) in
    omega (arith, ints, ap (λ (k : ℕ). f 0 *ℤ pos k) here, nowhere (λ i. f (suc i)) z (omega (arith, h, s)))

no_scale : (z : List ℕ) → sum z ≡ 0 → scale_of z ≡ 0
no_scale [] h = refl
no_scale (x ∷ z) h = omega (arith, h, sum_by-cons (λ (k : ℕ). k) x z)

pub nothing_earned : (n : ℕ) (legs : List FilledLeg) (L : ℤ) (signs : List Sign) (z : List ℕ) (U : List ℤ) → length z ≡ suc n → sum z ≡ 0 → NoneBelow U
    → dot_ℤ (costs_of n legs L signs) (wholes z ++ U) ≤ℤ pos 0
nothing_earned n legs L signs z U len none low =
    omega (arith, ints, objective_is n legs L signs z U len, nowhere (λ i. earned_at i legs signs) z none, ap (λ (t : ℕ). L *ℤ pos t) (no_scale z none), covers_cost (cover_amounts legs signs) U low)
