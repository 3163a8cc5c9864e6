-- Fractions as parts of one denominator: what the steps with fractions are in whole numbers over
-- it.
use Rattle.std.proofs.Common.{◌≡◌, ℕ, ◌*◌, ◌≤◌, List, [], ◌∷◌, ◌++◌, map, arith, ℤ, pos, neg_ℤ, ◌+ℤ◌, ◌*ℤ◌, ◌≤ℤ◌, ap, sym, ◌∙◌, lit≤}
use Rattle.std.proofs.lemmas.Int.{ints}
use Rattle.arithmetic.specs.Sums.{dot_ℤ}
use Rattle.arithmetic.proofs.Integers.{*ℤ_mono, *ℤ_cancel, *ℤ_cancel_le}
use Rattle.arithmetic.proofs.Products.{products, neg_cross}
use Rattle.exact_num.specs.Fraction.{Fraction, IsDefined, IsSameValue, AtMost, whole, negated, plain_sum, plain_product, plain_dot}
use Rattle.exact_num.specs.CommonDenominator.{IsPart, AreParts}
use Rattle.exact_num.proofs.Fractions.{at_most_to, defined_product}

-- ---- whole numbers
zero_cross : (F : ℕ) → pos 0 *ℤ pos F ≡ pos 0 *ℤ pos 1
zero_cross F = omega (arith, ints)

pub zero_part : (F : ℕ) → IsPart F (whole (pos 0)) (pos 0)
zero_part F = (lit≤ tt, zero_cross F)

whole_cross : (c : ℤ) (F : ℕ) → c *ℤ pos F ≡ (c *ℤ pos F) *ℤ pos 1
whole_cross c F = omega (arith, ints, products)

pub whole_part : (F : ℕ) (c : ℤ) → IsPart F (whole c) (c *ℤ pos F)
whole_part F c = (lit≤ tt, whole_cross c F)

-- ---- sums, negations, sums of products
sum_cross : (a b x y : ℤ) (F d e : ℕ) → a *ℤ pos F ≡ x *ℤ pos d → b *ℤ pos F ≡ y *ℤ pos e → (a *ℤ pos e +ℤ b *ℤ pos d) *ℤ pos F ≡ (x +ℤ y) *ℤ pos (d * e)
sum_cross a b x y F d e h k = omega (arith, ints, products, ap (λ w. w *ℤ pos e) h, ap (λ w. w *ℤ pos d) k)

pub sum_part : (F : ℕ) (f g : Fraction) (x y : ℤ) → IsPart F f x → IsPart F g y → IsPart F (plain_sum f g) (x +ℤ y)
sum_part F f g x y h k = (defined_product f g h.0 k.0, sum_cross f.numerator g.numerator x y F f.denominator g.denominator h.1 k.1)

pub neg_part : (F : ℕ) (f : Fraction) (x : ℤ) → IsPart F f x → IsPart F (negated f) (neg_ℤ x)
neg_part F f x h = (h.0, neg_cross f.numerator x F f.denominator h.1)

product_cross : (c n x : ℤ) (F d : ℕ) → n *ℤ pos F ≡ x *ℤ pos d → (c *ℤ n) *ℤ pos F ≡ (c *ℤ x) *ℤ pos (1 * d)
product_cross c n x F d h = omega (arith, ints, products, ap (λ w. c *ℤ w) h)

one_times : (d : ℕ) → 1 ≤ d → 1 ≤ 1 * d
one_times d h = omega (arith, h)

pub times_part : (F : ℕ) (c : ℤ) (f : Fraction) (x : ℤ) → IsPart F f x → IsPart F (plain_product (whole c) f) (c *ℤ x)
times_part F c f x h = (one_times f.denominator h.0, product_cross c f.numerator x F f.denominator h.1)

pub dot_part : (F : ℕ) (cs : List ℤ) (fs : List Fraction) (xs : List ℤ) → AreParts F fs xs → IsPart F (plain_dot (map whole cs) fs) (dot_ℤ cs xs)
dot_part F [] fs xs h = zero_part F
dot_part F (c ∷ cs) [] [] h = zero_part F
dot_part F (c ∷ cs) [] (x ∷ xs) h = absurd h
dot_part F (c ∷ cs) (f ∷ fs) [] h = absurd h
dot_part F (c ∷ cs) (f ∷ fs) (x ∷ xs) h =
    sum_part F (plain_product (whole c) f) (plain_dot (map whole cs) fs) (c *ℤ x) (dot_ℤ cs xs) (times_part F c f x h.0) (dot_part F cs fs xs h.1)

-- ---- equality, order and sign
same_cross : (a b x : ℤ) (F d e : ℕ) → 1 ≤ e → a *ℤ pos e ≡ b *ℤ pos d → b *ℤ pos F ≡ x *ℤ pos e → a *ℤ pos F ≡ x *ℤ pos d
same_cross a b x F d e one h k =
    *ℤ_cancel e (a *ℤ pos F) (x *ℤ pos d) one
    (omega (arith, ints, products, ap (λ w. w *ℤ pos F) h, ap (λ w. w *ℤ pos d) k))

-- of two equal fractions one is what the other is
pub same_part : (F : ℕ) (f g : Fraction) (x : ℤ) → IsDefined f → IsSameValue f g → IsPart F g x → IsPart F f x
same_part F f g x p h k = (p, same_cross f.numerator g.numerator x F f.denominator g.denominator k.0 h k.1)

pub at_most_part : (F : ℕ) (f g : Fraction) (x y : ℤ) → IsPart F f x → IsPart F g y → AtMost f g → x ≤ℤ y
at_most_part F f g x y h k le = at_most_to f g x y F h.0 k.0 h.1 k.1 le

-- a fraction is one part
pub one_part : (F : ℕ) (f : Fraction) (x y : ℤ) → IsPart F f x → IsPart F f y → x ≡ y
one_part F f x y h k = *ℤ_cancel f.denominator x y h.0 (sym h.1 ∙ k.1)

sign_cross : (n x : ℤ) (F d : ℕ) → 1 ≤ d → pos 0 ≤ℤ n → n *ℤ pos F ≡ x *ℤ pos d → pos 0 ≤ℤ x
sign_cross n x F d one h k = *ℤ_cancel_le d (pos 0) x one (omega (arith, ints, products, k, *ℤ_mono F (pos 0) n h))

pub sign_part : (F : ℕ) (f : Fraction) (x : ℤ) → IsPart F f x → pos 0 ≤ℤ f.numerator → pos 0 ≤ℤ x
sign_part F f x h k = sign_cross f.numerator x F f.denominator h.0 k h.1

-- ---- lists, over k times F and one after another
more_cross : (n x : ℤ) (F k d : ℕ) → n *ℤ pos F ≡ x *ℤ pos d → n *ℤ pos (k * F) ≡ (x *ℤ pos k) *ℤ pos d
more_cross n x F k d h = omega (arith, ints, products, ap (λ w. w *ℤ pos k) h)

pub more_parts : (F k : ℕ) (fs : List Fraction) (xs : List ℤ) → AreParts F fs xs → AreParts (k * F) fs (map (λ x. x *ℤ pos k) xs)
more_parts F k [] [] h = tt
more_parts F k [] (x ∷ xs) h = h
more_parts F k (f ∷ fs) [] h = h
more_parts F k (f ∷ fs) (x ∷ xs) h = ((h.0.0, more_cross f.numerator x F k f.denominator h.0.1), more_parts F k fs xs h.1)

pub append_parts : (F : ℕ) (fs gs : List Fraction) (xs ys : List ℤ) → AreParts F fs xs → AreParts F gs ys → AreParts F (fs ++ gs) (xs ++ ys)
append_parts F [] gs [] ys h k = k
append_parts F [] gs (x ∷ xs) ys h k = absurd h
append_parts F (f ∷ fs) gs [] ys h k = absurd h
append_parts F (f ∷ fs) gs (x ∷ xs) ys h k = (h.0, append_parts F fs gs xs ys h.1 k)
