-- Numbers of the walk that stand for rationals, and the steps on vectors of them.
use Rattle.std.proofs.Common.{◌≡◌, ℕ, zero, suc, ◌<◌, Bool, true, false, List, [], ◌∷◌, length, map, zip, get_or, replicate, arith, ℤ, pos, Result, Ok, refl, ap, sym, ◌∙◌, subst}
use Rattle.std.specs.Prelude.{if◌then◌else◌}
use Rattle.arithmetic.proofs.Tests.{int_le-yes, int_le-true, both_so}
use Rattle.exact_num.specs.declared.misfit.Wide.{Wide}
use Rattle.exact_num.specs.Fraction.{Fraction, IsLowest, whole, negated}
use Rattle.exact_num.specs.Fits.{add_of, sub_of, mul_of, after}
use Rattle.exact_num.specs.Steps.{plus_product, less_product}
use Rattle.exact_num.specs.Tests.{greater_of, is_above_zero, is_at_most, is_below_zero, is_not_below_zero}
use Rattle.exact_num.specs.Rationals.{Q, ◌+Q◌, ◌*Q◌, neg_Q, 0Q, whole_Q, value}
use Rattle.exact_num.proofs.After.{after_value}
use Rattle.exact_num.proofs.Values.{whole_is_lowest, negated_is_lowest}
use Rattle.exact_num.proofs.Rationals.{sum_step, product_step, value_of_lowest, value_zero, value_whole, value_negated, at_most_value, value_at_most}
use Rattle.cell_cover.specs.Closed.{Entries, is_above, is_below, is_not_below, is_no_more, greater}
use Rattle.cell_cover.specs.Walk.{each_of, plus_each, less_each, greater_each, at_least_zero}
use Rattle.cell_cover.proofs.Ordered.{not_below_from}

-- ---- a number
pub record StandsFor (x : Fraction) (q : Q) : Type 0 where
  pub lowest : IsLowest x
  pub value : value x ≡ q

pub stands_as : (x : Fraction) (p q : Q) → p ≡ q → StandsFor x p → StandsFor x q
stands_as x p q e st = subst (StandsFor x) e st

pub itself : (x : Fraction) → IsLowest x → StandsFor x (value x)
itself x low = record { lowest = low; value = refl }

pub whole_stands : (k : ℤ) → StandsFor (whole k) (whole_Q k)
whole_stands k = record { lowest = whole_is_lowest k; value = value_whole k }

pub zero_stands : StandsFor (whole (pos 0)) 0Q
zero_stands = record { lowest = whole_is_lowest (pos 0); value = value_zero }

pub negated_stands : (x : Fraction) (q : Q) → StandsFor x q → StandsFor (negated x) (neg_Q q)
negated_stands x q st = record { lowest = negated_is_lowest x st.lowest; value = value_negated x st.lowest.positive ∙ ap neg_Q st.value }

pub sum_stands : (limit : ℕ) (x y s : Fraction) (p q : Q) → StandsFor x p → StandsFor y q → add_of limit x y ≡ Ok s → StandsFor s (p +Q q)
sum_stands limit x y s p q sx sy h =
    let is = sum_step limit x y s sx.lowest sy.lowest h in
    record { lowest = is.0; value = is.1 ∙ ap (λ w. w +Q value y) sx.value ∙ ap (λ w. p +Q w) sy.value }

pub difference_stands : (limit : ℕ) (x y s : Fraction) (p q : Q) → StandsFor x p → StandsFor y q → sub_of limit x y ≡ Ok s → StandsFor s (p +Q neg_Q q)
difference_stands limit x y s p q sx sy h = sum_stands limit x (negated y) s p (neg_Q q) sx (negated_stands y q sy) h

pub product_stands : (limit : ℕ) (x y s : Fraction) (p q : Q) → StandsFor x p → StandsFor y q → mul_of limit x y ≡ Ok s → StandsFor s (p *Q q)
product_stands limit x y s p q sx sy h =
    let is = product_step limit x y s sx.lowest sy.lowest h in
    record { lowest = is.0; value = is.1 ∙ ap (λ w. w *Q value y) sx.value ∙ ap (λ w. p *Q w) sy.value }

pub plus_stands : (limit : ℕ) (t a b s : Fraction) (r p q : Q) → StandsFor t r → StandsFor a p → StandsFor b q → plus_product limit t a b ≡ Ok s → StandsFor s (r +Q p *Q q)
plus_stands limit t a b s r p q st sa sb h =
    let f = after_value (mul_of limit a b) (λ p. add_of limit t p) s h in
    sum_stands limit t f.value s r (p *Q q) st (product_stands limit a b f.value p q sa sb f.first) f.rest

pub less_stands : (limit : ℕ) (t a b s : Fraction) (r p q : Q) → StandsFor t r → StandsFor a p → StandsFor b q → less_product limit t a b ≡ Ok s → StandsFor s (r +Q neg_Q (p *Q q))
less_stands limit t a b s r p q st sa sb h =
    let f = after_value (mul_of limit a b) (λ p. sub_of limit t p) s h in
    difference_stands limit t f.value s r (p *Q q) st (product_stands limit a b f.value p q sa sb f.first) f.rest

-- ---- tests
fraction_is : (x : Fraction) (q : Q) → StandsFor x q → q.fraction ≡ x
fraction_is x q st = subst (λ (w : Q). w.fraction ≡ x) st.value (value_of_lowest x st.lowest)

pub above_same : (x : Fraction) (q : Q) → StandsFor x q → is_above q ≡ is_above_zero x
above_same x q st = ap is_above_zero (fraction_is x q st)

pub below_same : (x : Fraction) (q : Q) → StandsFor x q → is_below q ≡ is_below_zero x
below_same x q st = ap is_below_zero (fraction_is x q st)

pub not_below_same : (x : Fraction) (q : Q) → StandsFor x q → is_not_below q ≡ is_not_below_zero x
not_below_same x q st = ap is_not_below_zero (fraction_is x q st)

pub no_more_same : (x y : Fraction) (p q : Q) → StandsFor x p → StandsFor y q → is_no_more p q ≡ is_at_most x y
no_more_same x y p q sx sy =
    let at : is_no_more p q ≡ is_no_more (value x) (value y) = ap (λ w. is_no_more w q) (sym sx.value) ∙ ap (λ w. is_no_more (value x) w) (sym sy.value) in
    at ∙ both_so (is_no_more (value x) (value y)) (is_at_most x y)
    (λ h. int_le-true _ _ (value_at_most x y sx.lowest.positive sy.lowest.positive (not_below_from (value y +Q neg_Q (value x)) h)))
    (λ h. int_le-true _ _ (at_most_value x y sx.lowest.positive sy.lowest.positive (int_le-yes _ _ h)))

pub greater_stands : (x y : Fraction) (p q : Q) → StandsFor x p → StandsFor y q → StandsFor (greater_of x y) (greater p q)
greater_stands x y p q sx sy = by_test (is_at_most x y) refl
  where
    by_test : (t : Bool) → is_at_most x y ≡ t → StandsFor (if is_at_most x y then y else x) (if is_no_more p q then q else p)
    by_test true e = rw (e, no_more_same x y p q sx sy ∙ e) sy
    by_test false e = rw (e, no_more_same x y p q sx sy ∙ e) sx

-- ---- vectors
abbrev pub Stand : List Fraction → Entries → Type 0
Stand [] w = Unit {0}
Stand (x ∷ xs) w = StandsFor x (w 0) × Stand xs (λ i. w (suc i))

pub stand_as : (xs : List Fraction) (v w : Entries) → ((i : ℕ) → v i ≡ w i) → Stand xs v → Stand xs w
stand_as [] v w e st = tt
stand_as (x ∷ xs) v w e st = (stands_as x (v 0) (w 0) (e 0) st.0, stand_as xs (λ i. v (suc i)) (λ i. w (suc i)) (λ i. e (suc i)) st.1)

pub stand_at : (xs : List Fraction) (w : Entries) (i : ℕ) → Stand xs w → i < length xs → StandsFor (get_or xs i (whole (pos 0))) (w i)
stand_at [] w i st lt = absurd (omega arith)
stand_at (x ∷ xs) w zero st lt = st.0
stand_at (x ∷ xs) w (suc i) st lt = stand_at xs (λ j. w (suc j)) i st.1 (omega arith)

-- a vector of so many entries that stands for these
pub record Vector (n : ℕ) (xs : List Fraction) (w : Entries) : Type 0 where
  pub count : length xs ≡ n
  pub entries : Stand xs w

-- what each of two lists' steps does with the entries
zip_step : {A B : Type 0} (step : A → Result B Wide) (x : A) (xs : List A) (ys : List B) → each_of step (x ∷ xs) ≡ Ok ys
    → (y : B) × (rest : List B) × (step x ≡ Ok y) × (each_of step xs ≡ Ok rest) × (y ∷ rest ≡ ys)
zip_step step x xs ys h =
    let one = after_value (step x) (λ y. after (each_of step xs) (λ ys. Ok (y ∷ ys))) ys h in
    let two = after_value (each_of step xs) (λ ys. Ok (one.value ∷ ys)) ys one.rest in
    let is : one.value ∷ two.value ≡ ys = cc (two.rest) in
    (one.value, two.value, one.first, two.first, is)

pub plus_each_stand : (limit n : ℕ) (totals : List Fraction) (m : Fraction) (xs ys : List Fraction) (t w : Entries) (q : Q) → Vector n totals t → StandsFor m q → Vector n xs w
    → plus_each limit totals m xs ≡ Ok ys → Vector n ys (λ i. t i +Q q *Q w i)
plus_each_stand limit n [] m [] ys t w q st sm sx h = let is : [] ≡ ys = cc in subst (λ zs. Vector n zs (λ i. t i +Q q *Q w i)) is (record { count = st.count; entries = tt })
plus_each_stand limit n [] m (x ∷ xs) ys t w q st sm sx h = absurd (omega (arith, st.count, sx.count))
plus_each_stand limit n (a ∷ totals) m [] ys t w q st sm sx h = absurd (omega (arith, st.count, sx.count))
plus_each_stand limit n (a ∷ totals) m (x ∷ xs) ys t w q st sm sx h =
    let s = zip_step (λ (p : Fraction × Fraction). plus_product limit p.0 m p.1) (a, x) (zip totals xs) ys h in
    let here = plus_stands limit a m x s.0 (t 0) q (w 0) st.entries.0 sm sx.entries.0 s.2 in
    let rest = plus_each_stand limit (length totals) totals m xs s.1 (λ i. t (suc i)) (λ i. w (suc i)) q (record { count = refl; entries = st.entries.1 }) sm (record { count = omega (arith, st.count, sx.count); entries = sx.entries.1 }) s.3 in
    subst (λ zs. Vector n zs (λ i. t i +Q q *Q w i)) s.4 (record { count = omega (arith, rest.count, st.count); entries = (here, rest.entries) })

pub less_each_stand : (limit n : ℕ) (totals : List Fraction) (m : Fraction) (xs ys : List Fraction) (t w : Entries) (q : Q) → Vector n totals t → StandsFor m q → Vector n xs w
    → less_each limit totals m xs ≡ Ok ys → Vector n ys (λ i. t i +Q neg_Q (q *Q w i))
less_each_stand limit n [] m [] ys t w q st sm sx h = let is : [] ≡ ys = cc in subst (λ zs. Vector n zs (λ i. t i +Q neg_Q (q *Q w i))) is (record { count = st.count; entries = tt })
less_each_stand limit n [] m (x ∷ xs) ys t w q st sm sx h = absurd (omega (arith, st.count, sx.count))
less_each_stand limit n (a ∷ totals) m [] ys t w q st sm sx h = absurd (omega (arith, st.count, sx.count))
less_each_stand limit n (a ∷ totals) m (x ∷ xs) ys t w q st sm sx h =
    let s = zip_step (λ (p : Fraction × Fraction). less_product limit p.0 m p.1) (a, x) (zip totals xs) ys h in
    let here = less_stands limit a m x s.0 (t 0) q (w 0) st.entries.0 sm sx.entries.0 s.2 in
    let rest = less_each_stand limit (length totals) totals m xs s.1 (λ i. t (suc i)) (λ i. w (suc i)) q (record { count = refl; entries = st.entries.1 }) sm (record { count = omega (arith, st.count, sx.count); entries = sx.entries.1 }) s.3 in
    subst (λ zs. Vector n zs (λ i. t i +Q neg_Q (q *Q w i))) s.4 (record { count = omega (arith, rest.count, st.count); entries = (here, rest.entries) })

pub greater_each_stand : (n : ℕ) (xs ys : List Fraction) (v w : Entries) → Vector n xs v → Vector n ys w → Vector n (greater_each xs ys) (λ i. greater (v i) (w i))
greater_each_stand n [] [] v w sx sy = record { count = sx.count; entries = tt }
greater_each_stand n [] (y ∷ ys) v w sx sy = absurd (omega (arith, sx.count, sy.count))
greater_each_stand n (x ∷ xs) [] v w sx sy = absurd (omega (arith, sx.count, sy.count))
greater_each_stand n (x ∷ xs) (y ∷ ys) v w sx sy =
    let rest = greater_each_stand (length xs) xs ys (λ i. v (suc i)) (λ i. w (suc i)) (record { count = refl; entries = sx.entries.1 }) (record { count = omega (arith, sx.count, sy.count); entries = sy.entries.1 }) in
    record { count = omega (arith, rest.count, sx.count); entries = (greater_stands x y (v 0) (w 0) sx.entries.0 sy.entries.0, rest.entries) }

pub at_least_zero_stand : (n : ℕ) (xs : List Fraction) (w : Entries) → Vector n xs w → Vector n (at_least_zero xs) (λ i. greater 0Q (w i))
at_least_zero_stand n [] w sx = record { count = sx.count; entries = tt }
at_least_zero_stand n (x ∷ xs) w sx =
    let rest = at_least_zero_stand (length xs) xs (λ i. w (suc i)) (record { count = refl; entries = sx.entries.1 }) in
    record { count = omega (arith, rest.count, sx.count); entries = (greater_stands (whole (pos 0)) x 0Q (w 0) zero_stands sx.entries.0, rest.entries) }

pub zeros_stand : (n : ℕ) → Vector n (replicate n (whole (pos 0))) (λ i. 0Q)
zeros_stand zero = record { count = refl; entries = tt }
zeros_stand (suc n) = let rest = zeros_stand n in record { count = omega (arith, rest.count); entries = (zero_stands, rest.entries) }

pub wholes_stand : (u : List ℤ) → Vector (length u) (map whole u) (λ i. whole_Q (get_or u i (pos 0)))
wholes_stand [] = record { count = refl; entries = tt }
wholes_stand (a ∷ u) = let rest = wholes_stand u in record { count = omega (arith, rest.count); entries = (whole_stands a, rest.entries) }

pub vector_as : (n : ℕ) (xs : List Fraction) (v w : Entries) → ((i : ℕ) → v i ≡ w i) → Vector n xs v → Vector n xs w
vector_as n xs v w e sx = record { count = sx.count; entries = stand_as xs v w e sx.entries }
