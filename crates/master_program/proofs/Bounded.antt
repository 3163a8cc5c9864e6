-- The master program is one, and in no direction does its objective rise without an end.
use Rattle.std.proofs.Common.{◌≡◌, ℕ, zero, suc, ◌+◌, ◌*◌, ◌≤◌, List, [], ◌∷◌, ◌++◌, length, map, replicate, arith, ℤ, pos, negsuc, ◌*ℤ◌, ◌≤ℤ◌, refl, ap, sym, ◌∙◌, subst}
use Rattle.std.proofs.lemmas.Int.{ints}
use Rattle.std.proofs.lemmas.List.{length-map, length-append, length-replicate}
use Rattle.std.proofs.Math.Nat.{mul-pos}
use Rattle.arithmetic.specs.Sums.{dot_ℤ}
use Rattle.arithmetic.proofs.Products.{products}
use Rattle.exact_num.specs.Fraction.{Fraction, IsLowest, IsDefined, whole, plain_dot, AtMost}
use Rattle.exact_num.specs.CommonDenominator.{AreParts}
use Rattle.exact_num.proofs.Values.{whole_is_lowest}
use Rattle.exact_num.proofs.Ratios.{dot_part, sign_part, more_parts}
use Rattle.simplex_run.specs.Places.{at, fraction_zero}
use Rattle.simplex_run.specs.Program.{row}
use Rattle.form.specs.declared.orders.Order.{Order}
use Rattle.master_program.specs.Master.{quantity_rows, state_row, rows_of, right_sides_of, costs_of, order_cost, plain_master}
use Rattle.master_program.specs.Laws.{MasterIsProgram, MasterIsBounded}
use Rattle.master_program.proofs.Matrix.{RowsHold, rows_hold, rows_split, flat, flat_count}
use Rattle.master_program.proofs.Sums.{dot-replicate, rows_shift, quantity_rows_count, rows_count, rows_long, right_sides_count, one_more}
use Rattle.arithmetic.proofs.Signed.{no_gain, factor_out}
use Rattle.exact_num.proofs.Amounts.{parts_count}

-- ---- it is a program
pub wholes_lowest : (xs : List ℤ) (j : ℕ) → IsLowest (at (map whole xs) j)
wholes_lowest [] j = whole_is_lowest (pos 0)
wholes_lowest (x ∷ xs) zero = whole_is_lowest x
wholes_lowest (x ∷ xs) (suc j) = wholes_lowest xs j

pub lowest-append : (r : List ℤ) (rest : List Fraction) → ((j : ℕ) → IsLowest (at rest j)) → (j : ℕ) → IsLowest (at (map whole r ++ rest) j)
lowest-append [] rest h j = h j
lowest-append (x ∷ r) rest h zero = whole_is_lowest x
lowest-append (x ∷ r) rest h (suc j) = lowest-append r rest h j

pub flat_lowest : (rows : List (List ℤ)) (j : ℕ) → IsLowest (at (flat rows) j)
flat_lowest [] j = whole_is_lowest (pos 0)
flat_lowest (r ∷ rows) j = lowest-append r (flat rows) (flat_lowest rows) j

quantities_sign : (orders : List Order) (m j : ℕ) → pos 0 ≤ℤ (at (map whole (map (λ (o : Order). pos o.quantity) orders ++ replicate m (pos 0))) j).numerator
quantities_sign [] zero j = omega (arith, ints)
quantities_sign [] (suc m) zero = omega (arith, ints)
quantities_sign [] (suc m) (suc j) = quantities_sign [] m j
quantities_sign (o ∷ os) m zero = omega (arith, ints)
quantities_sign (o ∷ os) m (suc j) = quantities_sign os m j

pub master_is_program : MasterIsProgram
master_is_program first orders states =
    let rows = rows_of first orders states in
    let n = length orders + 1 in
    record {
      coefficients = record { count = flat_count n rows (rows_long first orders states) ∙ ap (λ v. v * n) (rows_count first orders states); lowest = flat_lowest rows };
      right_sides = record { count = length-map (right_sides_of orders states) whole ∙ right_sides_count orders states; lowest = wholes_lowest (right_sides_of orders states); sign = quantities_sign orders (length states) };
      costs = record { count = length-map (costs_of first orders) whole ∙ one_more (order_cost first) (negsuc 0) orders; lowest = wholes_lowest (costs_of first orders) };
    }

-- ---- it is bounded
-- fractions over one denominator
parts_of : (d : List Fraction) → ((j : ℕ) → IsDefined (at d j)) → (F : ℕ) × (1 ≤ F) × (X : List ℤ) × AreParts F d X
parts_of [] h = (1, omega arith, [], tt)
parts_of (f ∷ fs) h =
    let rest = parts_of fs (λ j. h (suc j)) in
    (f.denominator * rest.0, mul-pos (h 0) rest.1, (f.numerator *ℤ pos rest.0) ∷ map (λ (x : ℤ). x *ℤ pos f.denominator) rest.2, ((h 0, factor_out f.numerator f.denominator rest.0), more_parts rest.0 f.denominator fs rest.2 rest.3))

abbrev NoneBelow : List ℤ → Type 0
NoneBelow [] = Unit {0}
NoneBelow (x ∷ X) = (pos 0 ≤ℤ x) × NoneBelow X

none_below : (F : ℕ) (fs : List Fraction) (X : List ℤ) → AreParts F fs X → ((j : ℕ) → pos 0 ≤ℤ (at fs j).numerator) → NoneBelow X
none_below F [] [] h s = tt
none_below F [] (x ∷ X) h s = absurd h
none_below F (f ∷ fs) [] h s = absurd h
none_below F (f ∷ fs) (x ∷ X) h s = (sign_part F f x h.0 (s 0), none_below F fs X h.1 (λ j. s (suc j)))

zeros_at : (k m i : ℕ) → at (map whole (replicate k (pos 0) ++ replicate m (pos 0))) i ≡ fraction_zero
zeros_at zero zero i = refl
zeros_at zero (suc m) zero = refl
zeros_at zero (suc m) (suc i) = zeros_at zero m i
zeros_at (suc k) m zero = refl
zeros_at (suc k) m (suc i) = zeros_at k m i

-- where fills are at most 0 and not below, what is earned is the slack with a minus
earned : (F : ℕ) (f : Order → ℤ) (orders : List Order) (X : List ℤ) → length X ≡ length orders + 1 → NoneBelow X → RowsHold F (quantity_rows (length orders)) (replicate (length orders) (pos 0)) X
    → dot_ℤ (map f orders ++ (negsuc 0 ∷ [])) X ≤ℤ pos 0
earned F f [] [] len s h = absurd (omega (arith, len))
earned F f [] (x ∷ []) len s h = omega (arith, ints, s.0)
earned F f [] (x ∷ y ∷ X) len s h = absurd (omega (arith, len))
earned F f (o ∷ os) [] len s h = absurd (omega (arith, len))
earned F f (o ∷ os) (x ∷ X) len s h =
    let rest = earned F f os X (omega (arith, len)) s.1 (rows_shift F (quantity_rows (length os)) (replicate (length os) (pos 0)) x X h.1) in
    let none : x ≡ pos 0 = omega (arith, ints, s.0, h.0, dot-replicate (length os + 1) X) in
    omega (arith, ints, products, rest, ap (λ w. f o *ℤ w) none)

pub master_is_bounded : MasterIsBounded
master_is_bounded first orders states d h =
    let k = length orders in
    let c = parts_of d (λ j. (h.sign.lowest j).positive) in
    let F : ℕ = c.0 in
    let X : List ℤ = c.2 in
    let parts : AreParts F d X = c.3 in
    let rows = rows_of first orders states in
    let bs : List ℤ = replicate k (pos 0) ++ replicate (length states) (pos 0) in
    let count : length bs ≡ length rows =
    length-append (replicate k (pos 0)) (replicate (length states) (pos 0)) ∙ ap (λ v. v + length (replicate (length states) (pos 0))) (length-replicate k (pos 0)) ∙ ap (λ v. k + v) (length-replicate (length states) (pos 0)) ∙ sym (rows_count first orders states) in
    let held = rows_hold (k + 1) F rows bs X d (rows_long first orders states) count parts
    (λ i q. subst (λ v. AtMost (plain_dot (row (plain_master first orders states) i) d) v) (sym (zeros_at k (length states) i)) (h.holds i (omega (arith, q, rows_count first orders states)))) in
    let split = rows_split F (quantity_rows k) (map (state_row first orders) states) (replicate k (pos 0)) (replicate (length states) (pos 0)) X (quantity_rows_count k ∙ sym (length-replicate k (pos 0))) held in
    let low = earned F (order_cost first) orders X (parts_count F d X parts ∙ h.sign.count) (none_below F d X parts h.sign.sign) split.0 in
    let worth = dot_part F (costs_of first orders) d X parts in
    no_gain (plain_dot (map whole (costs_of first orders)) d).numerator (dot_ℤ (costs_of first orders) X) F (plain_dot (map whole (costs_of first orders)) d).denominator c.1 worth.1 low h.earns
