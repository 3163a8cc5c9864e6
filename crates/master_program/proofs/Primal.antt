-- What an optimum of the master program says of fills, surplus and states.
use Rattle.std.proofs.Common.{◌≡◌, ℕ, suc, ◌+◌, ◌*◌, ◌≤◌, ◌<◌, List, [], ◌∷◌, ◌++◌, length, map, replicate, zip, arith, ℤ, pos, ◌+ℤ◌, ◌-ℤ◌, ◌*ℤ◌, ◌≤ℤ◌, All, refl, ap, sym, ◌∙◌}
use Rattle.std.proofs.lemmas.Int.{ints}
use Rattle.std.proofs.lemmas.List.{length-map}
use Rattle.std.proofs.lemmas.List.Elements.{All-cons, All-head, All-nil, All-tail}
use Rattle.std.specs.Int.{◌∣◌}
use Rattle.arithmetic.specs.Sums.{dot_ℤ}
use Rattle.arithmetic.proofs.Integers.{*ℤ_mono, *ℤ_cancel_le}
use Rattle.arithmetic.proofs.Products.{products}
use Rattle.exact_num.specs.Fraction.{Fraction, IsDefined, IsLowest, whole, plain_dot, AtMost, IsNotBelowZero}
use Rattle.exact_num.specs.CommonDenominator.{common_denominator, amount_over, signed_amounts_over, IsPart, AreParts}
use Rattle.exact_num.proofs.Fractions.{divides, common_positive, amount_is_exact}
use Rattle.exact_num.proofs.Ratios.{dot_part, same_part, sign_part, append_parts}
use Rattle.exact_num.proofs.Tested.{lowest_are_defined}
use Rattle.simplex_run.specs.Places.{at}
use Rattle.simplex_run.specs.Program.{row}
use Rattle.form.specs.declared.orders.Order.{Order}
use Rattle.form.specs.Vector.{scale_of}
use Rattle.clearing_model.specs.Clearing.{signed_net, signed_premium}
use Rattle.clearing_model.specs.Certificate.{IsPremiumLessLiability, IsFill, AreFractionFills}
use Rattle.master_program.specs.Master.{quantity_rows, state_row, rows_of, right_sides_of, costs_of, plain_master}
use Rattle.master_program.proofs.Matrix.{RowsHold, rows_hold, rows_split}
use Rattle.master_program.proofs.Sums.{row_sum, cost_sum, AreWithin, quantities_hold, quantity_rows_count, rows_count, rows_long, right_sides_count}
use Rattle.master_program.specs.Certified.{IsSolved, IsEnoughAt}

-- ---- lists of fractions
pub all_first : (P : Fraction → Type 0) (fs gs : List Fraction) → ((j : ℕ) → P (at (fs ++ gs) j)) → All P fs
all_first P [] gs h = All-nil P
all_first P (f ∷ fs) gs h = All-cons P f fs (h 0) (all_first P fs gs (λ j. h (suc j)))

pub all_later : (P : Fraction → Type 0) (fs gs : List Fraction) → ((j : ℕ) → P (at (fs ++ gs) j)) → All P gs
all_later P [] [] h = All-nil P
all_later P [] (g ∷ gs) h = All-cons P g gs (h 0) (all_later P [] gs (λ j. h (suc j)))
all_later P (f ∷ fs) gs h = all_later P fs gs (λ j. h (suc j))

-- each fraction is its amount over what its denominator divides
pub amounts_are_parts : (F : ℕ) (fs : List Fraction) → All IsDefined fs → All (λ f. f.denominator ∣ F) fs → AreParts F fs (signed_amounts_over F fs)
amounts_are_parts F [] defined h = tt
amounts_are_parts F (f ∷ fs) defined h = (
  (All-head IsDefined f fs defined, amount_is_exact F f (All-head (λ g. g.denominator ∣ F) f fs h)),
  amounts_are_parts F fs (All-tail IsDefined f fs defined) (All-tail (λ g. g.denominator ∣ F) f fs h),
)

-- ---- the program's rows
program_holds : (first : List ℕ) (orders : List Order) (states : List (List ℕ)) (F : ℕ) (x : List Fraction) (X : List ℤ) → AreParts F x X
    → ((i : ℕ) → i < length orders + length states → AtMost (plain_dot (row (plain_master first orders states) i) x) (at (map whole (right_sides_of orders states)) i))
    → RowsHold F (quantity_rows (length orders)) (map (λ (o : Order). pos o.quantity) orders) X × RowsHold F (map (state_row first orders) states) (replicate (length states) (pos 0)) X
program_holds first orders states F x X parts h =
    rows_split F (quantity_rows (length orders)) (map (state_row first orders) states) (map (λ (o : Order). pos o.quantity) orders) (replicate (length states) (pos 0)) X
    (quantity_rows_count (length orders) ∙ sym (length-map orders (λ (o : Order). pos o.quantity)))
    (rows_hold (length orders + 1) F (rows_of first orders states) (right_sides_of orders states) X x (rows_long first orders states) (right_sides_count orders states ∙ sym (rows_count first orders states)) parts
    (λ i q. h i (omega (arith, q, rows_count first orders states))))

-- ---- the fills
fill_cross : (n x : ℤ) (F d q : ℕ) → 1 ≤ F → n *ℤ pos F ≡ x *ℤ pos d → x ≤ℤ (pos q *ℤ pos F) → n ≤ℤ pos (q * d)
fill_cross n x F d q one h k = *ℤ_cancel_le F n (pos (q * d)) one (omega (arith, ints, products, h, *ℤ_mono d x (pos q *ℤ pos F) k))

fills_fit : (F : ℕ) (orders : List Order) (fills : List Fraction) (X : List ℤ) → 1 ≤ F → AreParts F fills X → All IsNotBelowZero fills → AreWithin F orders X → All IsFill (zip orders fills)
fills_fit F [] fills X one parts signs h = λ k d lt. absurd (omega arith)
fills_fit F (o ∷ os) [] X one parts signs h = λ k d lt. absurd (omega arith)
fills_fit F (o ∷ os) (f ∷ fs) [] one parts signs h = absurd h
fills_fit F (o ∷ os) (f ∷ fs) (x ∷ X) one parts signs h =
    All-cons IsFill (o, f) (zip os fs) (parts.0.0, All-head IsNotBelowZero f fs signs, fill_cross f.numerator x F f.denominator o.quantity one parts.0.1 h.0)
    (fills_fit F os fs X one parts.1 (All-tail IsNotBelowZero f fs signs) h.1)

-- ---- the states
net_cross : (N M Lo s v : ℤ) (t F : ℕ) → s ≡ Lo -ℤ M → v ≡ N -ℤ (pos t *ℤ (M +ℤ s)) → v ≤ℤ (pos 0 *ℤ pos F) → N ≤ℤ (Lo *ℤ pos t)
net_cross N M Lo s v t F e d h = omega (arith, ints, products, d, h, ap (λ w. pos t *ℤ w) e)

abbrev Enough : List Order → List ℤ → ℤ → List ℕ → Type 0
Enough orders X Lo z = signed_net (zip orders X) z ≤ℤ (Lo *ℤ pos (scale_of z))

states_hold : (first : List ℕ) (orders : List Order) (X : List ℤ) (Lo s : ℤ) (D : ℕ) (states : List (List ℕ)) → length X ≡ length orders → s ≡ Lo -ℤ signed_net (zip orders X) first
    → RowsHold D (map (state_row first orders) states) (replicate (length states) (pos 0)) (X ++ (s ∷ []))
    → All (Enough orders X Lo) states
states_hold first orders X Lo s D [] len e h = All-nil (Enough orders X Lo)
states_hold first orders X Lo s D (z ∷ states) len e h =
    All-cons (Enough orders X Lo) z states
    (net_cross (signed_net (zip orders X) z) (signed_net (zip orders X) first) Lo s (dot_ℤ (state_row first orders z) (X ++ (s ∷ []))) (scale_of z) D e (row_sum first z orders X s len) h.0)
    (states_hold first orders X Lo s D states len e h.1)

first_cross : (N Lo : ℤ) (t : ℕ) → t ≡ 1 → pos 0 ≤ℤ (Lo -ℤ N) → N ≤ℤ (Lo *ℤ pos t)
first_cross N Lo t e h = omega (arith, ints, products, h, ap (λ (n : ℕ). Lo *ℤ pos n) e)

surplus_cross : (P M Lo s v : ℤ) → s ≡ Lo -ℤ M → v ≡ P -ℤ (M +ℤ s) → v ≡ P -ℤ Lo
surplus_cross P M Lo s v e h = omega (arith, ints, e, h)

pub record IsFeasible (orders : List Order) (states : List (List ℕ)) (fills : List Fraction) (L S : Fraction) : Type 0 where
  pub fills_are : AreFractionFills orders fills
  pub earned : IsPremiumLessLiability orders fills L S
  pub enough : All (IsEnoughAt orders fills L) states

pub primal : (first : List ℕ) (orders : List Order) (states : List (List ℕ)) (fills : List Fraction) (slack L S : Fraction) (duals weights reduced : List Fraction) (w : Fraction)
    → scale_of first ≡ 1
    → IsSolved first orders states fills slack L S duals weights reduced w
    → IsFeasible orders (first ∷ states) fills L S
primal first orders states fills slack L S duals weights reduced w one h =
    let D = common_denominator (L ∷ fills) in
    let X : List ℤ = signed_amounts_over D fills in
    let Lo : ℤ = amount_over D L in
    let s : ℤ = Lo -ℤ signed_net (zip orders X) first in
    let x : List Fraction = fills ++ (slack ∷ []) in
    let lows = h.optimum.x_sign.lowest in
    let defined : All IsDefined fills = lowest_are_defined fills (all_first IsLowest fills (slack ∷ []) lows) in
    let slack_low : IsLowest slack = All-head IsLowest slack [] (all_later IsLowest fills (slack ∷ []) lows) in
    let slack_sign = All-head IsNotBelowZero slack [] (all_later IsNotBelowZero fills (slack ∷ []) h.optimum.x_sign.sign) in
    let D1 : 1 ≤ D = common_positive (L ∷ fills) (All-cons IsDefined L fills h.liability_defined defined) in
    let fill_parts : AreParts D fills X = amounts_are_parts D fills defined (All-tail (λ g. g.denominator ∣ D) L fills (divides (L ∷ fills))) in
    let slack_part : IsPart D slack s = (slack_low.positive, h.liability_is) in
    let parts : AreParts D x (X ++ (s ∷ [])) = append_parts D fills (slack ∷ []) X (s ∷ []) fill_parts (slack_part, tt) in
    let len : length X ≡ length orders = length-map fills (amount_over D) ∙ h.fills_count in
    let rows = program_holds first orders states D x (X ++ (s ∷ [])) parts h.optimum.holds in
    let within = quantities_hold D orders X (s ∷ []) len rows.0 in
    let costs = costs_of first orders in
    let worth : IsPart D S (dot_ℤ costs (X ++ (s ∷ []))) =
    same_part D S (plain_dot (map whole costs) x) (dot_ℤ costs (X ++ (s ∷ []))) h.optimum.value_lowest.positive (sym h.optimum.earns) (dot_part D costs x (X ++ (s ∷ [])) parts) in
    let earns : dot_ℤ costs (X ++ (s ∷ [])) ≡ signed_premium (zip orders X) -ℤ Lo =
    surplus_cross (signed_premium (zip orders X)) (signed_net (zip orders X) first) Lo s (dot_ℤ costs (X ++ (s ∷ []))) refl (cost_sum first orders X s len) in
    record {
      fills_are = (h.fills_count, fills_fit D orders fills X D1 fill_parts (all_first IsNotBelowZero fills (slack ∷ []) h.optimum.x_sign.sign) within);
      earned = worth.1 ∙ ap (λ v. v *ℤ pos S.denominator) earns;
      enough = All-cons (IsEnoughAt orders fills L) first states
          (first_cross (signed_net (zip orders X) first) Lo (scale_of first) one (sign_part D slack s slack_part slack_sign))
          (states_hold first orders X Lo s D states len refl rows.1);
    }
