-- The program of a node is one, and in no direction does its objective rise without an end.
use Rattle.std.proofs.Common.{◌≡◌, ℕ, zero, suc, ◌+◌, ◌*◌, ◌≤◌, List, [], ◌∷◌, ◌++◌, length, map, replicate, take, drop, arith, ℤ, pos, ◌*ℤ◌, ◌≤ℤ◌, All, refl, ap, sym, ◌∙◌, subst}
use Rattle.std.specs.Int.{◌∣◌}
use Rattle.std.specs.List.{sum}
use Rattle.std.proofs.lemmas.Int.{ints}
use Rattle.std.proofs.lemmas.List.{length-map, length-append, length-replicate, take-append-drop, length-take-le, length-drop, map-append}
use Rattle.std.proofs.lemmas.List.Elements.{All-cons, All-head, All-nil, All-tail}
use Rattle.std.proofs.lemmas.List.Sums.{sum_by-cons}
use Rattle.std.proofs.Math.Nat.{mul-pos}
use Rattle.arithmetic.specs.Sums.{dot_ℤ}
use Rattle.exact_num.specs.Fraction.{Fraction, IsLowest, IsDefined, whole, plain_dot, AtMost, IsNotBelowZero}
use Rattle.exact_num.specs.CommonDenominator.{common_denominator, amounts_over, IsPart, AreParts}
use Rattle.exact_num.proofs.Fractions.{divides, common_positive, amount_is_exact}
use Rattle.exact_num.proofs.Values.{whole_is_lowest}
use Rattle.simplex_run.specs.Places.{at, fraction_zero}
use Rattle.simplex_run.specs.Program.{row}
use Rattle.clearing_model.specs.Legs.{FilledLeg}
use Rattle.clearing_model.specs.Tree.{Sign}
use Rattle.master_program.proofs.Matrix.{flat_count, RowsHold, rows_hold}
use Rattle.master_program.specs.Roles.{node_legs, Role, Idle, Covering, Free, Above, Below, role_in, values}
use Rattle.master_program.specs.Node.{covers_of, later_rows, rows_of, right_sides_of, state_cost, cover_amounts, minus_amount, costs_of, if_covering, node_program}
use Rattle.master_program.specs.NodeLaws.{NodeIsProgram, NodeIsBounded}
use Rattle.master_program.proofs.NodeShape.{rows_long, length-values}
use Rattle.master_program.proofs.NodeHolds.{HoldsAt, holds_at}
use Rattle.master_program.proofs.NodeObjective.{reduced_is_lowest, over_all, reduced_parts, dots_part, wholes, NoneBelow, nothing_earned}
use Rattle.master_program.proofs.Bounded.{flat_lowest, wholes_lowest}
use Rattle.arithmetic.proofs.Signed.{no_gain}
use Rattle.exact_num.proofs.Amounts.{amount_is_natural}

-- ---- it is a program
over_all_lowest : (D : ℕ) (cs : List ℤ) → 1 ≤ D → (j : ℕ) → IsLowest (at (over_all D cs) j)
over_all_lowest D [] p j = whole_is_lowest (pos 0)
over_all_lowest D (c ∷ cs) p zero = reduced_is_lowest c D p
over_all_lowest D (c ∷ cs) p (suc j) = over_all_lowest D cs p j

zeros_sign : (m j : ℕ) → pos 0 ≤ℤ (at (map whole (replicate m (pos 0))) j).numerator
zeros_sign zero j = omega (arith, ints)
zeros_sign (suc m) zero = omega (arith, ints)
zeros_sign (suc m) (suc j) = zeros_sign m j

right_sides_sign : (m j : ℕ) → pos 0 ≤ℤ (at (map whole (pos 1 ∷ replicate m (pos 0))) j).numerator
right_sides_sign m zero = omega (arith, ints)
right_sides_sign m (suc j) = zeros_sign m j

-- a list of amounts of the covering legs has one for each
amount_count : (role : Role) (v : List ℤ) (a : ℕ) (vs : List (List ℤ)) (amounts : List ℕ) → length amounts ≡ length vs → length (if_covering role a amounts) ≡ length (if_covering role v vs)
amount_count Covering v a vs amounts h = ap suc h
amount_count Idle v a vs amounts h = h
amount_count Free v a vs amounts h = h
amount_count Above v a vs amounts h = h
amount_count Below v a vs amounts h = h

pub amounts_count : (legs : List FilledLeg) (signs : List Sign) → length (cover_amounts legs signs) ≡ length (covers_of (node_legs legs signs))
amounts_count [] signs = refl
amounts_count (leg ∷ legs) [] = refl
amounts_count (leg ∷ legs) (sign ∷ signs) =
    amount_count (role_in leg sign) leg.option leg.amount (covers_of (node_legs legs signs)) (cover_amounts legs signs) (amounts_count legs signs)

pub costs_count : (n : ℕ) (legs : List FilledLeg) (L : ℤ) (signs : List Sign) → length (costs_of n legs L signs) ≡ suc n + length (covers_of (node_legs legs signs))
costs_count n legs L signs =
    let f : ℕ → ℤ = state_cost legs L signs in
    let amounts : List ℕ = cover_amounts legs signs in
    omega (arith, length-append (values f (suc n)) (map minus_amount amounts), length-values f (suc n), length-map amounts minus_amount, amounts_count legs signs)

pub right_sides_count : (m : ℕ) → length (pos 1 ∷ replicate m (pos 0)) ≡ suc m
right_sides_count m = ap suc (length-replicate m (pos 0))

pub node_is_program : NodeIsProgram
node_is_program n D legs L signs one =
    let node = node_legs legs signs in
    let rows = rows_of n node in
    record {
      coefficients = record { count = flat_count (suc n + length (covers_of node)) rows (rows_long n node); lowest = flat_lowest rows };
      right_sides = record {
        count = length-map (right_sides_of n node) whole ∙ right_sides_count (length (later_rows n node));
        lowest = wholes_lowest (right_sides_of n node);
        sign = right_sides_sign (length (later_rows n node));
      };
      costs = record { count = length-map (costs_of n legs L signs) (λ c. _) ∙ costs_count n legs L signs; lowest = over_all_lowest D (costs_of n legs L signs) one };
    }

-- ---- fractions that are not below 0, over one denominator
pub all_at : (P : Fraction → Type 0) (fs : List Fraction) → ((j : ℕ) → P (at fs j)) → All P fs
all_at P [] h = All-nil P
all_at P (f ∷ fs) h = All-cons P f fs (h 0) (all_at P fs (λ j. h (suc j)))

pub all_defined : (fs : List Fraction) → ((j : ℕ) → IsLowest (at fs j)) → All IsDefined fs
all_defined fs h = all_at IsDefined fs (λ j. (h j).positive)

pub amounts_parts : (F : ℕ) (fs : List Fraction) → ((j : ℕ) → IsLowest (at fs j)) → ((j : ℕ) → IsNotBelowZero (at fs j)) → All (λ (f : Fraction). f.denominator ∣ F) fs
    → AreParts F fs (wholes (amounts_over F fs))
amounts_parts F [] low sign h = tt
amounts_parts F (f ∷ fs) low sign h = (
  subst (λ a. IsPart F f a) (amount_is_natural F f (sign 0)) ((low 0).positive, amount_is_exact F f (All-head (λ (g : Fraction). g.denominator ∣ F) f fs h)),
  amounts_parts F fs (λ j. low (suc j)) (λ j. sign (suc j)) (All-tail (λ (g : Fraction). g.denominator ∣ F) f fs h),
)

pub none_below : (z : List ℕ) → NoneBelow (wholes z)
none_below [] = tt
none_below (x ∷ z) = (omega (arith, ints), none_below z)

-- ---- it is bounded
pub ones_sum : (m : ℕ) (z : List ℕ) → length z ≡ m → dot_ℤ (replicate m (pos 1)) (wholes z) ≡ pos (sum z)
ones_sum zero [] h = refl
ones_sum zero (x ∷ z) h = absurd (omega (arith, h))
ones_sum (suc m) [] h = absurd (omega (arith, h))
ones_sum (suc m) (x ∷ z) h = omega (arith, ints, ones_sum m z (omega (arith, h)), sum_by-cons (λ (k : ℕ). k) x z)

zero_at : (m i : ℕ) → at (map whole (replicate m (pos 0))) i ≡ fraction_zero
zero_at zero i = refl
zero_at (suc m) zero = refl
zero_at (suc m) (suc i) = zero_at m i

no_sum : (s F : ℕ) → pos s ≤ℤ (pos 0 *ℤ pos F) → s ≡ 0
no_sum s F h = omega (arith, ints, h)

pub node_is_bounded : NodeIsBounded
node_is_bounded n D legs L signs d one h =
    let node = node_legs legs signs in
    let k = length (covers_of node) in
    let rows = rows_of n node in
    let p = node_program n D legs L signs in
    let F = common_denominator d in
    let all : List ℕ = amounts_over F d in
    let z : List ℕ = take (suc n) all in
    let u : List ℕ = drop (suc n) all in
    let count : length all ≡ suc n + k = length-map d _ ∙ h.sign.count in
    let z_count : length z ≡ suc n = length-take-le (suc n) all (omega (arith, count)) in
    let u_count : length (wholes u) ≡ k = length-map u pos ∙ length-drop (suc n) all ∙ omega (arith, count) in
    let Z : List ℤ = wholes z in
    let U : List ℤ = wholes u in
    let whole_list : wholes all ≡ Z ++ U = ap wholes (sym (take-append-drop (suc n) all)) ∙ map-append pos z u in
    let parts : AreParts F d (Z ++ U) = subst (λ X. AreParts F d X) whole_list (amounts_parts F d h.sign.lowest h.sign.sign (divides d)) in
    let zeros : List ℤ = replicate (length rows) (pos 0) in
    let held : RowsHold F rows zeros (Z ++ U) =
    rows_hold (suc n + k) F rows zeros (Z ++ U) d (rows_long n node) (length-replicate (length rows) (pos 0)) parts
    (λ i q. subst (λ v. AtMost (plain_dot (row p i) d) v) (sym (zero_at (length rows) i)) (h.holds i q)) in
    let at_state : HoldsAt n F node (pos 0) Z U = holds_at n F node (pos 0) Z U (length-map z pos ∙ z_count) u_count held in
    let none : sum z ≡ 0 = no_sum (sum z) F (subst (λ v. v ≤ℤ (pos 0 *ℤ pos F)) (ones_sum (suc n) z z_count) at_state.size) in
    let low = nothing_earned n legs L signs z U z_count none (none_below u) in
    let costs : List ℤ = costs_of n legs L signs in
    let worth = dots_part D F (over_all D costs) d costs (Z ++ U) (reduced_parts D costs one) parts in
    let F1 : 1 ≤ F = common_positive d (all_defined d h.sign.lowest) in
    no_gain (plain_dot p.costs d).numerator (dot_ℤ costs (Z ++ U)) (D * F) (plain_dot p.costs d).denominator (mul-pos one F1) worth.1 low h.earns
