-- Where each step fits, the steps give the program of a node in whole numbers.
use Rattle.std.proofs.Common.{◌≡◌, ℕ, zero, suc, ◌+◌, ◌*◌, ◌/◌, ◌≤◌, List, [], ◌∷◌, ◌++◌, length, map, replicate, get_or, arith, ℤ, pos, neg_ℤ, ◌+ℤ◌, ◌-ℤ◌, ◌*ℤ◌, All, refl, ap, sym, ◌∙◌, subst}
use Rattle.std.specs.Prelude.{Result, Ok}
use Rattle.std.proofs.lemmas.Int.{ints}
use Rattle.std.proofs.lemmas.List.{map-append}
use Rattle.std.proofs.lemmas.Simd.{map-map}
use Rattle.std.proofs.lemmas.Grind.{flat_map-append}
use Rattle.std.proofs.lemmas.List.Elements.{All-head, All-tail}
use Rattle.std.proofs.Math.IntN.{+ℤ_assoc}
use Rattle.arithmetic.specs.Sums.{positive_part}
use Rattle.arithmetic.proofs.GcdLaws.{pos_of_quotient}
use Rattle.arithmetic.proofs.Products.{products}
use Rattle.exact_num.specs.declared.misfit.Wide.{Wide}
use Rattle.exact_num.specs.Fraction.{Fraction, whole, negated, reduced}
use Rattle.exact_num.specs.CommonDenominator.{amount_over}
use Rattle.exact_num.specs.Fits.{mul_of, whole_of, after}
use Rattle.exact_num.proofs.After.{after_value}
use Rattle.exact_num.proofs.Fractions.{same_from, amount_is_exact}
use Rattle.exact_num.proofs.Order.{lowest_is_unique}
use Rattle.simplex_run.specs.Places.{fraction_zero}
use Rattle.simplex_run.specs.Program.{LinearProgram}
use Rattle.exact_num.specs.Steps.{plus_product}
use Rattle.clearing_model.specs.Tree.{Sign, liability_at}
use Rattle.exact_num.proofs.LowestRatios.{IsLowestRatio, product_stands, sum_stands, negated_stands, plus_stands, whole_stands}
use Rattle.master_program.specs.Master.{map_steps}
use Rattle.master_program.proofs.Matrix.{flat}
use Rattle.master_program.proofs.Steps.{Gives, gives_after, whole_gives, zeros_are, all_give, gives_ok, program_of}
use Rattle.master_program.specs.Roles.{Role, Idle, Covering, Free, Above, Below, NodeLeg, role_of, role_in, node_legs, values, entries}
use Rattle.master_program.specs.Node.{if_covering, covers_of, signed_of, with_sign, with_zeros, minus_units, beside, size_row, later_rows, rows_of, right_sides_of, earning, earned_at, state_cost, cover_amounts, minus_amount, costs_of}
use Rattle.sign_tree.specs.Legs.{FractionLeg}
use Rattle.sign_tree.specs.Walk.{less_liability}
use Rattle.master_program.specs.NodeSteps.{counted_role, counted_node, leg_over, legs_over, leg_fill_steps, add_earned, add_by_role, add_all_earned, state_cost_steps, covering_legs, cover_cost_steps, negated_of, with_row, cover_rows_steps, signed_row_steps, signed_rows_steps, node_steps}
use Rattle.master_program.specs.NodeLaws.{IsOver, IsFillOver, StepsGiveNode}
use Rattle.master_program.proofs.NodeTests.{filled_is}
use Rattle.master_program.proofs.NodeShape.{later_count}
use Rattle.master_program.proofs.NodeObjective.{reduced_is_lowest, reduced_part}
use Rattle.exact_num.proofs.Amounts.{amount_is_natural}
use Rattle.arithmetic.proofs.Integers.{plus_negative}

map-values : {A B : Type 0} (g : A → B) (f : ℕ → A) (m : ℕ) → map g (values f m) ≡ values (λ i. g (f i)) m
map-values g f zero = refl
map-values g f (suc m) = ap (λ l. g (f 0) ∷ l) (map-values g (λ i. f (suc i)) m)

-- ---- values over D
-- what stands for x / D is that in lowest terms
stands_reduced : (f : Fraction) (x : ℤ) (D : ℕ) → 1 ≤ D → IsLowestRatio f x D → f ≡ reduced x D
stands_reduced f x D one st =
    let r = reduced_part x D one in
    lowest_is_unique f (reduced x D) st.lowest (reduced_is_lowest x D one) (same_from f (reduced x D) x D one st.ratio r.1)

abbrev amount_of : ℕ → FractionLeg → ℕ
amount_of D leg = positive_part (amount_over D leg.fill)

fill_is : (D : ℕ) (leg : FractionLeg) → IsFillOver D leg → IsLowestRatio leg.fill (pos (amount_of D leg)) D
fill_is D leg h =
    subst (λ a. IsLowestRatio leg.fill a D) (amount_is_natural D leg.fill h.1) (record { lowest = h.0.lowest; ratio = amount_is_exact D leg.fill h.0.divides })

-- the role of a leg is that of its amount
role_is : (D : ℕ) (leg : FractionLeg) (sign : Sign) → 1 ≤ D → IsFillOver D leg → counted_role leg sign ≡ role_in (leg_over D leg) sign
role_is D leg sign one h =
    ap (λ b. role_of b leg.exposure sign) (filled_is leg.fill.numerator (D / leg.fill.denominator) leg.size (pos_of_quotient D leg.fill.denominator one h.0.lowest.positive h.0.divides))

pub node_is : (D : ℕ) (legs : List FractionLeg) (signs : List Sign) → 1 ≤ D → All (IsFillOver D) legs → counted_node legs signs ≡ node_legs (legs_over D legs) signs
node_is D [] signs one h = refl
node_is D (leg ∷ legs) [] one h = refl
node_is D (leg ∷ legs) (sign ∷ signs) one h =
    let leg_of : Role → NodeLeg = λ role. record { role = role; option = leg.option } in
    ap (λ role. leg_of role ∷ counted_node legs signs) (role_is D leg sign one (All-head (IsFillOver D) leg legs h))
    ∙ ap (λ l. leg_of (role_in (leg_over D leg) sign) ∷ l) (node_is D legs signs one (All-tail (IsFillOver D) leg legs h))

-- ---- costs of states
leg_fill_stands : (limit D a : ℕ) (leg : FractionLeg) (s : Fraction) → IsLowestRatio leg.fill (pos a) D → leg_fill_steps limit leg ≡ Ok s → IsLowestRatio s (pos (a * leg.size)) D
unfolding leg_fill_steps
leg_fill_stands limit D a leg s st h =
    let f = after_value (whole_of limit (pos leg.size)) (λ size. mul_of limit leg.fill size) s h in
    let size : f.value ≡ whole (pos leg.size) = whole_gives limit (pos leg.size) f.value f.first in
    product_stands limit leg.fill s (pos leg.size) (pos a) D st (subst (λ v. mul_of limit leg.fill v ≡ Ok s) size f.rest)

earned_stands : (limit D a : ℕ) (total : Fraction) (leg : FractionLeg) (x : ℤ) (s : Fraction) (t : ℤ) → IsLowestRatio total t D → IsLowestRatio leg.fill (pos a) D
    → add_earned limit total leg x ≡ Ok s → IsLowestRatio s (t +ℤ (pos (a * leg.size) *ℤ x)) D
unfolding add_earned
earned_stands limit D a total leg x s t st fill h =
    let f = after_value (leg_fill_steps limit leg) (λ fill. after (whole_of limit x) (λ entry. plus_product limit total fill entry)) s h in
    let g = after_value (whole_of limit x) (λ entry. plus_product limit total f.value entry) s f.rest in
    let entry : g.value ≡ whole x = whole_gives limit x g.value g.first in
    plus_stands limit total f.value s x t (pos (a * leg.size)) D st (leg_fill_stands limit D a leg f.value fill f.first)
    (subst (λ v. plus_product limit total f.value v ≡ Ok s) entry g.rest)

abbrev ok_of : Fraction → Result Fraction Wide
ok_of f = Ok f

pub as_before : (total s : Fraction) (t : ℤ) (D : ℕ) → IsLowestRatio total t D → ok_of total ≡ Ok s → IsLowestRatio s (t +ℤ pos 0) D
as_before total s t D st h =
    let same : total ≡ s = cc in
    let none : t ≡ t +ℤ pos 0 = omega (arith, ints) in
    subst (λ v. IsLowestRatio s v D) none (subst (λ v. IsLowestRatio v t D) same st)

turn_round : (t y x : ℤ) → t +ℤ (y *ℤ x) ≡ t +ℤ (x *ℤ y)
turn_round t y x = omega (arith, ints, products)

role_stands : (limit D a : ℕ) (total : Fraction) (role : Role) (leg : FractionLeg) (x : ℤ) (s : Fraction) (t : ℤ) → IsLowestRatio total t D → IsLowestRatio leg.fill (pos a) D
    → add_by_role limit total role leg x ≡ Ok s → IsLowestRatio s (t +ℤ earning role (a * leg.size) x) D
unfolding add_by_role
role_stands limit D a total Free leg x s t st fill h =
    subst (λ v. IsLowestRatio s v D) (turn_round t (pos (a * leg.size)) (pos (positive_part x))) (earned_stands limit D a total leg (pos (positive_part x)) s t st fill h)
role_stands limit D a total Above leg x s t st fill h =
    subst (λ v. IsLowestRatio s v D) (turn_round t (pos (a * leg.size)) x) (earned_stands limit D a total leg x s t st fill h)
role_stands limit D a total Below leg x s t st fill h = as_before total s t D st h
role_stands limit D a total Covering leg x s t st fill h = as_before total s t D st h
role_stands limit D a total Idle leg x s t st fill h = as_before total s t D st h

all_earned_stands : (limit D i : ℕ) (legs : List FractionLeg) (signs : List Sign) (total s : Fraction) (t : ℤ) → 1 ≤ D → All (IsFillOver D) legs → IsLowestRatio total t D
    → add_all_earned limit total i legs signs ≡ Ok s → IsLowestRatio s (t +ℤ earned_at i (legs_over D legs) signs) D
unfolding add_all_earned
all_earned_stands limit D i [] signs total s t one h st e = as_before total s t D st e
all_earned_stands limit D i (leg ∷ legs) [] total s t one h st e = as_before total s t D st e
all_earned_stands limit D i (leg ∷ legs) (sign ∷ signs) total s t one h st e =
    let x : ℤ = get_or leg.option i (pos 0) in
    let over = All-head (IsFillOver D) leg legs h in
    let f = after_value (add_by_role limit total (counted_role leg sign) leg x) (λ sum. add_all_earned limit sum i legs signs) s e in
    let first : add_by_role limit total (role_in (leg_over D leg) sign) leg x ≡ Ok f.value =
    subst (λ role. add_by_role limit total role leg x ≡ Ok f.value) (role_is D leg sign one over) f.first in
    let here = role_stands limit D (amount_of D leg) total (role_in (leg_over D leg) sign) leg x f.value t st (fill_is D leg over) first in
    let amount : ℤ = earning (role_in (leg_over D leg) sign) (amount_of D leg * leg.size) x in
    subst (λ v. IsLowestRatio s v D) (+ℤ_assoc t amount (earned_at i (legs_over D legs) signs))
    (all_earned_stands limit D i legs signs f.value s (t +ℤ amount) one (All-tail (IsFillOver D) leg legs h) here f.rest)

liability_stands : (limit D i : ℕ) (L total s : Fraction) (t : ℤ) → IsOver D L → IsLowestRatio total t D → less_liability limit L i total ≡ Ok s → IsLowestRatio s (t -ℤ liability_at (amount_over D L) i) D
liability_stands limit D zero L total s t over st h =
    let liability : IsLowestRatio L (amount_over D L) D = record { lowest = over.lowest; ratio = amount_is_exact D L over.divides } in
    subst (λ v. IsLowestRatio s v D) (plus_negative t (amount_over D L)) (sum_stands limit total (negated L) s t (neg_ℤ (amount_over D L)) D st (negated_stands L (amount_over D L) D liability) h)
liability_stands limit D (suc i) L total s t over st h = as_before total s t D st h

zero_stands : (D : ℕ) → IsLowestRatio fraction_zero (pos 0) D
zero_stands D = subst (λ v. IsLowestRatio fraction_zero v D) none (whole_stands (pos 0) D)
  where
    none : pos 0 *ℤ pos D ≡ pos 0
    none = omega (arith, ints)

from_zero : (v w : ℤ) → (pos 0 +ℤ v) -ℤ w ≡ v -ℤ w
from_zero v w = omega (arith, ints)

state_cost_gives : (limit D : ℕ) (legs : List FractionLeg) (L : Fraction) (signs : List Sign) → 1 ≤ D → All (IsFillOver D) legs → IsOver D L → (i : ℕ)
    → Gives (state_cost_steps limit legs L signs i) (reduced (state_cost (legs_over D legs) (amount_over D L) signs i) D)
unfolding state_cost_steps
state_cost_gives limit D legs L signs one h over i s e =
    let f = after_value (add_all_earned limit fraction_zero i legs signs) (λ total. less_liability limit L i total) s e in
    let total : ℤ = earned_at i (legs_over D legs) signs in
    let here = all_earned_stands limit D i legs signs fraction_zero f.value (pos 0) one h (zero_stands D) f.first in
    let st = liability_stands limit D i L f.value s (pos 0 +ℤ total) over here f.rest in
    stands_reduced s (state_cost (legs_over D legs) (amount_over D L) signs i) D one
    (subst (λ v. IsLowestRatio s v D) (from_zero total (liability_at (amount_over D L) i)) st)

-- ---- costs of the covering legs
cover_cost_gives : (limit D : ℕ) (leg : FractionLeg) → 1 ≤ D → IsFillOver D leg → Gives (cover_cost_steps limit leg) (reduced (minus_amount (amount_of D leg * leg.size)) D)
unfolding cover_cost_steps
cover_cost_gives limit D leg one h s e =
    let f = after_value (leg_fill_steps limit leg) (λ fill. Ok (negated fill)) s e in
    let st = leg_fill_stands limit D (amount_of D leg) leg f.value (fill_is D leg h) f.first in
    let same : negated f.value ≡ s = let r = f.rest in cc in
    stands_reduced s (minus_amount (amount_of D leg * leg.size)) D one
    (subst (λ v. IsLowestRatio v (minus_amount (amount_of D leg * leg.size)) D) same (negated_stands f.value (pos (amount_of D leg * leg.size)) D st))

abbrev cost_over : ℕ → ℤ → Fraction
cost_over D c = reduced c D

covers_by_role : (limit D : ℕ) (role : Role) (leg : FractionLeg) (legs : List FractionLeg) (amounts : List ℕ) → Gives (cover_cost_steps limit leg) (cost_over D (minus_amount (amount_of D leg * leg.size)))
    → Gives (map_steps (cover_cost_steps limit) legs) (map (cost_over D) (map minus_amount amounts))
    → Gives (map_steps (cover_cost_steps limit) (if_covering role leg legs)) (map (cost_over D) (map minus_amount (if_covering role (amount_of D leg * leg.size) amounts)))
unfolding map_steps
covers_by_role limit D Covering leg legs amounts here later =
    let c : Fraction = cost_over D (minus_amount (amount_of D leg * leg.size)) in
    let rest : List Fraction = map (cost_over D) (map minus_amount amounts) in
    gives_after (cover_cost_steps limit leg) (λ y. after (map_steps (cover_cost_steps limit) legs) (λ ys. Ok (y ∷ ys))) c (c ∷ rest) here
    (gives_after (map_steps (cover_cost_steps limit) legs) (λ ys. Ok (c ∷ ys)) rest (c ∷ rest) later (gives_ok (c ∷ rest) (c ∷ rest) refl))
covers_by_role limit D Idle leg legs amounts here later = later
covers_by_role limit D Free leg legs amounts here later = later
covers_by_role limit D Above leg legs amounts here later = later
covers_by_role limit D Below leg legs amounts here later = later

cover_costs_give : (limit D : ℕ) (legs : List FractionLeg) (signs : List Sign) → 1 ≤ D → All (IsFillOver D) legs
    → Gives (map_steps (cover_cost_steps limit) (covering_legs legs signs)) (map (cost_over D) (map minus_amount (cover_amounts (legs_over D legs) signs)))
unfolding map_steps
cover_costs_give limit D [] signs one h = gives_ok [] [] refl
cover_costs_give limit D (leg ∷ legs) [] one h = gives_ok [] [] refl
cover_costs_give limit D (leg ∷ legs) (sign ∷ signs) one h =
    let over = All-head (IsFillOver D) leg legs h in
    let amount = amount_of D leg * leg.size in
    let amounts = cover_amounts (legs_over D legs) signs in
    let P : Role → Type 0 = λ role. Gives (map_steps (cover_cost_steps limit) (if_covering role leg (covering_legs legs signs))) (map (cost_over D) (map minus_amount (if_covering (role_in (leg_over D leg) sign) amount amounts))) in
    subst P (sym (role_is D leg sign one over))
    (covers_by_role limit D (role_in (leg_over D leg) sign) leg (covering_legs legs signs) amounts (cover_cost_gives limit D leg one over)
    (cover_costs_give limit D legs signs one (All-tail (IsFillOver D) leg legs h)))

-- ---- rows
with_row_gives : (row later : Result (List Fraction) Wide) (tail a rows : List Fraction) → Gives row a → Gives later rows → Gives (with_row row tail later) ((a ++ tail) ++ rows)
with_row_gives row later tail a rows h k =
    let goal : List Fraction = (a ++ tail) ++ rows in
    gives_after row (λ entries. after later (λ rows. Ok ((entries ++ tail) ++ rows))) a goal h
    (gives_after later (λ rows. Ok ((a ++ tail) ++ rows)) rows goal k (gives_ok goal goal refl))

taken_in : (limit : ℕ) (v : List ℤ) → Gives (map_steps (whole_of limit) v) (map whole v)
taken_in limit v = all_give (whole_of limit) whole v (whole_gives limit)

negated_gives : (limit : ℕ) (x : ℤ) → Gives (negated_of limit x) (whole (neg_ℤ x))
unfolding negated_of
negated_gives limit x =
    let goal : Fraction = whole (neg_ℤ x) in
    gives_after (whole_of limit x) (λ entry. Ok (negated entry)) (whole x) goal (whole_gives limit x) (gives_ok goal goal refl)

taken_negated : (limit : ℕ) (v : List ℤ) → Gives (map_steps (negated_of limit) v) (map whole (map neg_ℤ v))
taken_negated limit v = subst (λ l. Gives (map_steps (negated_of limit) v) l) (sym (map-map whole neg_ℤ v)) (all_give (negated_of limit) (λ x. whole (neg_ℤ x)) v (negated_gives limit))

row_split : (a b : List ℤ) (rows : List Fraction) → (map whole a ++ map whole b) ++ rows ≡ map whole (a ++ b) ++ rows
row_split a b rows = ap (λ l. l ++ rows) (sym (map-append whole a b))

cover_rows_give : (limit n : ℕ) (vs units : List (List ℤ)) → Gives (cover_rows_steps limit n vs units) (flat (beside (map (entries n) vs) units))
unfolding cover_rows_steps
cover_rows_give limit n [] units = gives_ok [] [] refl
cover_rows_give limit n (v ∷ vs) [] = gives_ok [] [] refl
cover_rows_give limit n (v ∷ vs) (unit ∷ units) =
    let rest : List Fraction = flat (beside (map (entries n) vs) units) in
    subst (λ l. Gives (with_row (map_steps (whole_of limit) (entries n v)) (map whole unit) (cover_rows_steps limit n vs units)) l) (row_split (entries n v) unit rest)
    (with_row_gives (map_steps (whole_of limit) (entries n v)) (cover_rows_steps limit n vs units) (map whole unit) (map whole (entries n v)) rest (taken_in limit (entries n v)) (cover_rows_give limit n vs units))

signed_by_role : (limit k : ℕ) (role : Role) (v : List ℤ) (later : Result (List Fraction) Wide) (rows : List (List ℤ)) → Gives later (flat (map (with_zeros k) rows))
    → Gives (signed_row_steps limit (map whole (replicate k (pos 0))) role v later) (flat (map (with_zeros k) (with_sign role v rows)))
signed_by_role limit k Above v later rows h =
    let rest : List Fraction = flat (map (with_zeros k) rows) in
    let tail : List ℤ = replicate k (pos 0) in
    subst (λ l. Gives (with_row (map_steps (negated_of limit) v) (map whole tail) later) l) (row_split (map neg_ℤ v) tail rest)
    (with_row_gives (map_steps (negated_of limit) v) later (map whole tail) (map whole (map neg_ℤ v)) rest (taken_negated limit v) h)
signed_by_role limit k Below v later rows h =
    let rest : List Fraction = flat (map (with_zeros k) rows) in
    let tail : List ℤ = replicate k (pos 0) in
    subst (λ l. Gives (with_row (map_steps (whole_of limit) v) (map whole tail) later) l) (row_split v tail rest)
    (with_row_gives (map_steps (whole_of limit) v) later (map whole tail) (map whole v) rest (taken_in limit v) h)
signed_by_role limit k Idle v later rows h = h
signed_by_role limit k Covering v later rows h = h
signed_by_role limit k Free v later rows h = h

signed_rows_give : (limit n k : ℕ) (legs : List NodeLeg) → Gives (signed_rows_steps limit n (map whole (replicate k (pos 0))) legs) (flat (map (with_zeros k) (signed_of n legs)))
unfolding signed_rows_steps
signed_rows_give limit n k [] = gives_ok [] [] refl
signed_rows_give limit n k (leg ∷ legs) =
    signed_by_role limit k leg.role (entries n leg.option) (signed_rows_steps limit n (map whole (replicate k (pos 0))) legs) (signed_of n legs) (signed_rows_give limit n k legs)

-- ---- the program
same_program : (n m m' : ℕ) (a a' b b' c c' : List Fraction) → m ≡ m' → a ≡ a' → b ≡ b' → c ≡ c' → program_of n m a b c ≡ program_of n m' a' b' c'
same_program n m m' a a' b b' c c' d e f g = ap (λ v. program_of n v a b c) d ∙ ap (λ v. program_of n m' v b c) e ∙ ap (λ v. program_of n m' a' v c) f ∙ ap (λ v. program_of n m' a' b' v) g

-- the program of legs whose roles are known
built : (limit n D : ℕ) (legs : List FractionLeg) (L : Fraction) (signs : List Sign) (node : List NodeLeg) → 1 ≤ D → All (IsFillOver D) legs → IsOver D L → counted_node legs signs ≡ node
    → Gives (node_steps limit n legs L signs) (record {
      variables = suc n + length (covers_of node);
      rows = length (rows_of n node);
      coefficients = flat (rows_of n node);
      right_sides = map whole (right_sides_of n node);
      costs = map (cost_over D) (costs_of n (legs_over D legs) (amount_over D L) signs);
    })
unfolding node_steps
built limit n D legs L signs node one h over same =
    let counted : List NodeLeg = counted_node legs signs in
    let Built : List NodeLeg → Type 0 = λ node. Gives (node_steps limit n legs L signs) (record {
      variables = suc n + length (covers_of node);
      rows = length (rows_of n node);
      coefficients = flat (rows_of n node);
      right_sides = map whole (right_sides_of n node);
      costs = map (cost_over D) (costs_of n (legs_over D legs) (amount_over D L) signs);
    }) in
    let vs = covers_of counted in
    let k = length vs in
    let m = k + length (signed_of n counted) in
    let f : ℕ → ℤ = state_cost (legs_over D legs) (amount_over D L) signs in
    let amounts = cover_amounts (legs_over D legs) signs in
    let zeros : List Fraction = replicate k fraction_zero in
    let ids : List ℕ = values (λ i. i) (suc n) in
    let costs : List Fraction = map (λ i. cost_over D (f i)) ids in
    let cover_costs : List Fraction = map (cost_over D) (map minus_amount amounts) in
    let covers : List Fraction = flat (beside (map (entries n) vs) (minus_units k)) in
    let signeds : List Fraction = flat (map (with_zeros k) (signed_of n counted)) in
    let first : List Fraction = map whole (size_row n k) in
    let sides : List Fraction = whole (pos 1) ∷ replicate m fraction_zero in
    let goal : LinearProgram = program_of (suc n + k) (length (rows_of n counted)) (flat (rows_of n counted)) (map whole (right_sides_of n counted)) (map (cost_over D) (costs_of n (legs_over D legs) (amount_over D L) signs)) in
    let end : List Fraction → List Fraction → List Fraction → List Fraction → Result LinearProgram Wide = λ costs cover_costs cover_rows signed_rows. Ok (program_of (suc n + k) (suc m) (first ++ (cover_rows ++ signed_rows)) sides (costs ++ cover_costs)) in
    let count : length (later_rows n counted) ≡ m = later_count n counted in
    let equal : program_of (suc n + k) (suc m) (first ++ (covers ++ signeds)) sides (costs ++ cover_costs) ≡ goal =
    same_program (suc n + k) (suc m) (length (rows_of n counted)) (first ++ (covers ++ signeds)) (flat (rows_of n counted)) sides (map whole (right_sides_of n counted)) (costs ++ cover_costs) (map (cost_over D) (costs_of n (legs_over D legs) (amount_over D L) signs))
    (ap suc (sym count))
    (ap (λ l. first ++ l) (sym (flat_map-append (map whole) (beside (map (entries n) vs) (minus_units k)) (map (with_zeros k) (signed_of n counted)))))
    (ap (λ l. whole (pos 1) ∷ l) (zeros_are m ∙ ap (λ (a : ℕ). map whole (replicate a (pos 0))) (sym count)))
    (ap (λ l. l ++ cover_costs) (map-values (λ i. cost_over D (f i)) (λ i. i) (suc n) ∙ sym (map-values (cost_over D) f (suc n)))
    ∙ sym (map-append (cost_over D) (values f (suc n)) (map minus_amount amounts))) in
    subst Built same
    (gives_after (map_steps (state_cost_steps limit legs L signs) ids)
    (λ costs. after (map_steps (cover_cost_steps limit) (covering_legs legs signs)) (λ cover_costs. after (cover_rows_steps limit n vs (minus_units k)) (λ cover_rows. after (signed_rows_steps limit n zeros counted) (end costs cover_costs cover_rows)))) costs goal
    (all_give (state_cost_steps limit legs L signs) (λ i. cost_over D (f i)) ids (state_cost_gives limit D legs L signs one h over))
    (gives_after (map_steps (cover_cost_steps limit) (covering_legs legs signs))
    (λ cover_costs. after (cover_rows_steps limit n vs (minus_units k)) (λ cover_rows. after (signed_rows_steps limit n zeros counted) (end costs cover_costs cover_rows))) cover_costs goal
    (cover_costs_give limit D legs signs one h)
    (gives_after (cover_rows_steps limit n vs (minus_units k)) (λ cover_rows. after (signed_rows_steps limit n zeros counted) (end costs cover_costs cover_rows)) covers goal
    (cover_rows_give limit n vs (minus_units k))
    (gives_after (signed_rows_steps limit n zeros counted) (end costs cover_costs covers) signeds goal
    (subst (λ l. Gives (signed_rows_steps limit n l counted) signeds) (sym (zeros_are k)) (signed_rows_give limit n k counted))
    (gives_ok (program_of (suc n + k) (suc m) (first ++ (covers ++ signeds)) sides (costs ++ cover_costs)) goal equal)))))

pub steps_give_node : StepsGiveNode
steps_give_node limit n D legs L signs p one h over e =
    built limit n D legs L signs (node_legs (legs_over D legs) signs) one h over (node_is D legs signs one h) p e
