-- The numbers of the search for a state at which a liability is not enough: of its programs, its
-- states and its trees.
use Rattle.std.proofs.Common.{◌≡◌, ℕ, zero, suc, ◌+◌, ◌*◌, ◌/◌, ◌≤◌, ◌<◌, List, [], ◌∷◌, ◌++◌, length, map, drop, zip, replicate, get_or, Bool, true, false, ℤ, pos, negsuc, unsigned_abs, refl, ap, arith}
use Rattle.std.specs.Prelude.{Option, Some, None, IfSome, Result, Ok, if◌then◌else◌}
use Rattle.std.specs.List.{All, flat_map}
use Rattle.std.proofs.lemmas.Int.{ints}
use Rattle.std.proofs.lemmas.List.{length-append, length-map}
use Rattle.std.proofs.lemmas.List.Elements.{All-nil, All-cons, All-head, All-tail, All-append, All-drop, All-map, All-replicate, All-weaker}
use Rattle.arithmetic.specs.Gcd.{gcd}
use Rattle.exact_num.specs.declared.misfit.Wide.{Wide}
use Rattle.exact_num.specs.Fraction.{Fraction, whole}
use Rattle.exact_num.specs.Fits.{mul_of, whole_of}
use Rattle.exact_num.specs.Steps.{fold_steps}
use Rattle.exact_num.specs.Tests.{is_above_zero}
use Rattle.frac.specs.Range.{limit as largest}
use Rattle.form.specs.declared.orders.Order.{Order}
use Rattle.form.specs.declared.orders.Side.{Side}
use Rattle.form.specs.Payoff.{BundleLeg, bundle_of}
use Rattle.form.specs.Primitive.{common_divisor, common_multiple_of, multiple_with, multiples_of, primitive_of, primitive_vector}
use Rattle.form.specs.Vector.{positive_part, scale_of}
use Rattle.form.proofs.SameBundle.{length-bundle_legs}
use Rattle.clearing_model.specs.Tree.{Sign}
use Rattle.sign_tree.specs.Legs.{FractionLeg, fraction_leg, fraction_legs, legs_filled, legs_of_order}
use Rattle.sign_tree.specs.Walk.{less_liability}
use Rattle.master_program.specs.Master.{map_steps, order_payoff}
use Rattle.master_program.specs.Node.{after_zero, if_covering, covers_of, minus_units, signed_of, size_row}
use Rattle.master_program.specs.Roles.{Role, Idle, Covering, Free, Above, Below, NodeLeg, can_split, entries, leg_multipliers, placed_from, split_from, values, with_multiplier}
use Rattle.master_program.specs.Search.{NodeFound, leaf, violated, splits, add_filled, add_owed, excess_of, leaf_of, on_place}
use Rattle.master_program.specs.NodeSteps.{add_all_earned, add_by_role, add_earned, counted_node, counted_role, cover_cost_steps, cover_rows_steps, covering_legs, leg_fill_steps, negated_of, node_steps, signed_row_steps, signed_rows_steps, state_cost_steps, with_row}
use Rattle.constraint_generation.proofs.Placed.{all_multipliers}
use Rattle.simplex_run.specs.Places.{fraction_zero}
use Rattle.run_values.specs.Values.{AreValues, Ends, IsPlacedOf, IsSmall, IsSmallState, IsValue}
use Rattle.run_values.proofs.Masters.{HasValues, IsUnit, units_are}
use Rattle.run_values.proofs.Numbers.{Has, Nothing, after_has, fold_has, for_side_has, less_product_has, map_has, mul_has, negated_value, plus_product_has, sub_has, whole_has, whole_value, zero_value}
use Rattle.run_values.proofs.Payoffs.{HasListed, IsEntry, IsLegSmall, legs_small, order_has, scale_small, part_small, quotient_small}
use Rattle.run_values.proofs.Readings.{IsFillOf, fills_are}

-- ---- legs
pub record IsLegOf (leg : FractionLeg) : Type 0 where
  pub fill : IsValue leg.fill
  pub size : leg.size ≤ 1000
  pub entries : All IsEntry leg.option

bundle_legs_are : (side : Side) (fill : Fraction) (legs : List BundleLeg) → IsValue fill → All IsLegSmall legs → All IsLegOf (legs_filled side fill legs)
bundle_legs_are side fill legs is small =
    All-map IsLegOf (fraction_leg side fill) legs
    (All-weaker IsLegSmall (λ leg. IsLegOf (fraction_leg side fill leg)) (λ leg one. record { fill = is; size = one.count; entries = one.entries }) legs small)

all_legs : (fills : List (Order × Fraction)) → All IsFillOf fills → All IsLegOf (flat_map legs_of_order fills)
all_legs [] of = All-nil IsLegOf
all_legs (fill ∷ fills) of =
    let one = All-head IsFillOf fill fills of in
    All-append IsLegOf (legs_of_order fill) (flat_map legs_of_order fills) (bundle_legs_are fill.0.side fill.1 (bundle_of fill.0) one.1 (legs_small fill.0 one.0)) (all_legs fills (All-tail IsFillOf fill fills of))

pub legs_are : (orders : List Order) (fills : List Fraction) → All HasListed orders → AreValues fills → All IsLegOf (fraction_legs orders fills)
legs_are orders fills listed are = all_legs (zip orders fills) (fills_are HasListed orders fills listed are)

-- four legs for an order at most
few_legs : (order : Order) (fill : Fraction) → length (legs_of_order (order, fill)) ≤ 4
unfolding bundle_of
few_legs order fill = omega (arith, length-map (bundle_of order) (fraction_leg order.side fill), length-bundle_legs order.bundle, order.bundle.size_in_range.1)

pub legs_few : (orders : List Order) (fills : List Fraction) → length (fraction_legs orders fills) ≤ 4 * length orders
legs_few [] fills = omega arith
legs_few (order ∷ orders) [] = omega arith
legs_few (order ∷ orders) (fill ∷ fills) =
    omega (arith, few_legs order fill, legs_few orders fills, length-append (legs_of_order (order, fill)) (fraction_legs orders fills))

pub read_entry : (v : List ℤ) (i : ℕ) → All IsEntry v → IsEntry (get_or v i (pos 0))
read_entry [] i entries = omega arith
read_entry (a ∷ v) zero entries = All-head IsEntry a v entries
read_entry (a ∷ v) (suc i) entries = read_entry v i (All-tail IsEntry a v entries)

values_are : (f : ℕ → ℤ) (m : ℕ) → ((i : ℕ) → IsEntry (f i)) → All IsEntry (values f m)
values_are f zero h = All-nil IsEntry
values_are f (suc m) h = All-cons IsEntry (f 0) (values (λ i. f (suc i)) m) (h 0) (values_are (λ i. f (suc i)) m (λ i. h (suc i)))

entries_are : (n : ℕ) (v : List ℤ) → All IsEntry v → All IsEntry (entries n v)
entries_are n v small = values_are (λ i. get_or v i (pos 0)) (suc n) (λ i. read_entry v i small)

pub entry_low : (x : ℤ) → IsEntry x → unsigned_abs x ≤ largest
entry_low x low = omega (arith, low)

entry_has : (x : ℤ) → IsEntry x → Has IsValue (whole_of largest x)
entry_has x low = whole_has x (entry_low x low)

-- ---- rows of 0 and -1
minus_units_are : (k : ℕ) → All (All IsUnit) (minus_units k)
minus_units_are zero = All-nil (All IsUnit)
minus_units_are (suc k) =
    let first = All-cons IsUnit (negsuc 0) (replicate k (pos 0)) (omega arith) (All-replicate IsUnit k (pos 0) (omega arith)) in
    let others = All-map (All IsUnit) after_zero (minus_units k) (All-weaker (All IsUnit) (λ r. All IsUnit (after_zero r)) (λ r are. All-cons IsUnit (pos 0) r (omega arith) are) (minus_units k) (minus_units_are k)) in
    All-cons (All IsUnit) (negsuc 0 ∷ replicate k (pos 0)) (map after_zero (minus_units k)) first others

-- ---- costs
fill_has : (leg : FractionLeg) → IsLegOf leg → Has IsValue (leg_fill_steps largest leg)
unfolding leg_fill_steps
fill_has leg of =
    let few = of.size in
    after_has IsValue IsValue (whole_of largest (pos leg.size)) _ (whole_has (pos leg.size) (omega (arith, ints, few))) (λ size s. mul_has leg.fill size of.fill s)

earned_has : (total : Fraction) (leg : FractionLeg) (x : ℤ) → IsValue total → IsLegOf leg → IsEntry x → Has IsValue (add_earned largest total leg x)
unfolding add_earned
earned_has total leg x is of low =
    after_has IsValue IsValue (leg_fill_steps largest leg) _ (fill_has leg of)
    (λ fill f. after_has IsValue IsValue (whole_of largest x) _ (entry_has x low) (λ entry e. plus_product_has total fill entry is f e))

role_has : (total : Fraction) (role : Role) (leg : FractionLeg) (x : ℤ) → IsValue total → IsLegOf leg → IsEntry x → Has IsValue (add_by_role largest total role leg x)
unfolding add_by_role
role_has total Free leg x is of low = earned_has total leg (pos (positive_part x)) is of (part_small 1000000000 x low)
role_has total Above leg x is of low = earned_has total leg x is of low
role_has total Below leg x is of low = is
role_has total Covering leg x is of low = is
role_has total Idle leg x is of low = is

all_earned_has : (total : Fraction) (i : ℕ) (legs : List FractionLeg) (signs : List Sign) → IsValue total → All IsLegOf legs → Has IsValue (add_all_earned largest total i legs signs)
unfolding add_all_earned
all_earned_has total i [] signs is of = is
all_earned_has total i (leg ∷ legs) [] is of = is
all_earned_has total i (leg ∷ legs) (sign ∷ signs) is of =
    let one = All-head IsLegOf leg legs of in
    let x : ℤ = get_or leg.option i (pos 0) in
    after_has IsValue IsValue (add_by_role largest total (counted_role leg sign) leg x) _ (role_has total (counted_role leg sign) leg x is one (read_entry leg.option i one.entries))
    (λ sum s. all_earned_has sum i legs signs s (All-tail IsLegOf leg legs of))

pub less_has : (L : Fraction) (i : ℕ) (total : Fraction) → IsValue L → IsValue total → Has IsValue (less_liability largest L i total)
less_has L zero total l t = sub_has total L t l
less_has L (suc i) total l t = t

cost_has : (legs : List FractionLeg) (L : Fraction) (signs : List Sign) (i : ℕ) → All IsLegOf legs → IsValue L → Has IsValue (state_cost_steps largest legs L signs i)
unfolding state_cost_steps
cost_has legs L signs i of l =
    after_has IsValue IsValue (add_all_earned largest fraction_zero i legs signs) (less_liability largest L i) (all_earned_has fraction_zero i legs signs zero_value of) (λ sum s. less_has L i sum l s)

cover_cost_has : (leg : FractionLeg) → IsLegOf leg → Has IsValue (cover_cost_steps largest leg)
unfolding cover_cost_steps
cover_cost_has leg of = after_has IsValue IsValue (leg_fill_steps largest leg) _ (fill_has leg of) (λ fill f. negated_value fill f)

covering_are : (legs : List FractionLeg) (signs : List Sign) → All IsLegOf legs → All IsLegOf (covering_legs legs signs)
covering_are [] signs of = All-nil IsLegOf
covering_are (leg ∷ legs) [] of = All-nil IsLegOf
covering_are (leg ∷ legs) (sign ∷ signs) of = by (counted_role leg sign) (covering_are legs signs (All-tail IsLegOf leg legs of))
  where
    rest : List FractionLeg
    rest = covering_legs legs signs

    by : (role : Role) → All IsLegOf rest → All IsLegOf (if_covering role leg rest)
    by Covering later = All-cons IsLegOf leg rest (All-head IsLegOf leg legs of) later
    by Idle later = later
    by Free later = later
    by Above later = later
    by Below later = later

-- ---- rows
negated_has : (x : ℤ) → IsEntry x → Has IsValue (negated_of largest x)
unfolding negated_of
negated_has x low = after_has IsValue IsValue (whole_of largest x) _ (entry_has x low) (λ entry e. negated_value entry e)

with_row_has : (row : Result (List Fraction) Wide) (tail : List Fraction) (later : Result (List Fraction) Wide) → Has AreValues row → AreValues tail → Has AreValues later → Has AreValues (with_row row tail later)
with_row_has row tail later of_row of_tail of_later =
    after_has AreValues AreValues row _ of_row
    (λ entries e. after_has AreValues AreValues later _ of_later (λ rows r. All-append IsValue (entries ++ tail) rows (All-append IsValue entries tail e of_tail) r))

cover_rows_has : (n : ℕ) (vs units : List (List ℤ)) → All (All IsEntry) vs → All (All IsUnit) units → Has AreValues (cover_rows_steps largest n vs units)
unfolding cover_rows_steps
cover_rows_has n [] units small are = All-nil IsValue
cover_rows_has n (v ∷ vs) [] small are = All-nil IsValue
cover_rows_has n (v ∷ vs) (unit ∷ units) small are =
    with_row_has (map_steps (whole_of largest) (entries n v)) (map whole unit) (cover_rows_steps largest n vs units)
    (map_has IsEntry IsValue (whole_of largest) entry_has (entries n v) (entries_are n v (All-head (All IsEntry) v vs small)))
    (units_are unit (All-head (All IsUnit) unit units are))
    (cover_rows_has n vs units (All-tail (All IsEntry) v vs small) (All-tail (All IsUnit) unit units are))

signed_row_has : (tail : List Fraction) (role : Role) (v : List ℤ) (later : Result (List Fraction) Wide) → AreValues tail → All IsEntry v → Has AreValues later → Has AreValues (signed_row_steps largest tail role v later)
signed_row_has tail Above v later of small rest = with_row_has (map_steps (negated_of largest) v) tail later (map_has IsEntry IsValue (negated_of largest) negated_has v small) of rest
signed_row_has tail Below v later of small rest = with_row_has (map_steps (whole_of largest) v) tail later (map_has IsEntry IsValue (whole_of largest) entry_has v small) of rest
signed_row_has tail Idle v later of small rest = rest
signed_row_has tail Covering v later of small rest = rest
signed_row_has tail Free v later of small rest = rest

abbrev IsNodeLeg : NodeLeg → Type 0
IsNodeLeg leg = All IsEntry leg.option

signed_rows_has : (n : ℕ) (tail : List Fraction) (legs : List NodeLeg) → AreValues tail → All IsNodeLeg legs → Has AreValues (signed_rows_steps largest n tail legs)
unfolding signed_rows_steps
signed_rows_has n tail [] of small = All-nil IsValue
signed_rows_has n tail (leg ∷ legs) of small =
    signed_row_has tail leg.role (entries n leg.option) (signed_rows_steps largest n tail legs) of (entries_are n leg.option (All-head IsNodeLeg leg legs small)) (signed_rows_has n tail legs of (All-tail IsNodeLeg leg legs small))

node_legs_are : (legs : List FractionLeg) (signs : List Sign) → All IsLegOf legs → All IsNodeLeg (counted_node legs signs)
node_legs_are [] signs of = All-nil IsNodeLeg
node_legs_are (leg ∷ legs) [] of = All-nil IsNodeLeg
node_legs_are (leg ∷ legs) (sign ∷ signs) of =
    All-cons IsNodeLeg (record { role = counted_role leg sign; option = leg.option }) (counted_node legs signs) (All-head IsLegOf leg legs of).entries (node_legs_are legs signs (All-tail IsLegOf leg legs of))

covers_are : (node : List NodeLeg) → All IsNodeLeg node → All (All IsEntry) (covers_of node)
covers_are [] small = All-nil (All IsEntry)
covers_are (leg ∷ node) small = by leg.role (covers_are node (All-tail IsNodeLeg leg node small))
  where
    by : (role : Role) → All (All IsEntry) (covers_of node) → All (All IsEntry) (if_covering role leg.option (covers_of node))
    by Covering later = All-cons (All IsEntry) leg.option (covers_of node) (All-head IsNodeLeg leg node small) later
    by Idle later = later
    by Free later = later
    by Above later = later
    by Below later = later

-- ---- the program
pub node_has : (n : ℕ) (legs : List FractionLeg) (L : Fraction) (signs : List Sign) → All IsLegOf legs → IsValue L → Has HasValues (node_steps largest n legs L signs)
unfolding node_steps
node_has n legs L signs of l =
    let node = counted_node legs signs in
    let small = node_legs_are legs signs of in
    let covers = covers_of node in
    let count : ℕ = length covers in
    let more : ℕ = length (signed_of n node) in
    let zeros = replicate count fraction_zero in
    after_has AreValues HasValues (map_steps (state_cost_steps largest legs L signs) (values (λ i. i) (suc n))) _
    (map_has Nothing IsValue (state_cost_steps largest legs L signs) (λ i h. cost_has legs L signs i of l) (values (λ i. i) (suc n)) (λ k d inside. tt))
    (λ costs cs. after_has AreValues HasValues (map_steps (cover_cost_steps largest) (covering_legs legs signs)) _
    (map_has IsLegOf IsValue (cover_cost_steps largest) cover_cost_has (covering_legs legs signs) (covering_are legs signs of))
    (λ cover_costs ccs. after_has AreValues HasValues (cover_rows_steps largest n covers (minus_units count)) _
    (cover_rows_has n covers (minus_units count) (covers_are node small) (minus_units_are count))
    (λ cover_rows cr. after_has AreValues HasValues (signed_rows_steps largest n zeros node) _
    (signed_rows_has n zeros node (All-replicate IsValue count fraction_zero zero_value) small)
    (λ signed_rows sr. record {
      coefficients = All-append IsValue (map whole (size_row n count)) (cover_rows ++ signed_rows)
          (units_are (size_row n count) (All-append IsUnit (replicate (suc n) (pos 1)) (replicate count (pos 0)) (All-replicate IsUnit (suc n) (pos 1) (omega arith)) (All-replicate IsUnit count (pos 0) (omega arith))))
          (All-append IsValue cover_rows signed_rows cr sr);
      right_sides = All-cons IsValue (whole (pos 1)) (replicate (count + more) fraction_zero) (whole_value (pos 1) (omega arith)) (All-replicate IsValue (count + more) fraction_zero zero_value);
      costs = All-append IsValue costs cover_costs cs ccs;
    }))))

-- ---- the state of an optimum
multiple_has : (fs : List Fraction) → AreValues fs → Has IsValue (common_multiple_of largest fs)
multiple_has fs are =
    fold_has IsValue IsValue (multiple_with largest)
    (λ D f is of.
    let above = is.small.above in
    let below = of.small.below in
    let size : ℕ = unsigned_abs D.numerator in
    mul_has (whole (pos (size / gcd size f.denominator))) (whole (pos f.denominator))
    (whole_value (pos (size / gcd size f.denominator)) (quotient_small size (gcd size f.denominator) above)) (whole_value (pos f.denominator) below))
    (whole (pos 1)) fs (whole_value (pos 1) (omega arith)) are

multiples_has : (D : Fraction) (fs : List Fraction) → IsValue D → AreValues fs → Has IsSmallState (multiples_of largest D fs)
multiples_has D [] is are = All-nil IsSmall
multiples_has D (f ∷ fs) is are =
    after_has IsValue IsSmallState (mul_of largest f D) _ (mul_has f D (All-head IsValue f fs are) is)
    (λ p v. after_has IsSmallState IsSmallState (multiples_of largest D fs) _ (multiples_has D fs is (All-tail IsValue f fs are))
    (λ z small. All-cons IsSmall (positive_part p.numerator) z (part_small largest p.numerator v.small.above) small))

divided_small : (z : List ℕ) → IsSmallState z → IsSmallState (primitive_vector z)
divided_small z small =
    let d : ℕ = common_divisor z in
    All-map IsSmall (λ x. x / d) z (All-weaker IsSmall (λ x. IsSmall (x / d)) (λ x low. quotient_small x d low) z small)

pub primitive_has : (fs : List Fraction) → AreValues fs → Has IsSmallState (primitive_of largest fs)
unfolding primitive_of
primitive_has fs are =
    after_has IsValue IsSmallState (common_multiple_of largest fs) _ (multiple_has fs are)
    (λ D d. after_has IsSmallState IsSmallState (multiples_of largest D fs) _ (multiples_has D fs d are) (λ z small. divided_small z small))

-- ---- what fills owe there
owed_has : (z : List ℕ) (total : Fraction) (fill : Order × Fraction) → IsSmallState z → IsValue total → IsFillOf fill → Has IsValue (add_owed largest largest z total fill)
unfolding add_owed
owed_has z total fill small is of =
    after_has IsValue IsValue (order_payoff largest fill.0 z) _ (order_has fill.0 z of.0 small)
    (λ payoff p. after_has IsValue IsValue (whole_of largest payoff.numerator) _ (whole_has payoff.numerator p.small.above) (λ owed o. for_side_has total fill.0.side fill.1 owed is of.1 o))

filled_has : (z : List ℕ) (total : Fraction) (fill : Order × Fraction) → IsSmallState z → IsValue total → IsFillOf fill → Has IsValue (add_filled largest largest z total fill)
filled_has z total fill small is of = by (is_above_zero fill.1)
  where
    by : (b : Bool) → Has IsValue (if b then add_owed largest largest z total fill else Ok total)
    by true = owed_has z total fill small is of
    by false = is

pub excess_has : (fills : List (Order × Fraction)) (L : Fraction) (z : List ℕ) → All IsFillOf fills → IsValue L → IsSmallState z → Has IsValue (excess_of largest largest fills L z)
unfolding excess_of
excess_has fills L z of l small =
    after_has IsValue IsValue (fold_steps (add_filled largest largest z) fraction_zero fills) _
    (fold_has IsValue IsFillOf (add_filled largest largest z) (λ total fill is one. filled_has z total fill small is one) fraction_zero fills zero_value of)
    (λ net n. after_has IsValue IsValue (whole_of largest (pos (scale_of z))) _ (whole_has (pos (scale_of z)) (scale_small z small)) (λ t s. less_product_has net L t n l s))

-- ---- a node
abbrev pub IsShown : ℕ → NodeFound → Type 0
IsShown k (leaf ms) = All (IsPlacedOf k) ms
IsShown k (violated z) = IsSmallState z
IsShown k (splits place) = place < k

placed_are : (place k : ℕ) (ms : List Fraction) → 1 ≤ place → place + length ms ≤ k + 1 → AreValues ms → All (IsPlacedOf k) (placed_from place ms)
placed_are place k [] some few are = All-nil (IsPlacedOf k)
placed_are place k (m ∷ ms) some few are = by (is_above_zero m) (placed_are (place + 1) k ms (omega arith) (omega (arith, few)) (All-tail IsValue m ms are))
  where
    by : (b : Bool) → All (IsPlacedOf k) (placed_from (place + 1) ms) → All (IsPlacedOf k) (if b then (record { place = place; by = m }) ∷ placed_from (place + 1) ms else placed_from (place + 1) ms)
    by true later = All-cons (IsPlacedOf k) (record { place = place; by = m }) (placed_from (place + 1) ms) (record { place = (some, omega (arith, few)); by = All-head IsValue m ms are }) later
    by false later = later

-- as many multipliers as legs
multipliers_count : (node : List NodeLeg) (ss ps : List Fraction) → length (leg_multipliers fraction_zero node ss ps) ≡ length node
multipliers_count [] ss ps = refl
multipliers_count (leg ∷ node) ss ps = by leg.role ss ps (multipliers_count node)
  where
    by : (role : Role) (ss ps : List Fraction) → ((ss ps : List Fraction) → length (leg_multipliers fraction_zero node ss ps) ≡ length node)
        → length (with_multiplier fraction_zero role ss ps (λ ss ps. leg_multipliers fraction_zero node ss ps)) ≡ suc (length node)
    by Covering [] ps later = ap suc (later [] ps)
    by Covering (s ∷ ss) ps later = ap suc (later ss ps)
    by Above ss [] later = ap suc (later ss [])
    by Above ss (p ∷ ps) later = ap suc (later ss ps)
    by Below ss [] later = ap suc (later ss [])
    by Below ss (p ∷ ps) later = ap suc (later ss ps)
    by Free ss ps later = ap suc (later ss ps)
    by Idle ss ps later = ap suc (later ss ps)

pub node_count : (legs : List FractionLeg) (signs : List Sign) → length (counted_node legs signs) ≤ length legs
node_count [] signs = omega arith
node_count (leg ∷ legs) [] = omega arith
node_count (leg ∷ legs) (sign ∷ signs) = omega (arith, node_count legs signs)

pub leaf_has : (k : ℕ) (node : List NodeLeg) (y : List Fraction) → length node ≤ k → AreValues y → All (IsPlacedOf k) (leaf_of node y)
leaf_has k node y few are =
    let ss : List Fraction = drop 1 y in
    let ps : List Fraction = drop (suc (length (covers_of node))) y in
    placed_are 1 k (leg_multipliers fraction_zero node ss ps) (omega arith) (omega (arith, few, multipliers_count node ss ps))
    (all_multipliers IsValue node ss ps zero_value (All-drop IsValue 1 y are) (All-drop IsValue (suc (length (covers_of node))) y are))

pub split_low : (n i k : ℕ) (node : List NodeLeg) → i + length node ≤ k → IfSome (split_from n i node) (λ place. place < k)
split_low n i k [] few = tt
split_low n i k (leg ∷ node) few = by (can_split n leg) (split_low n (i + 1) k node (omega (arith, few)))
  where
    by : (b : Bool) → IfSome (split_from n (i + 1) node) (λ place. place < k) → IfSome (if b then Some i else split_from n (i + 1) node) (λ place. place < k)
    by true later = omega (arith, few)
    by false later = later

pub place_ends : (k spent : ℕ) (o : Option ℕ) → IfSome o (λ place. place < k) → Ends (IsShown k) (on_place spent o)
place_ends k spent (Some place) low = low
place_ends k spent None low = tt
