-- The program of a node step by step, each step with a limit.
use Rattle.std.specs.Prelude.{ℕ, suc, ◌+◌, ◌*◌, ◌&&◌, Bool, List, [], ◌∷◌, ◌++◌, length, map, replicate, get_or, ℤ, pos, Result, Ok}
use Rattle.exact_num.specs.declared.misfit.Wide.{Wide}
use Rattle.exact_num.specs.Fraction.{Fraction, whole, negated}
use Rattle.exact_num.specs.CommonDenominator.{amount_over}
use Rattle.exact_num.specs.Fits.{mul_of, whole_of, after}
use Rattle.simplex_run.specs.Places.{fraction_zero}
use Rattle.exact_num.specs.Tests.{is_above_zero}
use Rattle.simplex_run.specs.Program.{LinearProgram}
use Rattle.form.specs.Vector.{positive_part}
use Rattle.clearing_model.specs.Legs.{FilledLeg}
use Rattle.sign_tree.specs.Legs.{FractionLeg}
use Rattle.sign_tree.specs.Walk.{less_liability}
use Rattle.exact_num.specs.Steps.{plus_product}
use Rattle.clearing_model.specs.Tree.{Sign}
use Rattle.master_program.specs.Master.{map_steps}
use Rattle.master_program.specs.Roles.{Role, Idle, Covering, Free, Above, Below, NodeLeg, role_of, is_positive, values, entries}
use Rattle.master_program.specs.Node.{if_covering, covers_of, signed_of, minus_units, size_row}

-- ---- legs whose orders have fractions as fills
abbrev pub is_filled : FractionLeg → Bool
is_filled leg = is_above_zero leg.fill && is_positive leg.size

abbrev pub counted_role : FractionLeg → Sign → Role
counted_role leg sign = role_of (is_filled leg) leg.exposure sign

abbrev pub counted_node : List FractionLeg → List Sign → List NodeLeg
counted_node [] signs = []
counted_node (leg ∷ legs) [] = []
counted_node (leg ∷ legs) (sign ∷ signs) = (record { role = counted_role leg sign; option = leg.option }) ∷ counted_node legs signs

-- the same legs with their amounts over D
abbrev pub leg_over : ℕ → FractionLeg → FilledLeg
leg_over D leg = record { exposure = leg.exposure; amount = positive_part (amount_over D leg.fill) * leg.size; option = leg.option }

abbrev pub legs_over : ℕ → List FractionLeg → List FilledLeg
legs_over D legs = map (leg_over D) legs

-- ---- costs
-- the leg's fill: that of its order times the size of its count
unfoldable pub leg_fill_steps : ℕ → FractionLeg → Result Fraction Wide
leg_fill_steps limit leg = after (whole_of limit (pos leg.size)) (λ size. mul_of limit leg.fill size)

-- the total and the leg's fill times an entry
unfoldable pub add_earned : ℕ → Fraction → FractionLeg → ℤ → Result Fraction Wide
add_earned limit total leg x =
    after (leg_fill_steps limit leg) (λ fill. after (whole_of limit x) (λ entry. plus_product limit total fill entry))

-- by the leg's role
unfoldable pub add_by_role : ℕ → Fraction → Role → FractionLeg → ℤ → Result Fraction Wide
add_by_role limit total Free leg x = add_earned limit total leg (pos (positive_part x))
add_by_role limit total Above leg x = add_earned limit total leg x
add_by_role limit total Below leg x = Ok total
add_by_role limit total Covering leg x = Ok total
add_by_role limit total Idle leg x = Ok total

-- leg by leg, at entry i
unfoldable pub add_all_earned : ℕ → Fraction → ℕ → List FractionLeg → List Sign → Result Fraction Wide
add_all_earned limit total i [] signs = Ok total
add_all_earned limit total i (leg ∷ legs) [] = Ok total
add_all_earned limit total i (leg ∷ legs) (sign ∷ signs) =
    after (add_by_role limit total (counted_role leg sign) leg (get_or leg.option i (pos 0)))
    (λ sum. add_all_earned limit sum i legs signs)

-- the liability is subtracted last, at entry 0
unfoldable pub state_cost_steps : ℕ → List FractionLeg → Fraction → List Sign → ℕ → Result Fraction Wide
state_cost_steps limit legs L signs i = after (add_all_earned limit fraction_zero i legs signs) (less_liability limit L i)

-- the covering legs
abbrev pub covering_legs : List FractionLeg → List Sign → List FractionLeg
covering_legs [] signs = []
covering_legs (leg ∷ legs) [] = []
covering_legs (leg ∷ legs) (sign ∷ signs) = if_covering (counted_role leg sign) leg (covering_legs legs signs)

-- a covering leg's variable costs the leg's fill
unfoldable pub cover_cost_steps : ℕ → FractionLeg → Result Fraction Wide
cover_cost_steps limit leg = after (leg_fill_steps limit leg) (λ fill. Ok (negated fill))

-- ---- rows
-- an entry with a minus
unfoldable pub negated_of : ℕ → ℤ → Result Fraction Wide
negated_of limit x = after (whole_of limit x) (λ entry. Ok (negated entry))

-- the entries of a row's state, what stands beside them, and the rows after it
abbrev pub with_row : Result (List Fraction) Wide → List Fraction → Result (List Fraction) Wide → Result (List Fraction) Wide
with_row row tail later = after row (λ entries. after later (λ rows. Ok ((entries ++ tail) ++ rows)))

unfoldable pub cover_rows_steps : ℕ → ℕ → List (List ℤ) → List (List ℤ) → Result (List Fraction) Wide
cover_rows_steps limit n [] units = Ok []
cover_rows_steps limit n (v ∷ vs) [] = Ok []
cover_rows_steps limit n (v ∷ vs) (unit ∷ units) =
    with_row (map_steps (whole_of limit) (entries n v)) (map whole unit) (cover_rows_steps limit n vs units)

abbrev pub signed_row_steps : ℕ → List Fraction → Role → List ℤ → Result (List Fraction) Wide → Result (List Fraction) Wide
signed_row_steps limit tail Above v later = with_row (map_steps (negated_of limit) v) tail later
signed_row_steps limit tail Below v later = with_row (map_steps (whole_of limit) v) tail later
signed_row_steps limit tail Idle v later = later
signed_row_steps limit tail Covering v later = later
signed_row_steps limit tail Free v later = later

unfoldable pub signed_rows_steps : ℕ → ℕ → List Fraction → List NodeLeg → Result (List Fraction) Wide
signed_rows_steps limit n tail [] = Ok []
signed_rows_steps limit n tail (leg ∷ legs) = signed_row_steps limit tail leg.role (entries n leg.option) (signed_rows_steps limit n tail legs)

-- ---- the program: costs first, in order of the variables, and then row by row
unfoldable pub node_steps : ℕ → ℕ → List FractionLeg → Fraction → List Sign → Result LinearProgram Wide
node_steps limit n legs L signs =
    let node = counted_node legs signs in
    let covers = covers_of node in
    let k = length covers in
    let zeros = replicate k fraction_zero in
    after (map_steps (state_cost_steps limit legs L signs) (values (λ i. i) (suc n)))
    (λ costs. after (map_steps (cover_cost_steps limit) (covering_legs legs signs))
    (λ cover_costs. after (cover_rows_steps limit n covers (minus_units k))
    (λ cover_rows. after (signed_rows_steps limit n zeros node)
    (λ signed_rows. Ok (record {
      variables = suc n + k;
      rows = suc (k + length (signed_of n node));
      coefficients = map whole (size_row n k) ++ (cover_rows ++ signed_rows);
      right_sides = whole (pos 1) ∷ replicate (k + length (signed_of n node)) fraction_zero;
      costs = costs ++ cover_costs;
    })))))

-- opens these definitions, for a proof that computes with numerals
unfoldable pub node_program_steps : Unit {0}
unfolding map_steps leg_fill_steps add_earned add_by_role add_all_earned state_cost_steps cover_cost_steps negated_of cover_rows_steps signed_rows_steps node_steps
node_program_steps = tt
