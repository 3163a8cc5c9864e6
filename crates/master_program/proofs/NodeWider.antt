-- A greater limit changes nothing where each step fits.
use Rattle.std.proofs.Common.{ℕ, zero, suc, ◌+◌, ◌-◌, ◌≤◌, List, [], ◌∷◌, ◌++◌, length, map, replicate, take, zip, get_or, Bool, true, false, ℤ, pos, refl}
use Rattle.std.specs.Prelude.{Result, Ok, if◌then◌else◌, nat_lt, slice_set, unsigned_abs, ◌/◌}
use Rattle.arithmetic.specs.Gcd.{gcd}
use Rattle.arithmetic.specs.Sums.{positive_part}
use Rattle.exact_num.specs.declared.misfit.Wide.{Wide}
use Rattle.exact_num.specs.Fraction.{Fraction, whole, negated}
use Rattle.exact_num.specs.Fits.{whole_of}
use Rattle.exact_num.proofs.GreaterLimits.{Agree, same, both, whole_agrees, add_agrees, mul_agrees}
use Rattle.simplex_run.specs.Places.{fraction_zero}
use Rattle.exact_num.specs.Tests.{is_above_zero}
use Rattle.simplex_run.specs.Ending.{Ending, done, no_unit_left, on_answer, on_steps}
use Rattle.simplex_run.specs.Run.{Optimum, run, optimum}
use Rattle.simplex_run.proofs.Endings.{IsAlike, on_answer-alike, on_steps-alike}
use Rattle.simplex_run.proofs.Wider.{same_with_greater_limit as same_run}
use Rattle.form.specs.declared.orders.Side.{Side}
use Rattle.form.specs.declared.orders.Side.TheVariants.{Buy, Sell}
use Rattle.form.specs.declared.orders.Order.{Order}
use Rattle.form.specs.Vector.{scale_of}
use Rattle.form.specs.Primitive.{multiple_with, multiples_of, primitive_vector, primitive_of}
use Rattle.form.specs.Steps.{add_for_side}
use Rattle.clearing_model.specs.Tree.{Sign, Unsigned, Plus, Minus}
use Rattle.clearing_model.specs.Written.{WrittenTree, Parts}
use Rattle.master_program.specs.Master.{order_payoff, map_steps}
use Rattle.master_program.specs.Reading.{Reading}
use Rattle.master_program.specs.Solve.{master_solve}
use Rattle.master_program.proofs.Wider.{all_more, folds_agree, plus_agrees, less_agrees}
use Rattle.master_program.proofs.SolvedWider.{solves_are_the_same}
use Rattle.master_program.specs.Roles.{Role, Idle, Covering, Free, Above, Below, NodeLeg, values, entries}
use Rattle.master_program.specs.Node.{covers_of, minus_units}
use Rattle.sign_tree.specs.Legs.{FractionLeg}
use Rattle.sign_tree.specs.Walk.{less_liability}
use Rattle.master_program.specs.NodeSteps.{counted_role, counted_node, leg_fill_steps, add_earned, add_by_role, add_all_earned, state_cost_steps, covering_legs, cover_cost_steps, negated_of, with_row, cover_rows_steps, signed_row_steps, signed_rows_steps, node_steps}
use Rattle.master_program.specs.Search.{Question, legs_in, add_owed, add_filled, excess_of, excess_at, NodeFound, leaf, violated, splits, leaf_of, on_excess, on_state, state_of, on_optimum, on_program, program_at, node_at, node_end, Found, closed, found, stuck, on_node, on_side, search_from, search, within, SearchesAreTheSame}
use Rattle.master_program.specs.Rounds.{axis_rays, Limits, Cleared, question_of, on_search, rounds_from, rounds, limits_within, RoundsAreTheSame}

-- ---- the program of a node
fill_agrees : (l l' : ℕ) → l ≤ l' → (leg : FractionLeg) → Agree (leg_fill_steps l leg) (leg_fill_steps l' leg)
unfolding leg_fill_steps
fill_agrees l l' le leg = both _ _ _ _ (whole_agrees l l' le (pos leg.size)) (λ size. mul_agrees l l' le leg.fill size)

earned_agrees : (l l' : ℕ) → l ≤ l' → (total : Fraction) (leg : FractionLeg) (x : ℤ) → Agree (add_earned l total leg x) (add_earned l' total leg x)
unfolding add_earned
earned_agrees l l' le total leg x = both _ _ _ _ (fill_agrees l l' le leg) (λ fill. both _ _ _ _ (whole_agrees l l' le x) (λ entry. plus_agrees l l' le total fill entry))

role_agrees : (l l' : ℕ) → l ≤ l' → (total : Fraction) (role : Role) (leg : FractionLeg) (x : ℤ) → Agree (add_by_role l total role leg x) (add_by_role l' total role leg x)
unfolding add_by_role
role_agrees l l' le total Free leg x = earned_agrees l l' le total leg (pos (positive_part x))
role_agrees l l' le total Above leg x = earned_agrees l l' le total leg x
role_agrees l l' le total Below leg x = same (Ok total)
role_agrees l l' le total Covering leg x = same (Ok total)
role_agrees l l' le total Idle leg x = same (Ok total)

all_earned_agree : (l l' : ℕ) → l ≤ l' → (total : Fraction) (i : ℕ) (legs : List FractionLeg) (signs : List Sign) → Agree (add_all_earned l total i legs signs) (add_all_earned l' total i legs signs)
unfolding add_all_earned
all_earned_agree l l' le total i [] signs = same (Ok total)
all_earned_agree l l' le total i (leg ∷ legs) [] = same (Ok total)
all_earned_agree l l' le total i (leg ∷ legs) (sign ∷ signs) =
    both _ _ _ _ (role_agrees l l' le total (counted_role leg sign) leg (get_or leg.option i (pos 0))) (λ sum. all_earned_agree l l' le sum i legs signs)

liability_agrees : (l l' : ℕ) → l ≤ l' → (L : Fraction) (i : ℕ) (total : Fraction) → Agree (less_liability l L i total) (less_liability l' L i total)
liability_agrees l l' le L zero total = add_agrees l l' le total (negated L)
liability_agrees l l' le L (suc i) total = same (Ok total)

state_cost_agrees : (l l' : ℕ) → l ≤ l' → (legs : List FractionLeg) (L : Fraction) (signs : List Sign) (i : ℕ) → Agree (state_cost_steps l legs L signs i) (state_cost_steps l' legs L signs i)
unfolding state_cost_steps
state_cost_agrees l l' le legs L signs i = both _ _ _ _ (all_earned_agree l l' le fraction_zero i legs signs) (λ total. liability_agrees l l' le L i total)

cover_cost_agrees : (l l' : ℕ) → l ≤ l' → (leg : FractionLeg) → Agree (cover_cost_steps l leg) (cover_cost_steps l' leg)
unfolding cover_cost_steps
cover_cost_agrees l l' le leg = both _ _ _ _ (fill_agrees l l' le leg) (λ fill. same (Ok (negated fill)))

negated_agrees : (l l' : ℕ) → l ≤ l' → (x : ℤ) → Agree (negated_of l x) (negated_of l' x)
unfolding negated_of
negated_agrees l l' le x = both _ _ _ _ (whole_agrees l l' le x) (λ entry. same (Ok (negated entry)))

row_agrees : (row row' later later' : Result (List Fraction) Wide) (tail : List Fraction) → Agree row row' → Agree later later' → Agree (with_row row tail later) (with_row row' tail later')
row_agrees row row' later later' tail h k = both _ _ _ _ h (λ entries. both _ _ _ _ k (λ rows. same (Ok ((entries ++ tail) ++ rows))))

taken_agrees : (l l' : ℕ) → l ≤ l' → (v : List ℤ) → Agree (map_steps (whole_of l) v) (map_steps (whole_of l') v)
taken_agrees l l' le v = all_more (whole_of l) (whole_of l') (whole_agrees l l' le) v

cover_rows_agree : (l l' n : ℕ) → l ≤ l' → (vs units : List (List ℤ)) → Agree (cover_rows_steps l n vs units) (cover_rows_steps l' n vs units)
unfolding cover_rows_steps
cover_rows_agree l l' n le [] units = same (Ok [])
cover_rows_agree l l' n le (v ∷ vs) [] = same (Ok [])
cover_rows_agree l l' n le (v ∷ vs) (unit ∷ units) =
    row_agrees (map_steps (whole_of l) (entries n v)) (map_steps (whole_of l') (entries n v)) (cover_rows_steps l n vs units) (cover_rows_steps l' n vs units) (map whole unit)
    (taken_agrees l l' le (entries n v)) (cover_rows_agree l l' n le vs units)

signed_row_agrees : (l l' : ℕ) → l ≤ l' → (tail : List Fraction) (role : Role) (v : List ℤ) (later later' : Result (List Fraction) Wide) → Agree later later' → Agree (signed_row_steps l tail role v later) (signed_row_steps l' tail role v later')
signed_row_agrees l l' le tail Above v later later' h = row_agrees (map_steps (negated_of l) v) (map_steps (negated_of l') v) later later' tail (all_more (negated_of l) (negated_of l') (negated_agrees l l' le) v) h
signed_row_agrees l l' le tail Below v later later' h = row_agrees (map_steps (whole_of l) v) (map_steps (whole_of l') v) later later' tail (taken_agrees l l' le v) h
signed_row_agrees l l' le tail Idle v later later' h = h
signed_row_agrees l l' le tail Covering v later later' h = h
signed_row_agrees l l' le tail Free v later later' h = h

signed_rows_agree : (l l' n : ℕ) → l ≤ l' → (tail : List Fraction) (legs : List NodeLeg) → Agree (signed_rows_steps l n tail legs) (signed_rows_steps l' n tail legs)
unfolding signed_rows_steps
signed_rows_agree l l' n le tail [] = same (Ok [])
signed_rows_agree l l' n le tail (leg ∷ legs) =
    signed_row_agrees l l' le tail leg.role (entries n leg.option) (signed_rows_steps l n tail legs) (signed_rows_steps l' n tail legs) (signed_rows_agree l l' n le tail legs)

node_agrees : (l l' n : ℕ) → l ≤ l' → (legs : List FractionLeg) (L : Fraction) (signs : List Sign) → Agree (node_steps l n legs L signs) (node_steps l' n legs L signs)
unfolding node_steps
node_agrees l l' n le legs L signs =
    let node = counted_node legs signs in
    let covers = covers_of node in
    both _ _ _ _ (all_more (state_cost_steps l legs L signs) (state_cost_steps l' legs L signs) (state_cost_agrees l l' le legs L signs) (values (λ i. i) (suc n)))
    (λ costs. both _ _ _ _ (all_more (cover_cost_steps l) (cover_cost_steps l') (cover_cost_agrees l l' le) (covering_legs legs signs))
    (λ cover_costs. both _ _ _ _ (cover_rows_agree l l' n le covers (minus_units (length covers)))
    (λ cover_rows. both _ _ _ _ (signed_rows_agree l l' n le (replicate (length covers) fraction_zero) node) (λ signed_rows. same _))))

-- ---- the state and the net
multiple_agrees : (l l' : ℕ) → l ≤ l' → (D f : Fraction) → Agree (multiple_with l D f) (multiple_with l' D f)
multiple_agrees l l' le D f = mul_agrees l l' le (whole (pos (unsigned_abs D.numerator / gcd (unsigned_abs D.numerator) f.denominator))) (whole (pos f.denominator))

multiples_agree : (l l' : ℕ) → l ≤ l' → (D : Fraction) (fs : List Fraction) → Agree (multiples_of l D fs) (multiples_of l' D fs)
multiples_agree l l' le D [] = same (Ok [])
multiples_agree l l' le D (f ∷ fs) = both _ _ _ _ (mul_agrees l l' le f D) (λ p. both _ _ _ _ (multiples_agree l l' le D fs) (λ z. same (Ok (positive_part p.numerator ∷ z))))

primitive_agrees : (l l' : ℕ) → l ≤ l' → (fs : List Fraction) → Agree (primitive_of l fs) (primitive_of l' fs)
unfolding primitive_of
primitive_agrees l l' le fs = both _ _ _ _ (folds_agree (multiple_with l) (multiple_with l') (multiple_agrees l l' le) (whole (pos 1)) fs) (λ D. both _ _ _ _ (multiples_agree l l' le D fs) (λ z. same (Ok (primitive_vector z))))

side_agrees : (l l' : ℕ) → l ≤ l' → (side : Side) (total a b : Fraction) → Agree (add_for_side l total side a b) (add_for_side l' total side a b)
side_agrees l l' le Buy total a b = plus_agrees l l' le total a b
side_agrees l l' le Sell total a b = less_agrees l l' le total a b

owed_agrees : (payoff_limit l l' : ℕ) → l ≤ l' → (z : List ℕ) (total : Fraction) (fill : Order × Fraction) → Agree (add_owed payoff_limit l z total fill) (add_owed payoff_limit l' z total fill)
unfolding add_owed
owed_agrees payoff_limit l l' le z total fill =
    both _ _ _ _ (same (order_payoff payoff_limit fill.0 z))
    (λ payoff. both _ _ _ _ (whole_agrees l l' le payoff.numerator) (λ owed. side_agrees l l' le fill.0.side total fill.1 owed))

filled_agrees : (b : Bool) (r r' s : Result Fraction Wide) → Agree r r' → Agree (if b then r else s) (if b then r' else s)
filled_agrees true r r' s h = h
filled_agrees false r r' s h = same s

excess_agrees : (payoff_limit l l' : ℕ) → l ≤ l' → (fills : List (Order × Fraction)) (L : Fraction) (z : List ℕ) → Agree (excess_of payoff_limit l fills L z) (excess_of payoff_limit l' fills L z)
unfolding excess_of
excess_agrees payoff_limit l l' le fills L z =
    both _ _ _ _
    (folds_agree (add_filled payoff_limit l z) (add_filled payoff_limit l' z)
    (λ total fill. filled_agrees (is_above_zero fill.1) (add_owed payoff_limit l z total fill) (add_owed payoff_limit l' z total fill) (Ok total) (owed_agrees payoff_limit l l' le z total fill)) fraction_zero fills)
    (λ net. both _ _ _ _ (whole_agrees l l' le (pos (scale_of z))) (λ t. less_agrees l l' le net L t))

-- ---- a node
excess_alike : (q : Question) (l' : ℕ) → q.limit ≤ l' → (node : List NodeLeg) (spent : ℕ) (z : List ℕ) → IsAlike (on_state q node spent z) (on_state (within l' q) node spent z)
excess_alike q l' le node spent z =
    on_steps-alike spent (excess_at q z) (excess_at (within l' q) z) (on_excess q node spent z) (on_excess (within l' q) node spent z)
    (excess_agrees q.payoff_limit q.limit l' le (zip q.orders q.fills) q.liability z) (λ excess fits. refl)

-- one of two ways, the second the same in both
choice_alike : (b : Bool) (e e' other : Ending NodeFound) → IsAlike e e' → IsAlike (if b then e else other) (if b then e' else other)
choice_alike true e e' other h = h
choice_alike false e e' other h = λ fits. refl

optimum_alike : (q : Question) (l' : ℕ) → q.limit ≤ l' → (node : List NodeLeg) (o : Optimum) (spent : ℕ) → IsAlike (on_optimum q node o spent) (on_optimum (within l' q) node o spent)
optimum_alike q l' le node (optimum x y reduced value) spent =
    let more : Question = within l' q in
    choice_alike (is_above_zero value) (on_steps spent (state_of q x) (on_state q node spent)) (on_steps spent (state_of more x) (on_state more node spent)) (done (leaf (leaf_of node y)) spent)
    (on_steps-alike spent (state_of q x) (state_of more x) (on_state q node spent) (on_state more node spent)
    (primitive_agrees q.limit l' le (take (suc q.underlyings) x)) (excess_alike q l' le node spent))

node_alike : (q : Question) (l' : ℕ) → q.limit ≤ l' → (signs : List Sign) (spent : ℕ) → IsAlike (node_end q signs spent) (node_end (within l' q) signs spent)
unfolding node_end
node_alike q l' le signs spent =
    let more : Question = within l' q in
    let node = node_at q signs in
    choice_alike (nat_lt spent q.budget) (on_steps (spent + 1) (program_at q signs) (on_program q node (spent + 1))) (on_steps (spent + 1) (program_at more signs) (on_program more node (spent + 1))) (no_unit_left spent)
    (on_steps-alike (spent + 1) (program_at q signs) (program_at more signs) (on_program q node (spent + 1)) (on_program more node (spent + 1))
    (node_agrees q.limit l' q.underlyings le (legs_in q) q.liability signs)
    (λ p. on_answer-alike (run q.limit p (q.budget - (spent + 1)) (spent + 1)) (run l' p (q.budget - (spent + 1)) (spent + 1)) (on_optimum q node) (on_optimum more node)
    (same_run q.limit l' p (q.budget - (spent + 1)) (spent + 1) le) (optimum_alike q l' le node)))

-- ---- a search
on_node-alike : (next next' : ℕ → ℕ → Ending Found) → ((place spent : ℕ) → IsAlike (next place spent) (next' place spent)) → (shown : NodeFound) (spent : ℕ) → IsAlike (on_node next shown spent) (on_node next' shown spent)
on_node-alike next next' h (leaf ms) spent fits = refl
on_node-alike next next' h (violated z) spent fits = refl
on_node-alike next next' h (splits place) spent fits = h place spent fits

on_side-alike : (next next' : WrittenTree → ℕ → Ending Found) → ((tree : WrittenTree) (spent : ℕ) → IsAlike (next tree spent) (next' tree spent)) → (shown : Found) (spent : ℕ) → IsAlike (on_side next shown spent) (on_side next' shown spent)
on_side-alike next next' h (closed tree) spent fits = h tree spent fits
on_side-alike next next' h (found z) spent fits = refl

-- what follows both sides, the first side, and the split
abbrev pub joined : ℕ → WrittenTree → WrittenTree → ℕ → Ending Found
joined place plus minus units = done (closed (Parts (place + 1) plus minus)) units

abbrev pub minus_side : Question → ℕ → List Sign → ℕ → WrittenTree → ℕ → Ending Found
minus_side q depth signs place plus units = on_answer (search_from q depth (slice_set signs place Minus) units) (on_side (joined place plus))

abbrev pub both_sides : Question → ℕ → List Sign → ℕ → ℕ → Ending Found
both_sides q depth signs place units = on_answer (search_from q depth (slice_set signs place Plus) units) (on_side (minus_side q depth signs place))

from_alike : (q : Question) (l' : ℕ) → q.limit ≤ l' → (depth : ℕ) (signs : List Sign) (spent : ℕ) → IsAlike (search_from q depth signs spent) (search_from (within l' q) depth signs spent)
unfolding search_from
from_alike q l' le zero signs spent =
    on_answer-alike (node_end q signs spent) (node_end (within l' q) signs spent) (on_node (λ place units. stuck units)) (on_node (λ place units. stuck units)) (node_alike q l' le signs spent)
    (on_node-alike (λ place units. stuck units) (λ place units. stuck units) (λ place units fits. refl))
from_alike q l' le (suc depth) signs spent =
    let more : Question = within l' q in
    on_answer-alike (node_end q signs spent) (node_end more signs spent) (on_node (both_sides q depth signs)) (on_node (both_sides more depth signs)) (node_alike q l' le signs spent)
    (on_node-alike (both_sides q depth signs) (both_sides more depth signs)
    (λ place units.
    on_answer-alike (search_from q depth (slice_set signs place Plus) units) (search_from more depth (slice_set signs place Plus) units) (on_side (minus_side q depth signs place)) (on_side (minus_side more depth signs place))
    (from_alike q l' le depth (slice_set signs place Plus) units)
    (on_side-alike (minus_side q depth signs place) (minus_side more depth signs place)
    (λ plus units.
    on_answer-alike (search_from q depth (slice_set signs place Minus) units) (search_from more depth (slice_set signs place Minus) units) (on_side (joined place plus)) (on_side (joined place plus))
    (from_alike q l' le depth (slice_set signs place Minus) units)
    (on_side-alike (joined place plus) (joined place plus) (λ minus units fits. refl))))))

pub searches_are_the_same : SearchesAreTheSame
unfolding search
searches_are_the_same q l' spent le = from_alike q l' le (length (legs_in q)) (replicate (length (legs_in q)) Unsigned) spent

-- ---- the rounds
on_search-alike : (r : Reading) (next next' : List ℕ → ℕ → Ending Cleared) → ((z : List ℕ) (spent : ℕ) → IsAlike (next z spent) (next' z spent)) → (shown : Found) (spent : ℕ) → IsAlike (on_search r next shown spent) (on_search r next' shown spent)
on_search-alike r next next' h (closed tree) spent fits = refl
on_search-alike r next next' h (found z) spent fits = h z spent fits

-- what follows a state that is found, and what follows a solve
abbrev pub next_round : Limits → ℕ → List Order → ℕ → List (List ℕ) → List ℕ → ℕ → Ending Cleared
next_round limits n orders left states z units = rounds_from limits n orders left (states ++ (z ∷ [])) units

abbrev pub next_search : Limits → ℕ → List Order → ℕ → List (List ℕ) → Reading → ℕ → Ending Cleared
next_search limits n orders left states r units = on_answer (search (question_of limits n orders r) units) (on_search r (next_round limits n orders left states))

abbrev pub solve_at : Limits → ℕ → List Order → List (List ℕ) → ℕ → Ending Reading
solve_at limits n orders states spent = master_solve limits.payoff_limit limits.limit (limits.budget - spent) spent n orders states

rounds_alike : (limits : Limits) (l' n : ℕ) (orders : List Order) → limits.limit ≤ l' → (left : ℕ) (states : List (List ℕ)) (spent : ℕ)
    → IsAlike (rounds_from limits n orders left states spent) (rounds_from (limits_within l' limits) n orders left states spent)
unfolding rounds_from
rounds_alike limits l' n orders le zero states spent fits = refl
rounds_alike limits l' n orders le (suc left) states spent fits =
    let more : Limits = limits_within l' limits in
    on_answer-alike (solve_at limits n orders states spent) (solve_at more n orders states spent) (next_search limits n orders left states) (next_search more n orders left states)
    (solves_are_the_same limits.payoff_limit limits.limit l' (limits.budget - spent) spent n orders states le)
    (λ r units.
    on_answer-alike (search (question_of limits n orders r) units) (search (question_of more n orders r) units) (on_search r (next_round limits n orders left states)) (on_search r (next_round more n orders left states))
    (searches_are_the_same (question_of limits n orders r) l' units le)
    (on_search-alike r (next_round limits n orders left states) (next_round more n orders left states)
    (λ z units. rounds_alike limits l' n orders le left (states ++ (z ∷ [])) units))) fits

pub rounds_are_the_same : RoundsAreTheSame
unfolding rounds
rounds_are_the_same limits l' n spent orders le fits = rounds_alike limits l' n orders le (limits.budget + 1) (axis_rays n) spent fits
