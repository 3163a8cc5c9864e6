-- What the search and the rounds find: states of small entries, and trees of numbers of the code.
use Rattle.std.proofs.Common.{ℕ, zero, suc, ◌+◌, ◌-◌, ◌≤◌, ◌<◌, List, [], ◌∷◌, ◌++◌, length, map, take, zip, replicate, Bool, true, false, arith}
use Rattle.std.specs.Prelude.{nat_lt, if◌then◌else◌, slice_set}
use Rattle.std.specs.List.{All}
use Rattle.std.proofs.lemmas.List.Elements.{All-nil, All-cons, All-append, All-map, All-replicate, All-take, All-weaker}
use Rattle.exact_num.specs.Fraction.{Fraction}
use Rattle.exact_num.specs.Tests.{is_above_zero}
use Rattle.frac.specs.Range.{limit as largest}
use Rattle.form.specs.declared.limits.TheConstants.{MAX_ORDERS}
use Rattle.form.specs.declared.orders.Order.{Order}
use Rattle.form.specs.Limits.{IsOrderWithin}
use Rattle.clearing_model.specs.Tree.{Sign, Unsigned, Plus, Minus}
use Rattle.clearing_model.specs.Written.{PlacedMultiplier, WrittenTree, Ends as EndsTree, Parts}
use Rattle.master_program.specs.Reading.{Reading}
use Rattle.master_program.specs.Solve.{master_solve}
use Rattle.master_program.specs.Roles.{NodeLeg, split_place}
use Rattle.master_program.specs.Rounds.{Cleared, axes, axis_rays, on_search, question_of, rounds, rounds_from}
use Rattle.master_program.specs.Search.{Question, NodeFound, leaf, violated, splits, Found, closed, found, excess_at, leaf_of, legs_in, node_at, node_end, on_excess, on_node, on_optimum, on_place, on_program, on_side, on_state, program_at, search, search_from, state_of, stuck}
use Rattle.master_program.proofs.NodeWider.{both_sides, joined, minus_side}
use Rattle.constraint_generation.specs.Answers.{limits_of}
use Rattle.simplex_run.specs.Ending.{Ending, done, no_unit_left, on_steps}
use Rattle.simplex_run.specs.Run.{Optimum, optimum, run}
use Rattle.run_values.specs.Values.{Ends, IsPlacedOf, IsReadingOf, IsSmall, IsSmallState, IsTreeOf, IsValue}
use Rattle.run_values.proofs.Masters.{HasValues}
use Rattle.run_values.proofs.Nodes.{IsShown, excess_has, leaf_has, legs_are, legs_few, node_count, node_has, place_ends, primitive_has, split_low}
use Rattle.run_values.proofs.Numbers.{answer_ends, steps_end}
use Rattle.run_values.proofs.Payoffs.{HasListed, all_listed}
use Rattle.run_values.proofs.Readings.{fills_are, solve_has}
use Rattle.run_values.proofs.Runs.{IsOptimumOf, run_has}

abbrev IsFound : ℕ → Found → Type 0
IsFound k (closed tree) = IsTreeOf k tree
IsFound k (found z) = IsSmallState z

-- ---- one question
module _ (budget n : ℕ) (orders : List Order) (r : Reading) (listed : All HasListed orders) (of : IsReadingOf r) where
  abbrev pub q : Question
  q = question_of (limits_of largest budget) n orders r

  abbrev pub k : ℕ
  k = length (legs_in q)

  excess_ends : (node : List NodeLeg) (spent : ℕ) (z : List ℕ) → length node ≤ k → IsSmallState z → (excess : Fraction) → Ends (IsShown k) (on_excess q node spent z excess)
  excess_ends node spent z few small excess = by (is_above_zero excess)
    where
      by : (b : Bool) → Ends (IsShown k) (if b then done (violated z) spent else on_place spent (split_place n node))
      by true = small
      by false = place_ends k spent (split_place n node) (split_low n 0 k node (omega (arith, few)))

  state_ends : (node : List NodeLeg) (spent : ℕ) (z : List ℕ) → length node ≤ k → IsSmallState z → Ends (IsShown k) (on_state q node spent z)
  state_ends node spent z few small =
      steps_end IsValue (IsShown k) spent (excess_at q z) (on_excess q node spent z) (excess_has (zip orders r.fills) r.liability z (fills_are HasListed orders r.fills listed of.fills) of.liability small)
      (λ excess e. excess_ends node spent z few small excess)

  optimum_ends : (node : List NodeLeg) (o : Optimum) (spent : ℕ) → length node ≤ k → IsOptimumOf o → Ends (IsShown k) (on_optimum q node o spent)
  optimum_ends node (optimum x y reduced value) spent few is = by (is_above_zero value)
    where
      by : (b : Bool) → Ends (IsShown k) (if b then on_steps spent (state_of q x) (on_state q node spent) else done (leaf (leaf_of node y)) spent)
      by true = steps_end IsSmallState (IsShown k) spent (state_of q x) (on_state q node spent) (primitive_has (take (suc n) x) (All-take IsValue (suc n) x is.0)) (λ z small. state_ends node spent z few small)
      by false = leaf_has k node y few is.1

  node_ends : (signs : List Sign) (spent : ℕ) → Ends (IsShown k) (node_end q signs spent)
  unfolding node_end
  node_ends signs spent = by (nat_lt spent budget)
    where
      few : length (node_at q signs) ≤ k
      few = node_count (legs_in q) signs

      by : (b : Bool) → Ends (IsShown k) (if b then on_steps (spent + 1) (program_at q signs) (on_program q (node_at q signs) (spent + 1)) else no_unit_left spent)
      by true =
          steps_end HasValues (IsShown k) (spent + 1) (program_at q signs) (on_program q (node_at q signs) (spent + 1)) (node_has n (legs_in q) r.liability signs (legs_are orders r.fills listed of.fills) of.liability)
          (λ p has. answer_ends IsOptimumOf (IsShown k) (run largest p (budget - (spent + 1)) (spent + 1)) (on_optimum q (node_at q signs)) (run_has p (budget - (spent + 1)) (spent + 1) has)
          (λ o units is. optimum_ends (node_at q signs) o units few is))
      by false = tt

  shown_ends : (next : ℕ → ℕ → Ending Found) → ((place units : ℕ) → place < k → Ends (IsFound k) (next place units)) → (shown : NodeFound) (units : ℕ) → IsShown k shown → Ends (IsFound k) (on_node next shown units)
  shown_ends next f (leaf ms) units h = h
  shown_ends next f (violated z) units h = h
  shown_ends next f (splits place) units h = f place units h

  side_ends : (next : WrittenTree → ℕ → Ending Found) → ((tree : WrittenTree) (units : ℕ) → IsTreeOf k tree → Ends (IsFound k) (next tree units)) → (shown : Found) (units : ℕ) → IsFound k shown
      → Ends (IsFound k) (on_side next shown units)
  side_ends next f (closed tree) units h = f tree units h
  side_ends next f (found z) units h = h

  search_from_ends : (depth : ℕ) (signs : List Sign) (spent : ℕ) → Ends (IsFound k) (search_from q depth signs spent)
  unfolding search_from
  search_from_ends zero signs spent =
      answer_ends (IsShown k) (IsFound k) (node_end q signs spent) (on_node (λ place units. stuck units)) (node_ends signs spent) (shown_ends (λ place units. stuck units) (λ place units low. tt))
  search_from_ends (suc depth) signs spent =
      answer_ends (IsShown k) (IsFound k) (node_end q signs spent) (on_node (both_sides q depth signs)) (node_ends signs spent)
      (shown_ends (both_sides q depth signs)
      (λ place units low.
      answer_ends (IsFound k) (IsFound k) (search_from q depth (slice_set signs place Plus) units) (on_side (minus_side q depth signs place)) (search_from_ends depth (slice_set signs place Plus) units)
      (side_ends (minus_side q depth signs place)
      (λ plus units above.
      answer_ends (IsFound k) (IsFound k) (search_from q depth (slice_set signs place Minus) units) (on_side (joined place plus)) (search_from_ends depth (slice_set signs place Minus) units)
      (side_ends (joined place plus) (λ minus units below. ((omega arith, omega (arith, low)), above, below)))))))

  pub search_ends : (spent : ℕ) → Ends (IsFound k) (search q spent)
  unfolding search
  search_ends spent = search_from_ends k (replicate k Unsigned) spent

-- more legs
more_legs : (k m : ℕ) → k ≤ m → (tree : WrittenTree) → IsTreeOf k tree → IsTreeOf m tree
more_legs k m le (EndsTree ms) h =
    All-weaker (IsPlacedOf k) (IsPlacedOf m) (λ (one : PlacedMultiplier) (p : IsPlacedOf k one). let low = p.place.1 in record { place = (p.place.0, omega (arith, low, le)); by = p.by }) ms h
more_legs k m le (Parts place plus minus) h = let low = h.0.1 in ((h.0.0, omega (arith, low, le)), more_legs k m le plus h.1, more_legs k m le minus h.2)

-- ---- the first states
abbrev after_zero : List ℕ → List ℕ
after_zero s = 0 ∷ s

all_after_zero : (zs : List (List ℕ)) → All IsSmallState zs → All IsSmallState (map after_zero zs)
all_after_zero zs all = All-map IsSmallState after_zero zs (All-weaker IsSmallState (λ s. IsSmallState (0 ∷ s)) (λ s small. All-cons IsSmall 0 s (omega arith) small) zs all)

axes_small : (n : ℕ) → All IsSmallState (axes n)
axes_small zero = All-nil IsSmallState
axes_small (suc n) =
    All-cons IsSmallState (1 ∷ replicate n 0) (map after_zero (axes n)) (All-cons IsSmall 1 (replicate n 0) (omega arith) (All-replicate IsSmall n 0 (omega arith))) (all_after_zero (axes n) (axes_small n))

rays_small : (n : ℕ) → All IsSmallState (axis_rays n)
rays_small n = all_after_zero (axes n) (axes_small n)

-- ---- the rounds
abbrev pub IsClearedOf : Cleared → Type 0
IsClearedOf (r, tree) = IsReadingOf r × IsTreeOf 1024 tree

found_ends : (r : Reading) (k : ℕ) (next : List ℕ → ℕ → Ending Cleared) → IsReadingOf r → k ≤ 1024 → ((z : List ℕ) (units : ℕ) → IsSmallState z → Ends IsClearedOf (next z units))
    → (shown : Found) (units : ℕ) → IsFound k shown → Ends IsClearedOf (on_search r next shown units)
found_ends r k next of few f (closed tree) units h = (of, more_legs k 1024 few tree h)
found_ends r k next of few f (found z) units h = f z units h

rounds_from_ends : (budget n : ℕ) (orders : List Order) (left : ℕ) (states : List (List ℕ)) (spent : ℕ) → length orders ≤ MAX_ORDERS → All IsOrderWithin orders → All IsSmallState states
    → Ends IsClearedOf (rounds_from (limits_of largest budget) n orders left states spent)
unfolding rounds_from
rounds_from_ends budget n orders zero states spent few within small = tt
rounds_from_ends budget n orders (suc left) states spent few within small =
    answer_ends IsReadingOf IsClearedOf (master_solve largest largest (budget - spent) spent n orders states) _ (solve_has (budget - spent) spent n orders states within small)
    (λ r units of.
    let asked = question_of (limits_of largest budget) n orders r in
    let k : ℕ = length (legs_in asked) in
    answer_ends (IsFound k) IsClearedOf (search asked units) _ (search_ends budget n orders r (all_listed orders within) of units)
    (found_ends r k (λ z units. rounds_from (limits_of largest budget) n orders left (states ++ (z ∷ [])) units) of (omega (arith, few, legs_few orders r.fills))
    (λ z units one. rounds_from_ends budget n orders left (states ++ (z ∷ [])) units few within (All-append IsSmallState states (z ∷ []) small (All-cons IsSmallState z [] one (All-nil IsSmallState))))))

pub rounds_end : (budget n spent : ℕ) (orders : List Order) → length orders ≤ MAX_ORDERS → All IsOrderWithin orders → Ends IsClearedOf (rounds (limits_of largest budget) n orders spent)
unfolding rounds
rounds_end budget n spent orders few within = rounds_from_ends budget n orders (budget + 1) (axis_rays n) spent few within (rays_small n)
