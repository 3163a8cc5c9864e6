-- Each outcome is within the ranges of its line.
use Rattle.std.proofs.Common.{◌≡◌, ℕ, ◌+◌, ◌-◌, ◌≤◌, List, [], ◌∷◌, ◌++◌, length, map, take, replicate, Bool, true, false, ℤ, pos, refl, ap, sym, ◌∙◌, subst, arith, ◌==◌}
use Rattle.std.specs.Prelude.{if◌then◌else◌, Result}
use Rattle.std.specs.List.{All}
use Rattle.std.proofs.lemmas.Int.{ints}
use Rattle.std.proofs.lemmas.List.{length-append, length-map, map-append, take-map, take_at}
use Rattle.std.proofs.lemmas.List.Elements.{All-append, All-map, All-nil, All-cons, All-weaker, recursion_from_All}
use Rattle.exact_num.specs.Fraction.{Fraction}
use Rattle.frac.specs.Range.{limit as largest}
use Rattle.form.specs.declared.orders.Batch.{Batch}
use Rattle.form.specs.declared.orders.Order.{Order}
use Rattle.form.specs.Limits.{IsWithinLimits}
use Rattle.form.specs.StateOf.{is_state, state_or_first, state_of, to_nine}
use Rattle.cert_check.specs.declared.outcome.Mark.TheVariants as mark
use Rattle.clearing.specs.Outcome.{cover_of, fallback, has_values, optimal_outcome, outcome_at, outcome_of, placed_value, run_of, weighted_of, written_node}
use Rattle.clearing_model.specs.Certificate.{Point}
use Rattle.clearing_model.specs.Written.{SplitNode, LeafNode, WrittenTree, Ends as EndsTree, Parts, multipliers_of, nodes_of}
use Rattle.constraint_generation.specs.Run.{CoveredReading, WrittenCover, by_line, by_tree, line_run, on_line, on_tree, sums_hold as line_sums}
use Rattle.sign_tree.specs.declared.trees.Multiplier.{Multiplier}
use Rattle.sign_tree.specs.declared.trees.Node.{Node}
use Rattle.simplex_run.specs.Ending.{Ending, done, unbounded, wide_at, no_unit_left, on_answer, on_steps, where_fits, EndsBy}
use Rattle.reply_print.specs.OutcomePieces.{state_entries}
use Rattle.reply_print.specs.Within.{IsCoverWithin, IsMarkWithin, IsNodeWithin, IsPair, IsPlace, IsPointWithin, IsSmall, leaves_of}
use Rattle.reply_ranges.specs.Laws.{OutcomesAreRanged}
use Rattle.run_values.specs.Values.{Ends, IsCoverOf, IsPlacedOf, IsPointOf, IsSmallState, IsSolutionOf, IsTreeOf, IsValue}
use Rattle.run_values.proofs.Solutions.{runs_have_values}
use Rattle.run_values.proofs.TreeSums.{placed}
use Rattle.exact_num.specs.declared.misfit.Wide.{Wide}
use Rattle.line_cover.specs.Breakpoints.{later_states}
use Rattle.master_program.specs.Reading.{Reading}
use Rattle.master_program.specs.Solve.{master_solve}
use Rattle.master_program.specs.Rounds.{Cleared, rounds}
use Rattle.constraint_generation.specs.Answers.{limits_of}
use Rattle.constraint_generation.proofs.JointRuns.{by_count, joint_run-is, the_line}
use Rattle.search_laws.specs.Rounds.{AreCounted}
use Rattle.search_laws.specs.Run.{sums_hold as tree_sums, tree_run}
use Rattle.search_laws.proofs.Rounds.{SolveIsCounted, rounds_are_counted, solve_counted}
use Rattle.simplex_run.proofs.Endings.{on_answer-by, on_steps-by}

-- the units of an answer and of a step that does not fit
abbrev Spends : {A : Type 0} → ℕ → Ending A → Type 0
Spends budget e = EndsBy (λ a units. units ≤ budget) (Unit {0}) (λ w units. units ≤ budget) e

answer_spends : {A B : Type 0} (budget : ℕ) (e : Ending A) (next : A → ℕ → Ending B) → Spends budget e → ((a : A) (units : ℕ) → units ≤ budget → Spends budget (next a units)) → Spends budget (on_answer e next)
answer_spends budget e next h f = on_answer-by (λ a units. units ≤ budget) (λ b units. units ≤ budget) (Unit {0}) (λ w units. units ≤ budget) e next h f

steps_spend : {A B : Type 0} (budget units : ℕ) (r : Result A Wide) (next : A → Ending B) → units ≤ budget → ((a : A) → Spends budget (next a)) → Spends budget (on_steps units r next)
steps_spend budget units r next low f = on_steps-by (λ b units. units ≤ budget) (Unit {0}) (λ w units. units ≤ budget) units r next (λ w is. low) (λ a is. f a)

solve_spends : (left : ℕ) (e : Ending Reading) → SolveIsCounted 0 (0 + left) e → Spends left e
solve_spends left (done r units) h = omega (arith, h.1)
solve_spends left (unbounded d units) h = tt
solve_spends left (wide_at units w) h = omega (arith, h.1)
solve_spends left (no_unit_left units) h = tt

line_spends : (left : ℕ) (orders : List Order) → Spends left (line_run largest largest left 0 orders)
unfolding line_run
line_spends left orders =
    let solved = master_solve largest largest left 0 1 orders (later_states orders) in
    answer_spends left solved (where_fits (line_sums largest orders)) (solve_spends left solved (solve_counted largest largest 1 left 0 orders (later_states orders)))
    (λ r units low. steps_spend left units (line_sums largest orders r) (λ b. done r units) low (λ b. low))

rounds_spend : (spent budget : ℕ) (e : Ending Cleared) → AreCounted spent budget e → Spends budget e
rounds_spend spent budget (done c units) h = h.1
rounds_spend spent budget (unbounded d units) h = tt
rounds_spend spent budget (wide_at units w) h = h.1
rounds_spend spent budget (no_unit_left units) h = tt

tree_spends : (budget n : ℕ) (orders : List Order) → 1 ≤ n → n ≤ 8 → Spends budget (tree_run (limits_of largest budget) n orders 0)
unfolding tree_run
tree_spends budget n orders some few =
    answer_spends budget (rounds (limits_of largest budget) n orders 0) (where_fits (tree_sums largest n orders))
    (rounds_spend 0 budget (rounds (limits_of largest budget) n orders 0) (rounds_are_counted (limits_of largest budget) n 0 orders some few (omega arith)))
    (λ c units low. steps_spend budget units (tree_sums largest n orders c) (λ b. done c units) low (λ b. low))

run_spends : (batch : Batch) (budget : ℕ) → IsWithinLimits batch → Spends budget (run_of batch budget)
run_spends batch budget within = subst (Spends budget) (sym (joint_run-is (limits_of largest budget) batch.underlyings batch.orders 0)) (by (batch.underlyings == 1))
  where
    by : (one : Bool) → Spends budget (by_count one (limits_of largest budget) batch.underlyings batch.orders 0)
    by true =
        answer_spends budget (the_line (limits_of largest budget) batch.orders 0) on_line
        (subst (λ n. Spends n (the_line (limits_of largest budget) batch.orders 0)) (omega arith) (line_spends (budget - 0) batch.orders))
        (λ r units low. low)
    by false =
        answer_spends budget (tree_run (limits_of largest budget) batch.underlyings batch.orders 0) on_tree (tree_spends budget batch.underlyings batch.orders within.has_forms.some within.has_forms.few)
        (λ c units low. low)

end_spends : (orders : List Order) (budget : ℕ) (e : Ending CoveredReading) → Spends budget e → (outcome_at orders budget e).units ≤ budget
unfolding optimal_outcome fallback
end_spends orders budget (done s units) low = elim (has_values s) as (λ b. (if b then optimal_outcome s units else fallback orders mark.Budget budget).units ≤ budget) [
  | true ↦ low
  | false ↦ omega arith
]
end_spends orders budget (wide_at units w) low = low
end_spends orders budget (no_unit_left units) low = omega arith
end_spends orders budget (unbounded d units) low = omega arith

pub units_within : (batch : Batch) (budget : ℕ) → IsWithinLimits batch → (outcome_of batch budget).units ≤ budget
unfolding outcome_of
units_within batch budget within = end_spends batch.orders budget (run_of batch budget) (run_spends batch budget within)

-- ---- points
small_entries : (z : List ℕ) → IsSmallState z → All IsSmall (map pos z)
small_entries z small = All-map IsSmall pos z (All-weaker (λ x. x ≤ largest) (λ x. IsSmall (pos x)) (λ x low. omega (arith, low)) z small)

own_entries : (z : List ℕ) → take (length z) (to_nine z) ≡ map pos z
own_entries z = let zeros = replicate (9 - length z) 0 in take-map pos (length z) (z ++ zeros) ∙ ap (map pos) (take_at z zeros (length z) refl)

made_small : (z : List ℕ) (b : Bool) (e : is_state z ≡ b) → IsSmallState z → All IsSmall (state_entries (state_or_first z b e))
made_small z true e small = subst (All IsSmall) (sym (own_entries z)) (small_entries z small)
made_small z false e small = All-cons IsSmall (pos 1) (pos 0 ∷ []) (omega arith) (All-cons IsSmall (pos 0) [] (omega arith) (All-nil IsSmall))

pub state_small : (z : List ℕ) → IsSmallState z → All IsSmall (state_entries (state_of z))
unfolding state_of
state_small z small = made_small z (is_state z) refl small

points_within : (points : List Point) → All IsPointOf points → All IsPointWithin (map weighted_of points)
points_within points all =
    All-map IsPointWithin weighted_of points
    (All-weaker IsPointOf (λ point. IsPointWithin (weighted_of point)) (λ (point : Point) (of : IsPointOf point). recursion_from_All IsSmall (state_entries (state_of point.0)) (state_small point.0 of.0)) points all)

-- ---- trees
nodes_within : (tree : WrittenTree) → IsTreeOf 1024 tree → All IsNodeWithin (map written_node (nodes_of tree))
nodes_within (EndsTree ms) of = All-cons IsNodeWithin (written_node (LeafNode (length ms))) [] tt (All-nil IsNodeWithin)
nodes_within (Parts place plus minus) of =
    All-cons IsNodeWithin (written_node (SplitNode place)) (map written_node (nodes_of plus ++ nodes_of minus)) of.0
    (subst (All IsNodeWithin) (sym (map-append written_node (nodes_of plus) (nodes_of minus)))
    (All-append IsNodeWithin (map written_node (nodes_of plus)) (map written_node (nodes_of minus)) (nodes_within plus of.1) (nodes_within minus of.2)))

abbrev HasPlace : Multiplier → Type 0
HasPlace m = IsPlace m.place

multipliers_within : (tree : WrittenTree) → IsTreeOf 1024 tree → All HasPlace (map placed_value (multipliers_of tree))
multipliers_within tree of =
    All-map HasPlace placed_value (multipliers_of tree) (All-weaker (IsPlacedOf 1024) (λ m. HasPlace (placed_value m)) (λ m one. one.place) (multipliers_of tree) (placed 1024 tree of))

leaves-append : (xs ys : List Node) → leaves_of (xs ++ ys) ≡ leaves_of xs + leaves_of ys
leaves-append [] ys = omega arith
leaves-append (x ∷ xs) ys = omega (arith, leaves-append xs ys)

leaves_count : (tree : WrittenTree) → leaves_of (map written_node (nodes_of tree)) ≡ length (multipliers_of tree)
leaves_count (EndsTree ms) = omega arith
leaves_count (Parts place plus minus) =
    omega (
      arith,
      ap leaves_of (map-append written_node (nodes_of plus) (nodes_of minus)),
      leaves-append (map written_node (nodes_of plus)) (map written_node (nodes_of minus)),
      leaves_count plus,
      leaves_count minus,
      length-append (multipliers_of plus) (multipliers_of minus),
    )

cover_within : (cover : WrittenCover) → IsCoverOf cover → IsCoverWithin (cover_of cover)
cover_within by_line of = tt
cover_within (by_tree tree) of = (
  recursion_from_All IsNodeWithin (map written_node (nodes_of tree)) (nodes_within tree of),
  recursion_from_All HasPlace (map placed_value (multipliers_of tree)) (multipliers_within tree of),
  leaves_count tree ∙ sym (length-map (multipliers_of tree) placed_value),
)

-- ---- the operands of a step that does not fit
operand : (pair : ℤ × ℤ) (x : Fraction) → pair ≡ (x.numerator, pos x.denominator) → IsValue x → IsPair pair
operand pair x same is =
    let some = is.lowest.positive in
    let above = is.small.above in
    let below = is.small.below in
    subst IsPair (sym same) (is.lowest, omega (arith, ints, some), omega (arith, above), omega (arith, ints, below))

-- ---- the outcome
solved_within : (s : CoveredReading) (units : ℕ) → IsSolutionOf s → IsMarkWithin (optimal_outcome s units).mark
unfolding optimal_outcome
solved_within (r, cover) units of = (cover_within cover of.1, recursion_from_All IsPointWithin (map weighted_of r.measure) (points_within r.measure of.0.points))

at_end : (orders : List Order) (budget : ℕ) (e : Ending CoveredReading) → Ends IsSolutionOf e → IsMarkWithin (outcome_at orders budget e).mark
unfolding fallback
at_end orders budget (done s units) of = elim (has_values s) as (λ b. IsMarkWithin (if b then optimal_outcome s units else fallback orders mark.Budget budget).mark) [
  | true ↦ solved_within s units of
  | false ↦ tt
]
at_end orders budget (wide_at units w) of = (operand w.left of.left of.left_is of.left_value, operand w.right of.right of.right_is of.right_value)
at_end orders budget (no_unit_left units) of = tt
at_end orders budget (unbounded d units) of = tt

mark_within : (batch : Batch) (budget : ℕ) → IsWithinLimits batch → IsMarkWithin (outcome_of batch budget).mark
unfolding outcome_of
mark_within batch budget within = at_end batch.orders budget (run_of batch budget) (runs_have_values batch budget within)

pub outcomes_are_ranged : OutcomesAreRanged
outcomes_are_ranged batch units within low = (omega (arith, units_within batch units within, low), mark_within batch units within)
