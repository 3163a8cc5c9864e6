-- What a search writes is at most what it spends: a unit for each node, and a turn for each
-- multiplier.
use Rattle.std.proofs.Common.{◌≡◌, ℕ, zero, suc, ◌+◌, ◌-◌, ◌≤◌, ◌<◌, List, [], ◌∷◌, length, take, drop, replicate, arith, ℤ, Bool, true, false, refl, sym, subst, length-append}
use Rattle.std.specs.Prelude.{Result, Ok, Err, Option, Some, None, if◌then◌else◌, nat_lt, slice_set}
use Rattle.exact_num.specs.declared.misfit.Wide.{Wide}
use Rattle.exact_num.specs.CommonDenominator.{amount_over}
use Rattle.exact_num.specs.Fraction.{Fraction}
use Rattle.exact_num.specs.Tests.{is_above_zero}
use Rattle.simplex_run.specs.Places.{fraction_zero}
use Rattle.simplex_run.specs.Program.{LinearProgram}
use Rattle.simplex_run.specs.Ending.{Ending, done, unbounded, wide_at, no_unit_left, on_answer, on_steps}
use Rattle.simplex_run.specs.Run.{Optimum, run, optimum}
use Rattle.simplex_run.specs.Optimum.{IsProgram}
use Rattle.clearing_model.specs.Tree.{Sign, Unsigned, Plus, Minus}
use Rattle.clearing_model.specs.Written.{WrittenTree, nodes_of, multipliers_of}
use Rattle.master_program.specs.Roles.{Role, Idle, Covering, Free, Above, Below, NodeLeg, with_multiplier, leg_multipliers, placed_from, split_place}
use Rattle.master_program.specs.Node.{if_covering, covers_of}
use Rattle.master_program.specs.NodeSteps.{legs_over}
use Rattle.master_program.specs.Search.{Question, legs_in, NodeFound, leaf, violated, splits, on_place, multipliers_of as dual_multipliers, leaf_of, excess_at, on_excess, on_state, state_of, on_optimum, on_program, program_at, node_at, node_end, Found, closed, found, stuck, on_node, on_side, search_from, search}
use Rattle.master_program.proofs.NodeBounded.{node_is_program}
use Rattle.master_program.proofs.NodeWider.{joined, minus_side, both_sides}
use Rattle.search_laws.specs.Search.{IsAsked}
use Rattle.search_laws.specs.Sizes.{one_if, count_above, IsTurned, IsNodePaid, NodesArePaid, size_of, IsPaid, BranchesArePaid, SearchIsPaid}
use Rattle.search_laws.proofs.Nodes.{own, own_over, program_is}
use Rattle.search_laws.proofs.Turned.{runs_are_turned}

-- ---- the multipliers of a leaf
placed_count : (place : ℕ) (ms : List Fraction) → length (placed_from place ms) ≡ count_above ms
placed_count place [] = refl
placed_count place (m ∷ ms) = by (is_above_zero m) (placed_count (place + 1) ms)
  where
    by : (b : Bool) → length (placed_from (place + 1) ms) ≡ count_above ms
        → length (if b then (record { place = place; by = m }) ∷ placed_from (place + 1) ms else placed_from (place + 1) ms) ≡ one_if b + count_above ms
    by true h = omega (arith, h)
    by false h = omega (arith, h)

none_taken : (k : ℕ) (fs : List Fraction) → fs ≡ [] → count_above (take k fs) ≡ 0
none_taken zero [] e = refl
none_taken (suc k) [] e = refl
none_taken k (f ∷ fs) e = cc

zero_counts : one_if (is_above_zero fraction_zero) ≡ 0
zero_counts = refl

-- each dual value is that of at most one leg
taken_by_role : (role : Role) (option : List ℤ) (vs : List (List ℤ)) (S P : List Fraction) (next : List Fraction → List Fraction → List Fraction)
    → ((S P : List Fraction) → count_above (next S P) ≤ count_above (take (length vs) S) + count_above P)
    → count_above (with_multiplier fraction_zero role S P next) ≤ count_above (take (length (if_covering role option vs)) S) + count_above P
taken_by_role Covering option vs [] P next h = omega (arith, zero_counts, h [] P, none_taken (length vs) [] refl)
taken_by_role Covering option vs (m ∷ S) P next h = omega (arith, h S P)
taken_by_role Above option vs S [] next h = omega (arith, zero_counts, h S [])
taken_by_role Above option vs S (m ∷ P) next h = omega (arith, h S P)
taken_by_role Below option vs S [] next h = omega (arith, zero_counts, h S [])
taken_by_role Below option vs S (m ∷ P) next h = omega (arith, h S P)
taken_by_role Free option vs S P next h = omega (arith, zero_counts, h S P)
taken_by_role Idle option vs S P next h = omega (arith, zero_counts, h S P)

taken_count : (node : List NodeLeg) (S P : List Fraction) → count_above (leg_multipliers fraction_zero node S P) ≤ count_above (take (length (covers_of node)) S) + count_above P
taken_count [] S P = omega arith
taken_count (leg ∷ node) S P = taken_by_role leg.role leg.option (covers_of node) S P (λ S P. leg_multipliers fraction_zero node S P) (taken_count node)

count_parts : (k : ℕ) (fs : List Fraction) → count_above (take k fs) + count_above (drop k fs) ≡ count_above fs
count_parts zero fs = omega arith
count_parts (suc k) [] = omega arith
count_parts (suc k) (f ∷ fs) = omega (arith, count_parts k fs)

pub leaf_few : (node : List NodeLeg) (y : List Fraction) → length (leaf_of node y) ≤ count_above y
leaf_few node [] =
    let k = length (covers_of node) in
    omega (arith, placed_count 1 (dual_multipliers node []), taken_count node [] [], none_taken k [] refl)
leaf_few node (f ∷ fs) =
    let k = length (covers_of node) in
    omega (arith, placed_count 1 (dual_multipliers node (f ∷ fs)), taken_count node fs (drop k fs), count_parts k fs)

-- ---- a node
on_steps-paid : {A : Type 0} (spent units : ℕ) (r : Result A Wide) (next : A → Ending NodeFound) → ((a : A) → IsNodePaid spent (next a)) → IsNodePaid spent (on_steps units r next)
on_steps-paid spent units (Ok a) next h = h a
on_steps-paid spent units (Err w) next h = tt

place_paid : (spent units : ℕ) (o : Option ℕ) → spent + 2 ≤ units → IsNodePaid spent (on_place units o)
place_paid spent units None two = tt
place_paid spent units (Some place) two = two

excess_paid : (q : Question) (node : List NodeLeg) (spent units : ℕ) (z : List ℕ) → spent + 2 ≤ units → (excess : Fraction) → IsNodePaid spent (on_excess q node units z excess)
excess_paid q node spent units z two excess = by (is_above_zero excess)
  where
    by : (b : Bool) → IsNodePaid spent (if b then done (violated z) units else on_place units (split_place q.underlyings node))
    by true = two
    by false = place_paid spent units (split_place q.underlyings node) two

optimum_paid : (q : Question) (node : List NodeLeg) (spent : ℕ) (o : Optimum) (units : ℕ) → IsTurned (spent + 1) (done o units) → IsNodePaid spent (on_optimum q node o units)
optimum_paid q node spent (optimum x y reduced value) units h = by (is_above_zero value) refl
  where
    by : (b : Bool) → is_above_zero value ≡ b → IsNodePaid spent (if b then on_steps units (state_of q x) (on_state q node units) else done (leaf (leaf_of node y)) units)
    by true e =
        let two : spent + 2 ≤ units = omega (arith, h.1 e) in
        on_steps-paid spent units (state_of q x) (on_state q node units)
        (λ z. on_steps-paid spent units (excess_at q z) (on_excess q node units z) (excess_paid q node spent units z two))
    by false e = omega (arith, h.0, leaf_few node y)

on_run-paid : (spent : ℕ) (e : Ending Optimum) (next : Optimum → ℕ → Ending NodeFound) → IsTurned (spent + 1) e
    → ((o : Optimum) (units : ℕ) → IsTurned (spent + 1) (done o units) → IsNodePaid spent (next o units)) → IsNodePaid spent (on_answer e next)
on_run-paid spent (done o units) next h f = f o units h
on_run-paid spent (unbounded d units) next h f = tt
on_run-paid spent (wide_at units w) next h f = tt
on_run-paid spent (no_unit_left units) next h f = tt

node_is_program_at : (q : Question) (signs : List Sign) (p : LinearProgram) → IsAsked q → program_at q signs ≡ Ok p → IsProgram p
node_is_program_at q signs p asked built =
    let D = own q in
    let over = own_over q asked in
    subst IsProgram (sym (program_is q D signs p asked over built)) (node_is_program q.underlyings D (legs_over D (legs_in q)) (amount_over D q.liability) signs over.0)

pub nodes_are_paid : NodesArePaid
unfolding node_end
nodes_are_paid q signs spent asked = by (nat_lt spent q.budget)
  where
    built : (r : Result LinearProgram Wide) → program_at q signs ≡ r → IsNodePaid spent (on_steps (spent + 1) r (on_program q (node_at q signs) (spent + 1)))
    built (Ok p) e =
        let left = q.budget - (spent + 1) in
        on_run-paid spent (run q.limit p left (spent + 1)) (on_optimum q (node_at q signs)) (runs_are_turned q.limit p left (spent + 1) (node_is_program_at q signs p asked e)) (optimum_paid q (node_at q signs) spent)
    built (Err w) e = tt

    by : (b : Bool) → IsNodePaid spent (if b then on_steps (spent + 1) (program_at q signs) (on_program q (node_at q signs) (spent + 1)) else no_unit_left spent)
    by true = built (program_at q signs) refl
    by false = tt

-- ---- a search
on_shown-paid : (spent : ℕ) (e : Ending NodeFound) (next : NodeFound → ℕ → Ending Found) → IsNodePaid spent e
    → ((shown : NodeFound) (units : ℕ) → IsNodePaid spent (done shown units) → IsPaid spent (next shown units)) → IsPaid spent (on_answer e next)
on_shown-paid spent (done shown units) next h f = f shown units h
on_shown-paid spent (unbounded d units) next h f = tt
on_shown-paid spent (wide_at units w) next h f = tt
on_shown-paid spent (no_unit_left units) next h f = tt

on_node-paid : (spent : ℕ) (next : ℕ → ℕ → Ending Found) → ((place units : ℕ) → spent + 2 ≤ units → IsPaid spent (next place units))
    → (shown : NodeFound) (units : ℕ) → IsNodePaid spent (done shown units) → IsPaid spent (on_node next shown units)
on_node-paid spent next f (leaf ms) units h = omega (arith, h)
on_node-paid spent next f (violated z) units h = h
on_node-paid spent next f (splits place) units h = f place units h

-- what follows a side that began later
on_side-paid : (spent later : ℕ) (e : Ending Found) (next : WrittenTree → ℕ → Ending Found) → spent ≤ later → IsPaid later e
    → ((tree : WrittenTree) (units : ℕ) → later + size_of tree ≤ units → IsPaid spent (next tree units)) → IsPaid spent (on_answer e (on_side next))
on_side-paid spent later (done (closed tree) units) next le h f = f tree units h
on_side-paid spent later (done (found z) units) next le h f = omega (arith, h, le)
on_side-paid spent later (unbounded d units) next le h f = tt
on_side-paid spent later (wide_at units w) next le h f = tt
on_side-paid spent later (no_unit_left units) next le h f = tt

sides_paid : (q : Question) (depth : ℕ) (signs : List Sign) (place spent units : ℕ) → spent < units
    → ((signs : List Sign) (units : ℕ) → IsPaid units (search_from q depth signs units)) → IsPaid spent (both_sides q depth signs place units)
sides_paid q depth signs place spent units lt branch =
    let above : List Sign = slice_set signs place Plus in
    let below : List Sign = slice_set signs place Minus in
    on_side-paid spent units (search_from q depth above units) (minus_side q depth signs place) (omega (arith, lt)) (branch above units)
    (λ plus more first.
    on_side-paid spent more (search_from q depth below more) (joined place plus) (omega (arith, lt, first)) (branch below more)
    (λ minus last second. omega (arith, lt, first, second, length-append (nodes_of plus) (nodes_of minus), length-append (multipliers_of plus) (multipliers_of minus))))

pub branches_are_paid : BranchesArePaid
unfolding search_from
branches_are_paid q zero signs spent asked =
    on_shown-paid spent (node_end q signs spent) (on_node (λ place units. stuck units)) (nodes_are_paid q signs spent asked)
    (on_node-paid spent (λ place units. stuck units) (λ place units two. tt))
branches_are_paid q (suc depth) signs spent asked =
    on_shown-paid spent (node_end q signs spent) (on_node (both_sides q depth signs)) (nodes_are_paid q signs spent asked)
    (on_node-paid spent (both_sides q depth signs)
    (λ place units two. sides_paid q depth signs place spent units (omega (arith, two)) (λ signs units. branches_are_paid q depth signs units asked)))

pub search_is_paid : SearchIsPaid
unfolding search
search_is_paid q spent asked = branches_are_paid q (length (legs_in q)) (replicate (length (legs_in q)) Unsigned) spent asked
