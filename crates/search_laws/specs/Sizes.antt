-- How large the lists of a search and of the rounds become, by the units that are spent.
use Rattle.std.specs.Prelude.{ℕ, suc, zero, ◌≡◌, ◌≤◌, ◌<◌, ◌+◌, ◌-◌, ◌*◌, ◌/◌, List, [], ◌∷◌, ◌++◌, length, Bool, true, false, Option, Some, None}
use Rattle.std.specs.List.{All}
use Rattle.exact_num.specs.Fraction.{Fraction}
use Rattle.exact_num.specs.Tests.{is_above_zero}
use Rattle.simplex_run.specs.Program.{LinearProgram}
use Rattle.simplex_run.specs.Ending.{Ending, done, unbounded, wide_at, no_unit_left, on_answer}
use Rattle.simplex_run.specs.Run.{Optimum, run, optimum}
use Rattle.simplex_run.specs.Optimum.{IsProgram}
use Rattle.form.specs.declared.orders.Order.{Order}
use Rattle.form.specs.Vector.{IsState}
use Rattle.clearing_model.specs.Tree.{Sign}
use Rattle.clearing_model.specs.Written.{WrittenTree, nodes_of, multipliers_of}
use Rattle.master_program.specs.Reading.{Reading}
use Rattle.master_program.specs.Solve.{master_solve}
use Rattle.master_program.specs.Search.{Question, NodeFound, leaf, violated, splits, node_end, Found, closed, found, search_from, search}
use Rattle.master_program.specs.Rounds.{Limits, Cleared, question_of, axis_rays, rounds_from, rounds}
use Rattle.search_laws.specs.Search.{IsAsked}

-- ---- a run
abbrev pub one_if : Bool → ℕ
one_if true = 1
one_if false = 0

-- how many are above 0
abbrev pub count_above : List Fraction → ℕ
count_above [] = 0
count_above (f ∷ fs) = one_if (is_above_zero f) + count_above fs

-- an optimum has at most as many dual values above 0 as there were turns, and a value above 0 only
-- after one
abbrev pub IsTurned : ℕ → Ending Optimum → Type 0
IsTurned spent (done (optimum x y reduced value) units) = (spent + count_above y ≤ units) × (is_above_zero value ≡ true → spent < units)
IsTurned spent (unbounded d units) = Unit {0}
IsTurned spent (wide_at units wide) = Unit {0}
IsTurned spent (no_unit_left units) = Unit {0}

abbrev pub RunsAreTurned : Type 0
RunsAreTurned = (limit : ℕ) (p : LinearProgram) (left spent : ℕ) → IsProgram p → IsTurned spent (run limit p left spent)

-- ---- a node
-- a leaf has spent a unit for its node and one for each multiplier, and each other node two
abbrev pub IsNodePaid : ℕ → Ending NodeFound → Type 0
IsNodePaid spent (done (leaf ms) units) = spent + 1 + length ms ≤ units
IsNodePaid spent (done (violated z) units) = spent + 2 ≤ units
IsNodePaid spent (done (splits place) units) = spent + 2 ≤ units
IsNodePaid spent (unbounded d units) = Unit {0}
IsNodePaid spent (wide_at units wide) = Unit {0}
IsNodePaid spent (no_unit_left units) = Unit {0}

abbrev pub NodesArePaid : Type 0
NodesArePaid = (q : Question) (signs : List Sign) (spent : ℕ) → IsAsked q → IsNodePaid spent (node_end q signs spent)

-- ---- a search
-- what a tree writes
abbrev pub size_of : WrittenTree → ℕ
size_of tree = length (nodes_of tree) + length (multipliers_of tree)

-- a tree has spent a unit for each node and for each multiplier, and a search that finds a state
-- two
abbrev pub IsPaid : ℕ → Ending Found → Type 0
IsPaid spent (done (closed tree) units) = spent + size_of tree ≤ units
IsPaid spent (done (found z) units) = spent + 2 ≤ units
IsPaid spent (unbounded d units) = Unit {0}
IsPaid spent (wide_at units wide) = Unit {0}
IsPaid spent (no_unit_left units) = Unit {0}

-- so each branch of a search, and the whole
abbrev pub BranchesArePaid : Type 0
BranchesArePaid = (q : Question) (depth : ℕ) (signs : List Sign) (spent : ℕ) → IsAsked q → IsPaid spent (search_from q depth signs spent)

abbrev pub SearchIsPaid : Type 0
SearchIsPaid = (q : Question) (spent : ℕ) → IsAsked q → IsPaid spent (search q spent)

-- ---- the rounds
-- one round: a solve over these states after the first, with so many units spent before, and a
-- search on what is read off
abbrev pub one_round : Limits → ℕ → List Order → List (List ℕ) → ℕ → Ending (Reading × Found)
one_round limits n orders states spent =
    on_answer (master_solve limits.payoff_limit limits.limit (limits.budget - spent) spent n orders states)
    (λ r units. on_answer (search (question_of limits n orders r) units) (λ f units. done (r, f) units))

-- what a round begins with: its states after the first, and the units spent
pub record RoundStart : Type 0 where
  pub states : List (List ℕ)
  pub units : ℕ

abbrev pub with_found : List (List ℕ) → Ending (Reading × Found) → Option RoundStart
with_found states (done (r, closed tree) units) = None
with_found states (done (r, found z) units) = Some (record { states = states ++ (z ∷ []); units = units })
with_found states (unbounded d units) = None
with_found states (wide_at units wide) = None
with_found states (no_unit_left units) = None

abbrev pub next_start : Limits → ℕ → List Order → Option RoundStart → Option RoundStart
next_start limits n orders None = None
next_start limits n orders (Some last) = with_found last.states (one_round limits n orders last.states last.units)

-- round k of a run, counted from 0, where the run has as many
unfoldable pub round_start : Limits → ℕ → List Order → ℕ → ℕ → Option RoundStart
round_start limits n orders spent zero = Some (record { states = axis_rays n; units = spent })
round_start limits n orders spent (suc k) = next_start limits n orders (round_start limits n orders spent k)

-- each state beyond the n first ones was found for two of the units spent since the start
pub record AreFewStates (n budget start : ℕ) (states : List (List ℕ)) (spent : ℕ) : Type 0 where
  pub are : All (IsState n) states
  pub few : 2 * length states + start ≤ 2 * n + spent
  pub begun : start ≤ spent
  pub within : spent ≤ budget

-- the run is the rest of it from there, and has few states
pub record BeginsWith (limits : Limits) (n : ℕ) (orders : List Order) (spent k : ℕ) (start : RoundStart) : Type 0 where
  pub rest : rounds limits n orders spent ≡ rounds_from limits n orders (limits.budget + 1 - k) start.states start.units
  pub few : AreFewStates n limits.budget spent start.states start.units
  pub round : spent + 2 * k ≤ start.units

-- so each round has at most n states and half the budget after the first
abbrev pub RoundsHaveFewStates : Type 0
RoundsHaveFewStates =
    (limits : Limits) (n spent k : ℕ) (orders : List Order) (start : RoundStart) → 1 ≤ n → n ≤ 8 → spent ≤ limits.budget
    → round_start limits n orders spent k ≡ Some start
    → BeginsWith limits n orders spent k start × (1 + length start.states ≤ 1 + n + limits.budget / 2)

-- a run that clears has spent a unit for each node and for each multiplier of its tree
abbrev pub IsTreePaid : ℕ → Ending Cleared → Type 0
IsTreePaid spent (done (r, tree) units) = spent + size_of tree ≤ units
IsTreePaid spent (unbounded d units) = Unit {0}
IsTreePaid spent (wide_at units wide) = Unit {0}
IsTreePaid spent (no_unit_left units) = Unit {0}

abbrev pub RoundsArePaid : Type 0
RoundsArePaid = (limits : Limits) (n spent : ℕ) (orders : List Order) → 1 ≤ n → n ≤ 8 → IsTreePaid spent (rounds limits n orders spent)

-- so its tree has at most as many nodes as the budget has units, and at most as many multipliers
abbrev pub TreesAreSmall : Type 0
TreesAreSmall =
    (limits : Limits) (n spent units : ℕ) (orders : List Order) (r : Reading) (tree : WrittenTree) → 1 ≤ n → n ≤ 8 → spent ≤ limits.budget
    → rounds limits n orders spent ≡ done (r, tree) units
    → (length (nodes_of tree) ≤ limits.budget) × (length (multipliers_of tree) ≤ limits.budget)
