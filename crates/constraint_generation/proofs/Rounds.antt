-- One round after another.
use Rattle.std.proofs.Common.{◌≡◌, ℕ, suc, ◌+◌, ◌-◌, ◌≤◌, ◌<◌, List, [], ◌∷◌, ◌++◌, map, refl, sym, ap, ◌∙◌, arith}
use Rattle.std.proofs.lemmas.List.{map-append}
use Rattle.simplex_run.specs.Ending.{Ending, done, unbounded, wide_at, no_unit_left, on_answer}
use Rattle.form.specs.declared.orders.Order.{Order}
use Rattle.form.specs.declared.states.State.{State}
use Rattle.form.specs.States.{vector_of}
use Rattle.clearing_model.specs.Written.{WrittenTree}
use Rattle.master_program.specs.Reading.{Reading}
use Rattle.master_program.specs.Solve.{master_solve}
use Rattle.master_program.specs.Search.{Found, closed, found, search}
use Rattle.master_program.specs.Rounds.{Limits, Cleared, question_of, on_search, rounds_from, rounds, axis_rays}
use Rattle.master_program.proofs.NodeWider.{next_round}
use Rattle.search_laws.proofs.Rounds.{all_rounds_end}
pub use Rattle.search_laws.proofs.Rounds.{rounds_are_not_refused}
use Rattle.simplex.specs.declared.stop.RunStop.{RunStop}
use Rattle.constraint_generation.specs.Stops.{IsStopOf}
use Rattle.search_laws.specs.Sizes.{one_round}
use Rattle.constraint_generation.proofs.Stops.{stops_after, stops_as}

-- ---- what follows a round
abbrev pub on_round : Limits → ℕ → List Order → ℕ → List (List ℕ) → Reading × Found → ℕ → Ending Cleared
on_round limits n orders left states end units = on_search end.0 (next_round limits n orders left states) end.1 units

on_found : (r : Reading) (next : List ℕ → ℕ → Ending Cleared) (e : Ending Found)
    → on_answer e (on_search r next) ≡ on_answer (on_answer e (λ f units. done (r, f) units)) (λ (end : Reading × Found) units. on_search end.0 next end.1 units)
on_found r next (done f units) = refl
on_found r next (unbounded d units) = refl
on_found r next (wide_at units w) = refl
on_found r next (no_unit_left units) = refl

on_solved : (limits : Limits) (n : ℕ) (orders : List Order) (next : List ℕ → ℕ → Ending Cleared) (e : Ending Reading)
    → on_answer e (λ r units. on_answer (search (question_of limits n orders r) units) (on_search r next))
    ≡ on_answer (on_answer e (λ r units. on_answer (search (question_of limits n orders r) units) (λ f units. done (r, f) units))) (λ (end : Reading × Found) units. on_search end.0 next end.1 units)
on_solved limits n orders next (done r units) = on_found r next (search (question_of limits n orders r) units)
on_solved limits n orders next (unbounded d units) = refl
on_solved limits n orders next (wide_at units w) = refl
on_solved limits n orders next (no_unit_left units) = refl

-- so many rounds are the next one, and those after it
rounds_go_on : (limits : Limits) (n left : ℕ) (orders : List Order) (states : List (List ℕ)) (spent : ℕ)
    → rounds_from limits n orders (suc left) states spent ≡ on_answer (one_round limits n orders states spent) (on_round limits n orders left states)
unfolding rounds_from
rounds_go_on limits n left orders states spent =
    on_solved limits n orders (next_round limits n orders left states) (master_solve limits.payoff_limit limits.limit (limits.budget - spent) spent n orders states)

-- ---- the rounds that are left after i of them are all
abbrev pub AreLeft : Limits → ℕ → List Order → (spent i : ℕ) → List (List ℕ) → (units : ℕ) → Type 0
AreLeft limits n orders spent i states units = rounds limits n orders spent ≡ rounds_from limits n orders (limits.budget + 1 - i) states units

pub rounds_begin : (limits : Limits) (n : ℕ) (orders : List Order) (spent : ℕ) (states : List (List ℕ)) → states ≡ axis_rays n → AreLeft limits n orders spent 0 states spent
unfolding rounds
rounds_begin limits n orders spent states is =
    let all : limits.budget + 1 - 0 ≡ limits.budget + 1 = omega arith in
    rw all (ap (λ (zs : List (List ℕ)). rounds_from limits n orders (limits.budget + 1) zs spent) (sym is))

-- the next one, and those after it
next_is : (limits : Limits) (n i : ℕ) (orders : List Order) (spent : ℕ) (states : List (List ℕ)) (units : ℕ) → i ≤ limits.budget → AreLeft limits n orders spent i states units
    → rounds limits n orders spent ≡ on_answer (one_round limits n orders states units) (on_round limits n orders (limits.budget + 1 - (i + 1)) states)
next_is limits n i orders spent states units le left =
    let more : limits.budget + 1 - i ≡ suc (limits.budget + 1 - (i + 1)) = omega (arith, le) in
    left ∙ ap (λ (k : ℕ). rounds_from limits n orders k states units) more ∙ rounds_go_on limits n (limits.budget + 1 - (i + 1)) orders states units

-- with a tree they end
pub rounds_close : (limits : Limits) (n i : ℕ) (orders : List Order) (spent : ℕ) (states : List (List ℕ)) (units later : ℕ) (r : Reading) (tree : WrittenTree)
    → i ≤ limits.budget → AreLeft limits n orders spent i states units → one_round limits n orders states units ≡ done (r, closed tree) later
    → rounds limits n orders spent ≡ done (r, tree) later
rounds_close limits n i orders spent states units later r tree le left is =
    next_is limits n i orders spent states units le left ∙ ap (λ (e : Ending (Reading × Found)). on_answer e (on_round limits n orders (limits.budget + 1 - (i + 1)) states)) is

-- with a state they go on
pub rounds_add : (limits : Limits) (n i : ℕ) (orders : List Order) (spent : ℕ) (states new : List State) (state : State) (units later : ℕ) (r : Reading)
    → i ≤ limits.budget → AreLeft limits n orders spent i (map vector_of states) units → one_round limits n orders (map vector_of states) units ≡ done (r, found (vector_of state)) later
    → new ≡ states ++ (state ∷ []) → AreLeft limits n orders spent (i + 1) (map vector_of new) later
rounds_add limits n i orders spent states new state units later r le left is pushed =
    let rest = limits.budget + 1 - (i + 1) in
    next_is limits n i orders spent (map vector_of states) units le left
    ∙ ap (λ (e : Ending (Reading × Found)). on_answer e (on_round limits n orders rest (map vector_of states))) is
    ∙ ap (λ (zs : List (List ℕ)). rounds_from limits n orders rest zs later) (sym (ap (map vector_of) pushed ∙ map-append vector_of states (state ∷ [])))

-- where one stops, they stop
pub rounds_stop : (limits : Limits) (n i : ℕ) (orders : List Order) (spent : ℕ) (states : List (List ℕ)) (units later : ℕ) (stop : RunStop)
    → i ≤ limits.budget → AreLeft limits n orders spent i states units → IsStopOf (one_round limits n orders states units) stop later
    → IsStopOf (rounds limits n orders spent) stop later
rounds_stop limits n i orders spent states units later stop le left is =
    stops_as _ _ stop later (next_is limits n i orders spent states units le left)
    (stops_after (one_round limits n orders states units) (on_round limits n orders (limits.budget + 1 - (i + 1)) states) stop later is)

-- and some round is always left
pub never_none : (limits : Limits) (n i : ℕ) (orders : List Order) (spent : ℕ) (states : List (List ℕ)) (units : ℕ) → 1 ≤ n → n ≤ 8 → spent ≤ limits.budget
    → limits.budget < i → AreLeft limits n orders spent i states units → ⊥
unfolding rounds_from
never_none limits n i orders spent states units some few le high left =
    let none : limits.budget + 1 - i ≡ 0 = omega (arith, high) in
    all_rounds_end limits n spent units orders [] some few le (left ∙ ap (λ (k : ℕ). rounds_from limits n orders k states units) none)
