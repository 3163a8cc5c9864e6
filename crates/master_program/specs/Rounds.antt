-- The rounds of a joint clearing on several underlyings: a master program over some states, and a
-- search for a state at which its liability is not enough. Such a state is added to the list, and
-- the next round begins.
use Rattle.std.specs.Prelude.{ℕ, ◌≤◌, ◌≡◌, zero, suc, ◌+◌, ◌-◌, List, [], ◌∷◌, ◌++◌, map, replicate}
use Rattle.form.specs.declared.orders.Order.{Order}
use Rattle.clearing_model.specs.Written.{WrittenTree}
use Rattle.master_program.specs.Reading.{Reading}
use Rattle.master_program.specs.Solve.{master_solve}
use Rattle.simplex_run.specs.Ending.{Ending, done, on_answer, HasNoMisfit}
use Rattle.master_program.specs.Search.{Question, Found, closed, found, stuck, search}

-- ---- the first states
-- n rays of n prices, along each axis: 1 at its own place, and else 0
abbrev pub axes : ℕ → List (List ℕ)
axes zero = []
axes (suc n) = (1 ∷ replicate n 0) ∷ map (λ (s : List ℕ). 0 ∷ s) (axes n)

-- as states
abbrev pub axis_rays : ℕ → List (List ℕ)
axis_rays n = map (λ (s : List ℕ). 0 ∷ s) (axes n)

-- ---- the rounds
-- what they clear: what was read off, and the tree that covers it
abbrev pub Cleared : Type 0
Cleared = Reading × WrittenTree

-- payoffs have a limit of their own; the budget is that of the whole run
pub record Limits : Type 0 where
  pub payoff_limit : ℕ
  pub limit : ℕ
  pub budget : ℕ

abbrev pub question_of : Limits → ℕ → List Order → Reading → Question
question_of limits n orders r =
    record { payoff_limit = limits.payoff_limit; limit = limits.limit; budget = limits.budget; underlyings = n; orders = orders; fills = r.fills; liability = r.liability }

-- a tree ends the rounds, and a state is one more
abbrev pub on_search : Reading → (List ℕ → ℕ → Ending Cleared) → Found → ℕ → Ending Cleared
on_search r next (closed tree) spent = done (r, tree) spent
on_search r next (found z) spent = next z spent

-- at most so many rounds over these later states
unfoldable pub rounds_from : Limits → ℕ → List Order → ℕ → List (List ℕ) → ℕ → Ending Cleared
rounds_from limits n orders zero states spent = stuck spent
rounds_from limits n orders (suc rounds) states spent =
    on_answer (master_solve limits.payoff_limit limits.limit (limits.budget - spent) spent n orders states)
    (λ r units. on_answer (search (question_of limits n orders r) units) (on_search r
    (λ z units. rounds_from limits n orders rounds (states ++ (z ∷ [])) units)))

-- each round spends a unit, so that there is no more than one beyond the budget
unfoldable pub rounds : Limits → ℕ → List Order → ℕ → Ending Cleared
rounds limits n orders spent = rounds_from limits n orders (limits.budget + 1) (axis_rays n) spent

-- ---- the limit
abbrev pub limits_within : ℕ → Limits → Limits
limits_within limit limits = record { payoff_limit = limits.payoff_limit; limit = limit; budget = limits.budget }

-- rounds without a misfit are the same with each greater limit
abbrev pub RoundsAreTheSame : Type 0
RoundsAreTheSame =
    (limits : Limits) (greater n spent : ℕ) (orders : List Order) → limits.limit ≤ greater → HasNoMisfit (rounds limits n orders spent)
    → rounds (limits_within greater limits) n orders spent ≡ rounds limits n orders spent

-- opens these definitions, for a proof that computes with numerals
unfoldable pub rounds_steps : Unit {0}
unfolding rounds_from rounds
rounds_steps = tt
