-- The run of a margin: searches, one after another, each with the liability that the state found
-- before it wants.
use Rattle.std.specs.Prelude.{ℕ, ◌+◌, zero, suc, nat_eq, List, map, zip, pos, if◌then◌else◌, Result}
use Rattle.exact_num.specs.declared.misfit.Wide.{Wide}
use Rattle.exact_num.specs.Fraction.{Fraction, whole}
use Rattle.exact_num.specs.Fits.{div_of, after}
use Rattle.form.specs.declared.orders.Order.{Order}
use Rattle.form.specs.declared.orders.Side.{Side}
use Rattle.form.specs.declared.orders.Side.TheVariants.{Buy, Sell}
use Rattle.form.specs.Payoff.{scale_of}
use Rattle.clearing_model.specs.Written.{WrittenTree}
use Rattle.line_cover.specs.Net.{net_of}
use Rattle.master_program.specs.Master.{zero_prices}
use Rattle.master_program.specs.Search.{Question, Found, closed, found, search, stuck}
use Rattle.settlement.specs.declared.position.Position.{Position}
use Rattle.settlement.specs.Premium.{rounded_up}
use Rattle.simplex_run.specs.Ending.{Ending, done, on_answer, on_steps}
use Rattle.portfolio_margin.specs.Owed.{fill_of, fills_of}

-- ---- the positions as a batch whose net is what they owe
abbrev pub opposite : Side → Side
opposite Buy = Sell
opposite Sell = Buy

abbrev pub order_of : Position → Order
order_of p =
    record { id = p.order; account = p.account; side = opposite p.side; bundle = p.bundle; price = 0; quantity = rounded_up (fill_of p) 1 }

abbrev pub orders_of : List Position → List Order
orders_of positions = map order_of positions

-- ---- the run
-- the orders of positions and their fills, on so many underlyings, in numbers within a limit and
-- with a budget of units
pub record MarginQuestion : Type 0 where
  pub limit : ℕ
  pub budget : ℕ
  pub underlyings : ℕ
  pub orders : List Order
  pub fills : List Fraction

abbrev pub asked_for : (limit budget underlyings : ℕ) → List Position → MarginQuestion
asked_for limit budget underlyings positions =
    record { limit = limit; budget = budget; underlyings = underlyings; orders = orders_of positions; fills = fills_of positions }

-- whether the liability covers them
abbrev pub question_of : MarginQuestion → Fraction → Question
question_of a L =
    record { payoff_limit = a.limit; limit = a.limit; budget = a.budget; underlyings = a.underlyings; orders = a.orders; fills = a.fills; liability = L }

-- what they owe at a state, and the liability that it wants: the net by t
abbrev pub net_at : MarginQuestion → List ℕ → Result Fraction Wide
net_at a z = net_of a.limit (zip a.orders a.fills) z

abbrev pub wanted_at : MarginQuestion → List ℕ → Result Fraction Wide
wanted_at a z = after (net_at a z) (λ net. div_of a.limit net (whole (pos (scale_of z))))

-- what it ends with: the least liability, the settlement that wants it and the tree of the last
-- search; or a ray that no liability covers
pub data Margin : Type 0 where
  least : (liability : Fraction) (at : List ℕ) (tree : WrittenTree) → Margin
  endless : (ray : List ℕ) → Margin

-- what a search leads to: the end, or a liability that a state wants
pub data Turn : Type 0 where
  ends : (margin : Margin) → Turn
  goes : (liability : Fraction) (at : List ℕ) → Turn

abbrev pub at_state : MarginQuestion → List ℕ → ℕ → Ending Turn
at_state a z spent =
    if nat_eq (scale_of z) 0 then done (ends (endless z)) spent else on_steps spent (wanted_at a z) (λ more. done (goes more z) spent)

abbrev pub on_found : MarginQuestion → Fraction → List ℕ → Found → ℕ → Ending Turn
on_found a L at (closed tree) spent = done (ends (least L at tree)) spent
on_found a L at (found z) spent = at_state a z spent

-- a search with the liability that the state at wants
abbrev pub turn_at : MarginQuestion → Fraction → List ℕ → ℕ → Ending Turn
turn_at a L at spent = on_answer (search (question_of a L) spent) (on_found a L at)

abbrev pub on_turn : (Fraction → List ℕ → ℕ → Ending Margin) → Turn → ℕ → Ending Margin
on_turn next (ends margin) spent = done margin spent
on_turn next (goes L at) spent = next L at spent

-- at most so many searches
unfoldable pub turns_from : MarginQuestion → ℕ → Fraction → List ℕ → ℕ → Ending Margin
turns_from a zero L at spent = stuck spent
turns_from a (suc left) L at spent = on_answer (turn_at a L at spent) (on_turn (λ more z units. turns_from a left more z units))

-- the first liability is the net where all prices are 0. Each search spends a unit, so that there
-- is no more than one beyond the budget
unfoldable pub margin_run : MarginQuestion → Ending Margin
margin_run a =
    let first = zero_prices a.underlyings in
    on_steps 0 (net_at a first) (λ L. turns_from a (a.budget + 1) L first 0)

-- opens these definitions, for a proof that computes with numerals
unfoldable pub margin_steps : Unit {0}
unfolding turns_from margin_run
margin_steps = tt
