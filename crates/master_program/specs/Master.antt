-- The master program: how much of each order to fill, and what to put aside, so that the premium
-- less the liability is the greatest while the liability is enough at each of some states.
use Rattle.std.specs.Prelude.{ℕ, zero, suc, ◌+◌, List, [], ◌∷◌, ◌++◌, length, map, replicate, ℤ, pos, negsuc, neg_ℤ, ◌-ℤ◌, ◌*ℤ◌, Result, Ok}
use Rattle.std.specs.List.{flat_map}
use Rattle.exact_num.specs.declared.misfit.Wide.{Wide}
use Rattle.exact_num.specs.Fraction.{Fraction, whole, negated}
use Rattle.exact_num.specs.Fits.{sub_of, mul_of, whole_of, after}
use Rattle.simplex_run.specs.Places.{fraction_zero}
use Rattle.simplex_run.specs.Program.{LinearProgram}
use Rattle.form.specs.declared.orders.Side.{Side}
use Rattle.form.specs.declared.orders.Side.TheVariants.{Buy, Sell}
use Rattle.form.specs.declared.orders.Order.{Order}
use Rattle.form.specs.Vector.{scale_of, positive_part, strike_entry, over_legs, bundle_payoff}
use Rattle.form.specs.Payoff.{bundle_of}
use Rattle.clearing_model.specs.Clearing.{for_side}
use Rattle.form.specs.Steps.{bundle_payoff_of, payoff_of}

-- the settlement of n underlyings at which all prices are 0
abbrev pub zero_prices : ℕ → List ℕ
zero_prices n = 1 ∷ replicate n 0

-- ---- the program in whole numbers without a limit, over a first state with t = 1 and later ones
-- what the bundle of an order pays at a state
abbrev pub pays : Order → List ℕ → ℤ
pays order z = bundle_payoff (bundle_of order) z

-- what one unit of an order earns when its payoff at the first state is put aside
abbrev pub order_cost : List ℕ → Order → ℤ
order_cost first order = for_side order.side (pos order.price -ℤ pays order first)

-- what it owes at a state above what is put aside for it
abbrev pub order_entry : List ℕ → List ℕ → Order → ℤ
order_entry first z order = for_side order.side (pays order z -ℤ (pos (scale_of z) *ℤ pays order first))

-- the costs: those of the orders, and 1 lost for each unit of the slack, which is put aside beyond
-- that
abbrev pub costs_of : List ℕ → List Order → List ℤ
costs_of first orders = map (order_cost first) orders ++ (negsuc 0 ∷ [])

-- the rows of the quantities: of k + 1 entries the row's own is 1, and the others are 0
abbrev pub quantity_rows : ℕ → List (List ℤ)
quantity_rows zero = []
quantity_rows (suc k) = (pos 1 ∷ replicate (k + 1) (pos 0)) ∷ map (λ (r : List ℤ). pos 0 ∷ r) (quantity_rows k)

-- the row of a state: an entry for each order, and -t for the slack
abbrev pub state_row : List ℕ → List Order → List ℕ → List ℤ
state_row first orders z = map (order_entry first z) orders ++ (neg_ℤ (pos (scale_of z)) ∷ [])

abbrev pub rows_of : List ℕ → List Order → List (List ℕ) → List (List ℤ)
rows_of first orders states = quantity_rows (length orders) ++ map (state_row first orders) states

-- no fill is above its quantity, and what is owed at a state at most what is put aside
abbrev pub right_sides_of : List Order → List (List ℕ) → List ℤ
right_sides_of orders states = map (λ (order : Order). pos order.quantity) orders ++ replicate (length states) (pos 0)

-- the master program of orders over the first state and the later ones: its variables are the fills
-- and the slack
abbrev pub plain_master : List ℕ → List Order → List (List ℕ) → LinearProgram
plain_master first orders states = record {
  variables = length orders + 1;
  rows = length orders + length states;
  coefficients = flat_map (map whole) (rows_of first orders states);
  right_sides = map whole (right_sides_of orders states);
  costs = map whole (costs_of first orders);
}

-- ---- the same step by step: payoffs within a limit of their own, and all other numbers within the limit
-- f at each item in order, or the first misfit
unfoldable pub map_steps : {A B : Type 0} → (A → Result B Wide) → List A → Result (List B) Wide
map_steps f [] = Ok []
map_steps f (x ∷ xs) = after (f x) (λ y. after (map_steps f xs) (λ ys. Ok (y ∷ ys)))

-- x for a buy, and its opposite for a sell
abbrev pub signed_for : Side → Fraction → Fraction
signed_for Buy x = x
signed_for Sell x = negated x

-- what an option pays where all prices are 0: its strike's entry, or 0 where that is below 0
abbrev pub strike_payoff : List ℤ → ℕ
strike_payoff v = positive_part (strike_entry v)

-- what the bundle of an order pays there
unfoldable pub payoff_at_zero : Order → ℤ
payoff_at_zero order = over_legs strike_payoff (bundle_of order)

-- the payoff of an order's bundle at a state
unfoldable pub order_payoff : ℕ → Order → List ℕ → Result Fraction Wide
order_payoff payoff_limit order z = bundle_payoff_of payoff_limit (bundle_of order) z

-- the price less the payoff at the first state, the sign last
unfoldable pub cost_steps : ℕ → Order → Result Fraction Wide
cost_steps limit order =
    after (whole_of limit (pos order.price))
    (λ price. after (whole_of limit (payoff_at_zero order))
    (λ first. after (sub_of limit price first) (λ cost. Ok (signed_for order.side cost))))

-- the payoff; t times the payoff at the first state; their difference; the sign last
unfoldable pub entry_steps : ℕ → ℕ → List ℕ → Order → Result Fraction Wide
entry_steps payoff_limit limit z order =
    after (order_payoff payoff_limit order z)
    (λ payoff. after (whole_of limit (pos (scale_of z)))
    (λ t. after (whole_of limit (payoff_at_zero order))
    (λ first. after (mul_of limit t first)
    (λ aside. after (whole_of limit payoff.numerator)
    (λ owed. after (sub_of limit owed aside) (λ entry. Ok (signed_for order.side entry)))))))

-- the row of a state, order by order, and -t last
unfoldable pub row_steps : ℕ → ℕ → List Order → List ℕ → Result (List Fraction) Wide
row_steps payoff_limit limit orders z =
    after (map_steps (entry_steps payoff_limit limit z) orders)
    (λ entries. after (whole_of limit (pos (scale_of z))) (λ t. Ok (entries ++ (negated t ∷ []))))

-- the rows of states one after another
unfoldable pub rows_steps : ℕ → ℕ → List Order → List (List ℕ) → Result (List Fraction) Wide
rows_steps payoff_limit limit orders [] = Ok []
rows_steps payoff_limit limit orders (z ∷ states) =
    after (row_steps payoff_limit limit orders z)
    (λ row. after (rows_steps payoff_limit limit orders states) (λ rows. Ok (row ++ rows)))

abbrev pub quantity_steps : ℕ → Order → Result Fraction Wide
quantity_steps limit order = whole_of limit (pos order.quantity)

-- the master program of orders over the state where all prices are 0 and later states: costs first,
-- then row by row, each with its right side last
unfoldable pub master : ℕ → ℕ → List Order → List (List ℕ) → Result LinearProgram Wide
master payoff_limit limit orders states =
    after (map_steps (cost_steps limit) orders)
    (λ costs. after (map_steps (quantity_steps limit) orders)
    (λ quantities. after (rows_steps payoff_limit limit orders states)
    (λ rows. Ok (record {
      variables = length orders + 1;
      rows = length orders + length states;
      coefficients = flat_map (map whole) (quantity_rows (length orders)) ++ rows;
      right_sides = quantities ++ replicate (length states) fraction_zero;
      costs = costs ++ (whole (negsuc 0) ∷ []);
    }))))

-- opens these definitions, for a proof that computes with numerals
unfoldable pub master_steps : Unit {0}
unfolding bundle_of bundle_payoff_of payoff_of payoff_at_zero order_payoff map_steps cost_steps entry_steps row_steps rows_steps master
master_steps = tt
