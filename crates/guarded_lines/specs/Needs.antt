-- What the positions of an account demand of its balance.
use Rattle.std.specs.Prelude.{ℕ, ◌≡◌, List, map, length, None, Result, Ok, Err, unwrap_or, if◌then◌else◌}
use Rattle.exact_num.specs.Fraction.{Fraction}
use Rattle.simplex_run.specs.Ending.{Ending, done, unbounded, wide_at, no_unit_left}
use Rattle.exchange_core.specs.ExchangeState.{ExchangeState}
use Rattle.exchange_core.specs.Held.{markets_of}
use Rattle.proposal_text.specs.declared.needs.Need.{Need}
use Rattle.proposal_text.specs.declared.needs.Need.TheVariants as need
use Rattle.portfolio_margin.specs.declared.least_margin.LeastMargin.{LeastMargin}
use Rattle.portfolio_margin.specs.declared.needs.Needed.{Needed}
use Rattle.portfolio_margin.specs.declared.needs.Needed.TheVariants.{Amount, Unbounded, Wide, Budget, Sum}
use Rattle.portfolio_margin.specs.Need.{Demand, liability_or_word, demand_word, first_demand_word, demand_sum}
use Rattle.portfolio_margin.specs.Run.{Margin, least, endless}
use Rattle.guarded_lines.specs.Margins.{are_many, held_by, run_in}

-- what margins need, by its name here
abbrev pub need_as : Needed → Need
need_as (Amount amount) = need.Amount amount
need_as Unbounded = need.Unbounded
need_as Wide = need.Wide
need_as Budget = need.Budget
need_as Sum = need.Sum

-- ---- what a market demands
-- the liability of a run that ends with one, or the word of its end
abbrev pub liability_of : Ending Margin → Result Fraction Need
liability_of (done (least L at tree) units) = Ok L
liability_of (done (endless ray) units) = Err need.Unbounded
liability_of (unbounded direction units) = Err need.Budget
liability_of (wide_at units wide) = Err need.Wide
liability_of (no_unit_left units) = Err need.Budget

-- within this many units
abbrev pub margin_budget : ℕ
margin_budget = 2000

-- a market in which the account has more than 256 positions demands by a word
abbrev pub liability_in : ExchangeState → ℕ → ℕ → Result Fraction Need
liability_in state account market =
    if are_many state account market then Err need.Positions else liability_of (run_in state account market margin_budget)

-- with its number of positions
abbrev pub demand_in : ExchangeState → ℕ → ℕ → Demand Need
demand_in state account market = (liability_in state account market, length (held_by state account market))

-- ---- what all markets demand, in rising number
abbrev pub demands_in : ExchangeState → ℕ → List (Demand Need)
demands_in state account = map (demand_in state account) (markets_of account state.positions)

-- the first word, or else the sum
abbrev pub need_in : ExchangeState → ℕ → Need
need_in state account = unwrap_or (first_demand_word (demands_in state account)) (need_as (demand_sum (demands_in state account)))

-- ---- what the code answers of a market
-- a margin's liability or word, by the names here
abbrev pub liability_or_need : Result Fraction Needed → Result Fraction Need
liability_or_need (Ok L) = Ok L
liability_or_need (Err word) = Err (need_as word)

-- a margin that is least, or the word
abbrev pub IsDemandOf : ExchangeState → ℕ → ℕ → Result (LeastMargin × ℕ) Need → Type 0
IsDemandOf state account market (Ok counted) =
    (demand_word (liability_or_need (liability_or_word counted.0)) ≡ None)
    × (liability_or_need (liability_or_word counted.0) ≡ liability_in state account market)
    × (counted.1 ≡ length (held_by state account market))
IsDemandOf state account market (Err word) = Err word ≡ liability_in state account market
