-- The margin of an account in a market, and the reply to a request for it.
use Rattle.std.specs.Prelude.{ℕ, ◌≡◌, ◌≤◌, ◌<◌, nat_lt, not, Bool, true, length, List, [], ◌∷◌, ◌++◌, Option, Some, None}
use Rattle.std.specs.Option.{option_map_or}
use Rattle.cash_ledger.specs.Ledger.{is_open}
use Rattle.form.specs.StateOf.{state_of}
use Rattle.form.specs.declared.limits.TheConstants.{MAX_ORDERS}
use Rattle.frac.specs.Range.{limit as largest}
use Rattle.frac.specs.ValueOf.{value_of}
use Rattle.order_book.specs.declared.market.MarketInfo.{MarketInfo}
use Rattle.order_book.specs.Book.{info_in}
use Rattle.lists.specs.Refusals.{first_of}
use Rattle.settlement.specs.declared.position.Position.{Position}
use Rattle.simplex_run.specs.Ending.{Ending, done, unbounded, wide_at, no_unit_left}
use Rattle.exchange_core.specs.declared.refusal.Refusal.{Refusal}
use Rattle.exchange_core.specs.declared.refusal.Refusal.TheVariants.{NoMarket, Settled, NoAccount, TooMany}
use Rattle.exchange_core.specs.ExchangeState.{ExchangeState}
use Rattle.exchange_core.specs.Held.{positions_of, underlyings_in}
use Rattle.exchange_core.specs.Reply.{refused_with}
use Rattle.proposal_text.specs.declared.margins.ToldMargin.{ToldMargin}
use Rattle.proposal_text.specs.declared.margins.ToldMargin.TheVariants as told
use Rattle.proposal_text.specs.declared.replies.ProposalReply.TheVariants as reply
use Rattle.proposal_text.specs.declared.replies.ServedReply.{ServedReply}
use Rattle.proposal_text.specs.declared.replies.ServedReply.TheVariants.{Plain, Told}
use Rattle.command_text.specs.declared.requests.MarginRequest.{MarginRequest}
use Rattle.portfolio_margin.specs.declared.least_margin.LeastMargin.{LeastMargin}
use Rattle.portfolio_margin.specs.declared.least_margin.LeastMargin.TheVariants.{Least, Unbounded, Wide, Budget}
use Rattle.portfolio_margin.specs.Answers.{IsMarginOf}
use Rattle.portfolio_margin.specs.Run.{Margin, asked_for, least, endless, margin_run}

-- ---- the run
-- the positions that an account has in a market
abbrev pub held_by : ExchangeState → ℕ → ℕ → List Position
held_by state account market = positions_of account market state.positions

-- the run of the margin of an account in a market, of at most so many units
abbrev pub run_in : ExchangeState → ℕ → ℕ → ℕ → Ending Margin
run_in state account market budget =
    margin_run (asked_for largest budget (underlyings_in state.book market) (held_by state account market))

-- they are more than 256
abbrev pub are_many : ExchangeState → ℕ → ℕ → Bool
are_many state account market = nat_lt MAX_ORDERS (length (held_by state account market))

-- what the code answers of it, with the number of positions; nothing where they are more than 256
abbrev pub IsMarginIn : ExchangeState → ℕ → ℕ → ℕ → Option (LeastMargin × ℕ) → Type 0
IsMarginIn state account market budget None = MAX_ORDERS < length (held_by state account market)
IsMarginIn state account market budget (Some counted) =
    (length (held_by state account market) ≤ MAX_ORDERS)
    × (counted.1 ≡ length (held_by state account market))
    × IsMarginOf (run_in state account market budget) counted.0

-- ---- what is told of it
abbrev pub told_by : LeastMargin → ToldMargin
told_by (Least L at tree) = told.Least L at
told_by (Unbounded ray) = told.Unbounded ray
told_by (Wide unit wide) = told.Wide
told_by Budget = told.Budget

-- no run of a margin has an objective that rises without an end
abbrev pub told_of : Ending Margin → ToldMargin
told_of (done (least L at tree) units) = told.Least (value_of L) (state_of at)
told_of (done (endless ray) units) = told.Unbounded (state_of ray)
told_of (unbounded direction units) = told.Budget
told_of (wide_at units wide) = told.Wide
told_of (no_unit_left units) = told.Budget

-- ---- the reply
-- the refusals of a request, each with its condition, in the order in which they are tried: by what
-- is told of the market
abbrev pub market_refusals : Option MarketInfo → List (Bool × Refusal)
market_refusals None = (true, NoMarket) ∷ []
market_refusals (Some info) = (info.settled, Settled) ∷ []

-- then by the account and by how many positions it has there
abbrev pub margin_refusals : ExchangeState → MarginRequest → List (Bool × Refusal)
margin_refusals state request =
    market_refusals (info_in state.book request.market)
    ++ (not (is_open state.accounts request.account), NoAccount)
    ∷ (are_many state request.account request.market, TooMany)
    ∷ []

-- the first refusal that a request meets, or the margin
abbrev pub margin_reply : ExchangeState → MarginRequest → ServedReply
margin_reply state request =
    option_map_or (λ refusal. Plain (refused_with refusal)) (first_of (margin_refusals state request))
    (Told (reply.Margin request.account request.market (told_of (run_in state request.account request.market request.budget))))
