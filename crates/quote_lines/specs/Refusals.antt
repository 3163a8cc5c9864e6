-- The refusals of a request for a quote, each with its condition, in the order in which they are
-- tried.
use Rattle.std.specs.Prelude.{◌+◌, Bool, true, not, List, [], ◌∷◌, ◌++◌, Option, Some, None, nat_eq, nat_le}
use Rattle.limits.specs.declared.TheConstants.{MAX_BATCHES}
use Rattle.order_book.specs.declared.market.MarketInfo.{MarketInfo}
use Rattle.order_book.specs.Book.{BookState, info_in}
use Rattle.order_book.specs.Refusals.{is_full}
use Rattle.exchange_core.specs.declared.refusal.Refusal.{Refusal}
use Rattle.exchange_core.specs.declared.refusal.Refusal.TheVariants.{NoMarket, Settled, WeightCount, BookFull, TooMany}
use Rattle.command_text.specs.declared.requests.QuoteRequest.{QuoteRequest}

-- by what is told of the market: a further order would find no room where it has as many live
-- orders as it may have
abbrev pub info_refusals : Option MarketInfo → QuoteRequest → List (Bool × Refusal)
info_refusals None request = (true, NoMarket) ∷ []
info_refusals (Some info) request =
    (info.settled, Settled)
    ∷ (not (nat_eq request.form.count (info.underlyings + 1)), WeightCount)
    ∷ (is_full info, BookFull)
    ∷ []

abbrev pub quote_refusals : BookState → QuoteRequest → List (Bool × Refusal)
quote_refusals book request =
    info_refusals (info_in book request.market) request ++ (nat_le MAX_BATCHES book.finished, TooMany) ∷ []
