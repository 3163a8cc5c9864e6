-- What is told of quotes, prices and margins as it is taken out of a line, where it is within its
-- ranges.
use Rattle.std.specs.Prelude.{ℕ, List, Option, Some, option_map, option_and_then, codes, if◌then◌else◌}
use Rattle.std.specs.Str.{bytes_eq}
use Rattle.form.specs.declared.limits.TheConstants.{MAX_PRICE, MAX_QUANTITY}
use Rattle.serde_json.specs.Data.{Data}
use Rattle.proposal_text.specs.declared.margins.ToldMargin.{ToldMargin}
use Rattle.proposal_text.specs.declared.margins.ToldMargin.TheVariants as told
use Rattle.proposal_text.specs.declared.prices.QuotedPrice.{QuotedPrice}
use Rattle.proposal_text.specs.declared.prices.QuotedPrice.TheVariants as price
use Rattle.reply_print.specs.Look.{word_at}
use Rattle.reply_text.specs.BatchValues.{fraction_from}
use Rattle.reply_text.specs.OutcomeValues.{state_at}
use Rattle.reply_text.specs.ReplyValues.{account_at, market_at}
use Rattle.reply_text.specs.Taking.{natural_at, take_at}
use Rattle.proposal_text.specs.Needs.{size_at}
use Rattle.proposal_text.specs.declared.replies.ProposalReply.{ProposalReply}
use Rattle.proposal_text.specs.declared.replies.ProposalReply.TheVariants.{Quoted, Priced, Margin}

-- ---- prices

abbrev pub price_by : List ℕ → List ℕ → Data → Option QuotedPrice
price_by word key d =
    if bytes_eq word (codes "never") then Some price.Never
    else if bytes_eq word (codes "unmarked") then Some price.Unmarked
    else option_map price.At (size_at MAX_PRICE key d)

abbrev pub price_at : List ℕ → Data → Option QuotedPrice
price_at key d = price_by (word_at key d) key d

abbrev pub quoted_from : Data → Option ProposalReply
quoted_from d =
    option_and_then (λ market. option_and_then (λ bid. option_map (Quoted market bid) (price_at (codes "ask") d)) (price_at (codes "bid") d)) (market_at d)

abbrev pub priced_from : Data → Option ProposalReply
priced_from d =
    option_and_then (λ market.
    option_and_then (λ quantity.
    option_and_then (λ ask. option_map (Priced market quantity ask) (price_at (codes "bid") d)) (price_at (codes "ask") d))
    (natural_at 1 MAX_QUANTITY (codes "quantity") d))
    (market_at d)

-- ---- margins

abbrev pub least_from : Data → Option ToldMargin
least_from d =
    option_and_then (λ liability. option_map (told.Least liability) (state_at (codes "at") d)) (take_at (codes "margin") fraction_from d)

abbrev pub told_by : List ℕ → Data → Option ToldMargin
told_by word d =
    if bytes_eq word (codes "wide") then Some told.Wide
    else if bytes_eq word (codes "budget") then Some told.Budget
    else if bytes_eq word (codes "unbounded") then option_map told.Unbounded (state_at (codes "at") d)
    else least_from d

abbrev pub margin_from : Data → Option ProposalReply
margin_from d =
    option_and_then (λ account. option_and_then (λ market. option_map (Margin account market) (told_by (word_at (codes "margin") d) d)) (market_at d))
    (account_at d)
