-- What the fields of a line ask that is no command, the word being the first.
use Rattle.std.specs.Prelude.{ℕ, ◌+◌, ◌-◌, ◌==◌, ◌&&◌, nat_le, List, [], ◌∷◌, length, take, drop, pos, neg_ℤ, true, position, codes, unsigned_abs, Option, Some, None, Result, Ok, Err, if◌then◌else◌}
use Rattle.std.specs.Str.{bytes_eq}
use Rattle.form.specs.declared.orders.Side.{Side}
use Rattle.form.specs.FormOf.{form_of}
use Rattle.form.specs.declared.limits.TheConstants.{MAX_STRIKE}
use Rattle.command_text.specs.declared.asked.Asked.{Asked}
use Rattle.command_text.specs.declared.asked.Fault.{Fault}
use Rattle.command_text.specs.declared.asked.Fault.TheVariants.{Syntax}
use Rattle.command_text.specs.declared.numbers.NumberRead.{NumberRead}
use Rattle.command_text.specs.declared.numbers.NumberRead.TheVariants.{NotNumber, Outside, Value}
use Rattle.command_text.specs.declared.ranges.TheConstants.{ACCOUNT, BUDGET, BUNDLE_PRICE, BUNDLE_QUANTITY, LISTED, MARGIN_BUDGET, MARKET, PRICED, PRICED_QUANTITY, QUOTED, TRIED}
use Rattle.command_text.specs.declared.requests.QuoteRequest.{QuoteRequest}
use Rattle.command_text.specs.declared.requests.Request.{Request}
use Rattle.command_text.specs.declared.requests.Request.TheVariants as request
use Rattle.command_text.specs.Asked.{text_of, fault_in, either_fault, value_in, natural_in}
use Rattle.command_text.specs.Bundles.{side_in}
use Rattle.command_text.specs.Numbers.{number_in}
use Rattle.command_text.specs.Options.{option_by}
use Rattle.command_text.specs.Trades.{kind_in, unless, with_some, weightless, weights_in}

-- a strike at a place
abbrev pub strike_at : ℕ → Asked
strike_at place = record { place = place; low = neg_ℤ (pos MAX_STRIKE); high = pos MAX_STRIKE; zero = true }

-- an option whose kind is at a place: KIND,STRIKE,W1,..,Wn behind the market, the budget and what
-- else is asked. So many of the fields are no numbers
abbrev pub option_request : ℕ → ℕ → List Asked → List (List ℕ) → Result QuoteRequest Fault
option_request words place asked fields =
    if nat_le (place + 2) (length fields) && nat_le (length fields) (place + 9)
    then with_some (kind_in (text_of fields place)) (λ kind.
    unless (either_fault (fault_in 0 (take (length fields - words) asked) fields) (weightless (place + 2) (weights_in fields (place + 2))))
    (record {
      market = natural_in fields MARKET;
      budget = natural_in fields BUDGET;
      form = form_of (option_by kind (value_in fields (strike_at (place + 1))) (take (length fields - (place + 1)) (weights_in fields (place + 2))));
    }))
    else Err Syntax

-- quote,MARKET,BUDGET,KIND,STRIKE,W1,..,Wn
abbrev pub as_quote : Result QuoteRequest Fault → Result Request Fault
as_quote (Ok quote) = Ok (request.Quote quote)
as_quote (Err fault) = Err fault

abbrev pub quote_request : List (List ℕ) → Result Request Fault
quote_request fields = as_quote (option_request 2 4 QUOTED fields)

-- price,MARKET,BUDGET,QUANTITY,KIND,STRIKE,W1,..,Wn
abbrev pub as_price : ℕ → Result QuoteRequest Fault → Result Request Fault
as_price quantity (Ok quote) = Ok (request.Price (record { quote = quote; quantity = quantity }))
as_price quantity (Err fault) = Err fault

abbrev pub price_request : List (List ℕ) → Result Request Fault
price_request fields = as_price (natural_in fields PRICED_QUANTITY) (option_request 2 5 PRICED fields)

-- try,MARKET,BUDGET,SIDE,PRICE,QUANTITY,KIND,STRIKE,W1,..,Wn
abbrev pub as_try : Side → ℕ → ℕ → Result QuoteRequest Fault → Result Request Fault
as_try side price quantity (Ok quote) = Ok (request.Try (record { quote = quote; side = side; price = price; quantity = quantity }))
as_try side price quantity (Err fault) = Err fault

abbrev pub try_request : List (List ℕ) → Result Request Fault
try_request fields =
    with_some (side_in (text_of fields 4)) (λ side. as_try side (natural_in fields BUNDLE_PRICE) (natural_in fields BUNDLE_QUANTITY) (option_request 3 7 TRIED fields))

-- margin,ACCOUNT,MARKET,BUDGET
abbrev pub margin_request : List (List ℕ) → Result Request Fault
margin_request fields =
    if length fields == 4
    then unless (fault_in 0 (ACCOUNT ∷ LISTED ∷ MARGIN_BUDGET ∷ []) fields)
    (request.Margin (record { account = natural_in fields ACCOUNT; market = natural_in fields LISTED; budget = natural_in fields MARGIN_BUDGET }))
    else Err Syntax

-- book,MARKET
abbrev pub book_request : List (List ℕ) → Result Request Fault
book_request fields =
    if length fields == 2 then unless (fault_in 0 (MARKET ∷ []) fields) (request.Book (natural_in fields MARKET)) else Err Syntax

-- positions,ACCOUNT,MARKET
abbrev pub positions_request : List (List ℕ) → Result Request Fault
positions_request fields =
    if length fields == 3
    then unless (fault_in 0 (ACCOUNT ∷ LISTED ∷ []) fields) (request.Positions (natural_in fields ACCOUNT) (natural_in fields LISTED))
    else Err Syntax

-- secure,ACCOUNT
abbrev pub secure_request : List (List ℕ) → Result Request Fault
secure_request fields =
    if length fields == 2 then unless (fault_in 0 (ACCOUNT ∷ []) fields) (request.Secure (natural_in fields ACCOUNT)) else Err Syntax

-- need,ACCOUNT
abbrev pub need_request : List (List ℕ) → Result Request Fault
need_request fields =
    if length fields == 2 then unless (fault_in 0 (ACCOUNT ∷ []) fields) (request.Need (natural_in fields ACCOUNT)) else Err Syntax

-- close,MARKET
abbrev pub close_request : List (List ℕ) → Result Request Fault
close_request fields =
    if length fields == 2 then unless (fault_in 0 (MARKET ∷ []) fields) (request.Close (natural_in fields MARKET)) else Err Syntax

-- reopen,MARKET
abbrev pub reopen_request : List (List ℕ) → Result Request Fault
reopen_request fields =
    if length fields == 2 then unless (fault_in 0 (MARKET ∷ []) fields) (request.Reopen (natural_in fields MARKET)) else Err Syntax

-- ---- what is proposed, which is no list of fields
-- what stands behind the word and its comma
abbrev pub proposed_text : List ℕ → Option (List ℕ)
proposed_text line = if bytes_eq (take 8 line) (codes "propose,") then Some (drop 8 line) else None

-- for the market that is what stands up to the first comma behind the word, the proposal is what
-- stands from a place on; a market out of its range is told only where there is a proposal
abbrev pub proposed_for : ℕ → NumberRead → Result Request Fault
proposed_for from NotNumber = Err Syntax
proposed_for from Outside = Ok (request.Propose (record { market = None; from = from }))
proposed_for from (Value market) = Ok (request.Propose (record { market = Some (unsigned_abs market); from = from }))

abbrev pub propose_request : List ℕ → Result Request Fault
propose_request text =
    with_some (position (λ b. b == 44) text) (λ place. proposed_for (place + 9) (number_in MARKET.low MARKET.high (take place text)))
