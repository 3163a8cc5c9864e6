-- What a request meets: a batch that may be quoted, or its first refusal.
use Rattle.std.proofs.Common.{◌≡◌, ◌+◌, ◌≤◌, ◌<◌, [], ◌∷◌, Bool, true, false, not, nat_eq, nat_le, Option, Some, None, Result, Ok, Err, is_some, if◌then◌else◌, refl, sym, ap, subst, ◌∙◌, arith}
use Rattle.std.specs.Option.{option_map, option_map_or}
use Rattle.std.proofs.lemmas.Bool.Decides.{nat_tests}
use Rattle.std.proofs.lemmas.List.Elements.{All-weaker}
use Rattle.form.specs.declared.orders.Batch.{Batch}
use Rattle.form.specs.declared.orders.Order.{Order}
use Rattle.form.specs.Limits.{IsListed}
use Rattle.form.specs.Payoff.{option_of}
use Rattle.limits.specs.declared.TheConstants.{MAX_BATCHES}
use Rattle.order_book.specs.declared.market.MarketInfo.{MarketInfo}
use Rattle.order_book.specs.declared.refusal.BookRefusal.TheVariants as book
use Rattle.order_book.specs.Book.{batch_of, info_in, info_of, market_of}
use Rattle.order_book.specs.Kept.{IsLive}
use Rattle.order_book.specs.Markets.{MarketState}
use Rattle.order_book.specs.Refusals.{batch_refusals, is_full}
use Rattle.order_book.proofs.BookKept.{batch_within, market_kept}
use Rattle.exchange_core.specs.declared.refusal.Refusal.{Refusal}
use Rattle.exchange_core.specs.declared.refusal.Refusal.TheVariants.{Settled, WeightCount, BookFull, TooMany}
use Rattle.exchange_core.specs.ExchangeState.{ExchangeState}
use Rattle.exchange_core.specs.Kept.{IsKept}
use Rattle.exchange_core.specs.Step.{batch_in}
use Rattle.option_quotes.specs.Thresholds.{MayBeQuoted}
use Rattle.command_text.specs.declared.requests.QuoteRequest.{QuoteRequest}
use Rattle.lists.specs.Refusals.{first_of}
use Rattle.lists.proofs.FirstRefusal.{first_behind, first_in_front}
use Rattle.quote_lines.specs.Refusals.{info_refusals, quote_refusals}
use Rattle.quote_lines.specs.Replies.{asked_batch}

-- ---- a batch that may be quoted
none_of : (a b c : Bool) → first_of ((a, Settled) ∷ (b, WeightCount) ∷ (c, BookFull) ∷ []) ≡ None → (a ≡ false) × (b ≡ false) × (c ≡ false)
none_of true b c none = absurd (cc)
none_of false true c none = absurd (cc)
none_of false false true none = absurd (cc)
none_of false false false none = (refl, refl, refl)

market_may : (state : ExchangeState) (request : QuoteRequest) (m : MarketState) → IsKept state → IsListed (option_of request.form) → market_of state.book request.market ≡ Some m
    → first_of (info_refusals (Some (info_of m)) request) ≡ None → MayBeQuoted (batch_of m) request.form
market_may state request m kept listed found none =
    let book_kept = kept.orders.book in
    let market = market_kept state.book book_kept request.market m found in
    let tests = none_of m.settled (not (nat_eq request.form.count (m.underlyings + 1))) (is_full (info_of m)) none in
    let most = book_kept.accepted in
    record {
      within = batch_within state.book.accepted m market;
      room = grind (arith, nat_tests, tests.2);
      ids = All-weaker (IsLive m.underlyings state.book.accepted) (λ (order : Order). order.id ≤ 1000000) (λ order live. omega (arith, live.number, most)) m.live market.live;
      listed = listed;
      on = grind (arith, nat_tests, tests.1);
    }

-- the live orders of the market of a request that its market does not refuse
pub live_may : (state : ExchangeState) (request : QuoteRequest) → IsKept state → IsListed (option_of request.form) → first_of (info_refusals (info_in state.book request.market) request) ≡ None
    → MayBeQuoted (batch_in state request.market) request.form
live_may state request kept listed none = by (market_of state.book request.market) refl none
  where
    by : (found : Option MarketState) → market_of state.book request.market ≡ found → first_of (info_refusals (option_map info_of found) request) ≡ None
        → MayBeQuoted (option_map_or batch_of found (record { underlyings = 0; orders = [] })) request.form
    by None found none = absurd (cc)
    by (Some m) found none = market_may state request m kept listed found none

batch_is : (found : Option MarketState) (batch other : Batch) → option_map batch_of found ≡ Some batch → option_map_or batch_of found other ≡ batch
batch_is None batch other is = absurd (cc)
batch_is (Some m) batch other is = cc

pub may_quote : (state : ExchangeState) (request : QuoteRequest) (batch : Batch) → IsKept state → IsListed (option_of request.form) → option_map batch_of (market_of state.book request.market) ≡ Some batch
    → first_of (info_refusals (info_in state.book request.market) request) ≡ None → MayBeQuoted batch request.form
may_quote state request batch kept listed is none =
    subst (λ (b : Batch). MayBeQuoted b request.form) (batch_is (market_of state.book request.market) batch _ is) (live_may state request kept listed none)

-- ---- the batch that is found
-- by the number of batches, where nothing that is told of the market refuses
by_batches : (state : ExchangeState) (request : QuoteRequest) → first_of (info_refusals (info_in state.book request.market) request) ≡ None
    → first_of (quote_refusals state.book request) ≡ (if nat_le MAX_BATCHES state.book.finished then Some TooMany else None)
by_batches state request none =
    first_behind (info_refusals (info_in state.book request.market) request) ((nat_le MAX_BATCHES state.book.finished, TooMany) ∷ []) none

abbrev found_by : ExchangeState → QuoteRequest → Option Refusal → Result Batch Refusal
found_by state request refused = option_map_or (λ refusal. Err refusal) refused (Ok (batch_in state request.market))

pub batch_refused : (state : ExchangeState) (request : QuoteRequest) (refusal : Refusal) → Some refusal ≡ first_of (info_refusals (info_in state.book request.market) request)
    → Err refusal ≡ asked_batch state request
batch_refused state request refusal is =
    sym (ap (found_by state request) (first_in_front (info_refusals (info_in state.book request.market) request) ((nat_le MAX_BATCHES state.book.finished, TooMany) ∷ []) refusal (sym is)))

pub batch_found : (state : ExchangeState) (request : QuoteRequest) (batch : Batch) → first_of (info_refusals (info_in state.book request.market) request) ≡ None
    → option_map batch_of (market_of state.book request.market) ≡ Some batch → state.book.finished < MAX_BATCHES → Ok batch ≡ asked_batch state request
batch_found state request batch none is few =
    let room : nat_le MAX_BATCHES state.book.finished ≡ false = grind (arith, nat_tests, few) in
    ap (λ (b : Batch). Ok b) (sym (batch_is (market_of state.book request.market) batch _ is))
    ∙ sym (ap (found_by state request) (by_batches state request none ∙ ap (λ (t : Bool). if t then Some TooMany else None) room))

-- the refusal of a batch of a market that is there and trades
trades : (info : Option MarketInfo) (request : QuoteRequest) (full : Bool) → first_of (info_refusals info request) ≡ None
    → first_of ((not (is_some info), book.NoMarket) ∷ (option_map_or (λ (found : MarketInfo). found.settled) info false, book.Settled) ∷ (full, book.TooMany) ∷ []) ≡ (if full then Some book.TooMany else None)
trades None request full none = absurd (cc)
trades (Some info) request full none =
    let tests = none_of info.settled (not (nat_eq request.form.count (info.underlyings + 1))) (is_full info) none in
    ap (λ (t : Bool). if t then Some book.Settled else (if full then Some book.TooMany else None)) tests.0

pub batch_too_many : (state : ExchangeState) (request : QuoteRequest) → first_of (info_refusals (info_in state.book request.market) request) ≡ None
    → Some book.TooMany ≡ first_of (batch_refusals state.book request.market) → Err TooMany ≡ asked_batch state request
batch_too_many state request none told =
    let full : Bool = nat_le MAX_BATCHES state.book.finished in
    let first = told ∙ trades (info_in state.book request.market) request full none in
    let P : Bool → Type 0 = λ t. Some book.TooMany ≡ (if t then Some book.TooMany else None) → Err TooMany ≡ found_by state request (if t then Some TooMany else None) in
    (elim full as P [ true ↦ λ h. refl | false ↦ λ h. absurd (cc) ]) first
    ∙ sym (ap (found_by state request) (by_batches state request none))

-- ---- what is told of what is found
-- where nothing refuses
pub told_of_found : {A B : Type 0} (tells : B → A) (refuses : Refusal → A) (refused : Option Refusal) (own found : B) → Ok found ≡ option_map_or (λ refusal. Err refusal) refused (Ok own)
    → tells found ≡ option_map_or refuses refused (tells own)
told_of_found tells refuses None own found is = let same : found ≡ own = cc in ap tells same
told_of_found tells refuses (Some first) own found is = absurd (cc)

-- or of the refusal
pub told_of_refusal : {A B : Type 0} (refuses : Refusal → A) (refused : Option Refusal) (own : B) (first : Refusal) (told : A) → Err first ≡ option_map_or (λ refusal. Err refusal) refused (Ok own)
    → refuses first ≡ option_map_or refuses refused told
told_of_refusal refuses None own first told is = absurd (cc)
told_of_refusal refuses (Some other) own first told is = let same : first ≡ other = cc in ap refuses same
