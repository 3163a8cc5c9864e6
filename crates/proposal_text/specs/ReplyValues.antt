-- The replies about proposals as they are taken out of a line, where they are within their ranges,
-- and their reading.
use Rattle.std.specs.Prelude.{ℕ, ℤ, ◌≡◌, pos, int_le, List, [], ◌∷◌, Bool, true, false, ◌&&◌, ◌==◌, nat_lt, Option, Some, None, Result, option_map, option_and_then, codes, if◌then◌else◌}
use Rattle.std.specs.Str.{bytes_eq}
use Rattle.exact_num.specs.Fraction.{Fraction}
use Rattle.exact_num.specs.Tests.{is_at_most, is_not_below_zero}
use Rattle.form.specs.declared.orders.Batch.{Batch}
use Rattle.form.specs.declared.orders.Order.{Order}
use Rattle.form.specs.declared.orders.Side.{Side}
use Rattle.form.specs.declared.bundles.Bundle.{Bundle}
use Rattle.frac.specs.Value.{fraction_of}
use Rattle.frac.specs.declared.frac128.Frac128.{Frac128}
use Rattle.settlement.specs.declared.position.Position.{Position}
use Rattle.frac.specs.Range.{limit}
use Rattle.serde_json.specs.Data.{Data}
use Rattle.serde_json.specs.Find.{as_bool}
use Rattle.proposal_check.specs.declared.covers.Proposal.{Proposal}
use Rattle.form.specs.declared.limits.TheConstants.{MAX_BUDGET, MAX_ORDER, MAX_ORDERS}
use Rattle.limits.specs.declared.TheConstants.{MAX_BATCHES}
use Rattle.reply_print.specs.Look.{word_at, number_at}
use Rattle.reply_text.specs.BatchValues.{fraction_from, whole_from, bundle_from, side_at}
use Rattle.reply_text.specs.declared.batch_values.ClearedBatch.{ClearedBatch}
use Rattle.reply_text.specs.ReplyValues.{account_at, market_at, batch_from, cleared_batch_from}
use Rattle.reply_text.specs.Taking.{natural_at, list_at, take_at}
use Rattle.reply_text.specs.Tests.{ReplyTests, Tests, read_by, tests_of}
use Rattle.reply_text.specs.declared.faults.LineFault.{LineFault}
use Rattle.proposal_text.specs.declared.replies.StopReason.{StopReason}
use Rattle.proposal_text.specs.declared.replies.StopReason.TheVariants as stop
use Rattle.proposal_text.specs.declared.replies.BoundedOutcome.{BoundedOutcome}
use Rattle.proposal_text.specs.declared.replies.FailureKind.{FailureKind}
use Rattle.proposal_text.specs.declared.replies.FailureKind.TheVariants as failed
use Rattle.proposal_text.specs.declared.needs.Need.{Need}
use Rattle.proposal_text.specs.declared.replies.Bar.{Bar}
use Rattle.proposal_text.specs.declared.replies.Bar.TheVariants.{NotAllowed, NotAsked, OverQuota}
use Rattle.proposal_text.specs.declared.replies.ProposalReply.{ProposalReply}
use Rattle.proposal_text.specs.declared.replies.ProposalReply.TheVariants.{Book, Positions, Proposed, Bounded, Stale, Unproved, Closed, Reopened, MarketIsClosed, MarketIsOpen, Secured, Needs, Uncovered, Tried, Barred}
use Rattle.proposal_text.specs.AskedValues.{margin_from, priced_from, quoted_from}
use Rattle.proposal_text.specs.Needs.{need_at, size_at}
use Rattle.proposal_text.specs.Pieces.{proposal_line}
use Rattle.proposal_text.specs.ReplyShapes.{numbers_by, shape_by}
use Rattle.proposal_text.specs.Submissions.{proposal_from}
use Rattle.proposal_text.specs.Within.{IsProposalLineWithin}

-- ---- live orders

-- each order's number is below the next one's
abbrev pub do_rise : List Order → Bool
do_rise [] = true
do_rise (order ∷ []) = true
do_rise (order ∷ next ∷ orders) = nat_lt order.id next.id && do_rise (next ∷ orders)

abbrev pub rising : Batch → Option Batch
rising batch = if do_rise batch.orders then Some batch else None

abbrev pub book_from : Data → Option ProposalReply
book_from d = option_and_then (λ market. option_map (Book market) (option_and_then rising (batch_from d))) (market_at d)

-- ---- positions

-- a fill above 0
abbrev pub filled : Frac128 → Option Frac128
filled x = if int_le (pos 1) x.numerator then Some x else None

abbrev pub fill_at : Data → Option Frac128
fill_at d = option_and_then filled (take_at (codes "fill") fraction_from d)

abbrev pub position_of : ℕ → ℕ → ℕ → Frac128 → Bundle → ℕ → Side → Position
position_of account market batch fill bundle order side =
    record { market = market; batch = batch; order = order; account = account; side = side; bundle = bundle; fill = fill }

-- a position of the account in the market
abbrev pub position_from : ℕ → ℕ → Data → Option Position
position_from account market d =
    option_and_then (λ batch.
    option_and_then (λ fill.
    option_and_then (λ bundle.
    option_and_then (λ order. option_map (position_of account market batch fill bundle order) (side_at d))
    (natural_at 1 MAX_ORDER (codes "order") d))
    (bundle_from false d))
    (fill_at d))
    (natural_at 1 MAX_BATCHES (codes "batch") d)

abbrev pub positions_from : Data → Option ProposalReply
positions_from d =
    option_and_then (λ account.
    option_and_then (λ market. option_map (λ positions. Positions account market positions) (list_at (codes "positions") (position_from account market) d))
    (market_at d))
    (account_at d)

-- ---- proposals that are judged a bound

-- whether 0 and these do not fall, in this order
abbrev pub are_surpluses : Fraction → Fraction → Bool
are_surpluses surplus best_surplus = is_not_below_zero surplus && is_at_most surplus best_surplus

abbrev pub are_bounds : Fraction → Fraction → Fraction → Bool
are_bounds best_surplus least_bound bound = is_at_most best_surplus least_bound && is_at_most least_bound bound

abbrev pub are_in_order : Fraction → Fraction → Fraction → Fraction → Bool
are_in_order surplus best_surplus least_bound bound = are_surpluses surplus best_surplus && are_bounds best_surplus least_bound bound

abbrev pub proposed_by : ℕ → Frac128 → Frac128 → Frac128 → Frac128 → Option ProposalReply
proposed_by market surplus bound best_surplus least_bound =
    if are_in_order (fraction_of surplus) (fraction_of best_surplus) (fraction_of least_bound) (fraction_of bound)
    then Some (Proposed market surplus bound best_surplus least_bound)
    else None

abbrev pub proposed_from : Data → Option ProposalReply
proposed_from d =
    option_and_then (λ market.
    option_and_then (λ surplus.
    option_and_then (λ bound.
    option_and_then (λ best_surplus. option_and_then (proposed_by market surplus bound best_surplus) (take_at (codes "least_bound") fraction_from d))
    (take_at (codes "best_surplus") fraction_from d))
    (take_at (codes "bound") fraction_from d))
    (take_at (codes "surplus") fraction_from d))
    (market_at d)

-- ---- cleared lines of version 3

abbrev pub stop_by_word : List ℕ → StopReason
stop_by_word word = if bytes_eq word (codes "wide") then stop.Wide else stop.Budget

abbrev pub bounded_of : StopReason → Frac128 → ℕ → Proposal → BoundedOutcome
bounded_of run bound units proposal = record { proposal = proposal; bound = bound; run = run; units = units }

abbrev pub outcome_from : Data → Option BoundedOutcome
outcome_from d =
    option_and_then (λ bound.
    option_and_then (λ units. option_map (bounded_of (stop_by_word (word_at (codes "run") d)) bound units) (proposal_from d))
    (natural_at 0 MAX_BUDGET (codes "units") d))
    (take_at (codes "bound") fraction_from d)

abbrev pub bounded_with : ClearedBatch → BoundedOutcome → ProposalReply
bounded_with cleared outcome = Bounded cleared.number cleared.market cleared.batch outcome

abbrev pub bounded_from : Data → Option ProposalReply
bounded_from d = option_and_then (λ cleared. option_map (bounded_with cleared) (outcome_from d)) (cleared_batch_from d)

-- ---- phases

abbrev pub closed_from : Data → Option ProposalReply
closed_from d = option_and_then (λ market. option_map (Closed market) (natural_at 0 MAX_ORDERS (codes "orders") d)) (market_at d)

abbrev pub reopened_from : Data → Option ProposalReply
reopened_from d = option_map Reopened (market_at d)

-- ---- accounts

abbrev pub secured_from : Data → Option ProposalReply
secured_from d = option_and_then (λ account. option_map (Secured account) (size_at limit (codes "need") d)) (account_at d)

abbrev pub needs_with : ℕ → ℤ → Need → Bool → ProposalReply
needs_with account balance need secured = Needs (record { account = account; balance = balance; need = need; secured = secured })

abbrev pub needs_from : Data → Option ProposalReply
needs_from d =
    option_and_then (λ account.
    option_and_then (λ balance.
    option_and_then (λ need. option_map (needs_with account balance need) (take_at (codes "secured") as_bool d)) (need_at d))
    (take_at (codes "balance") (whole_from limit) d))
    (account_at d)

-- ---- trials

abbrev pub stopped_by_word : List ℕ → Option StopReason
stopped_by_word word = if bytes_eq word (codes "optimal") then None else Some (stop_by_word word)

-- a fraction that is not below 0
abbrev pub not_negative : Frac128 → Option Frac128
not_negative x = if is_not_below_zero (fraction_of x) then Some x else None

abbrev pub part_at : List ℕ → Data → Option Frac128
part_at key d = option_and_then not_negative (take_at key fraction_from d)

abbrev pub tried_with : ℕ → Option StopReason → Frac128 → Frac128 → ProposalReply
tried_with market stopped fill surplus = Tried market (record { fill = fill; surplus = surplus; stopped = stopped })

abbrev pub tried_from : Data → Option ProposalReply
tried_from d =
    option_and_then (λ market.
    option_and_then (λ fill. option_map (tried_with market (stopped_by_word (word_at (codes "mark") d)) fill) (part_at (codes "surplus") d))
    (part_at (codes "fill") d))
    (market_at d)

-- ---- refusals

abbrev pub failed_by_word : List ℕ → FailureKind
failed_by_word word =
    if bytes_eq word (codes "BatchShape") then failed.BatchShape
    else if bytes_eq word (codes "Fill") then failed.Fill
    else if bytes_eq word (codes "Cover") then failed.Cover
    else if bytes_eq word (codes "Measure") then failed.Measure
    else failed.Wide

abbrev pub bar_by : ℕ → Bar
bar_by number = if number == 25 then NotAllowed else if number == 26 then NotAsked else OverQuota

-- one that tells nothing more than its number
abbrev pub plain_refusal : ℕ → ProposalReply
plain_refusal number =
    if number == 20 then Stale
    else if number == 23 then MarketIsClosed
    else if number == 24 then MarketIsOpen
    else Barred (bar_by number)

-- by the number of the refusal
abbrev pub refused_by : ℕ → Data → Option ProposalReply
refused_by number d =
    if number == 14 then option_map Uncovered (need_at d)
    else if number == 21 then Some (Unproved (failed_by_word (word_at (codes "failed") d)))
    else Some (plain_refusal number)

abbrev pub refused_from : Data → Option ProposalReply
refused_from d = refused_by (number_at (codes "number") d) d

-- ---- the whole line

abbrev pub reply_by : List ℕ → Data → Option ProposalReply
reply_by word d =
    if bytes_eq word (codes "book") then book_from d
    else if bytes_eq word (codes "positions") then positions_from d
    else if bytes_eq word (codes "proposed") then proposed_from d
    else if bytes_eq word (codes "cleared") then bounded_from d
    else if bytes_eq word (codes "closed") then closed_from d
    else if bytes_eq word (codes "reopened") then reopened_from d
    else if bytes_eq word (codes "secured") then secured_from d
    else if bytes_eq word (codes "need") then needs_from d
    else if bytes_eq word (codes "quoted") then quoted_from d
    else if bytes_eq word (codes "priced") then priced_from d
    else if bytes_eq word (codes "margin") then margin_from d
    else if bytes_eq word (codes "tried") then tried_from d
    else refused_from d

abbrev pub proposal_replies : ReplyTests ProposalReply
proposal_replies = record { shape_by = shape_by; numbers_by = numbers_by; reply_by = reply_by; line = proposal_line }

-- the tests of these lines
abbrev pub proposal_tests : Tests (ℕ × ProposalReply)
proposal_tests = tests_of proposal_replies

-- the line and its reply, or the first test that fails
abbrev pub reply_reading : List ℕ → Result (ℕ × ProposalReply) LineFault
reply_reading text = read_by proposal_tests text

-- the text is the line of a reply, and both are within their ranges
abbrev pub IsProposalLineOf : List ℕ → ℕ → ProposalReply → Type 0
IsProposalLineOf text line reply = IsProposalLineWithin line reply × (text ≡ proposal_line line reply)
