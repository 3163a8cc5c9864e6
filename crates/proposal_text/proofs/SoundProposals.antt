-- What is taken out of a text or a line is within its ranges.
use Rattle.std.proofs.Common.{◌≡◌, ℕ, ◌≤◌, ◌≤ℤ◌, pos, int_le, List, length, true, false, Bool, ◌==◌, nat_le, Option, Some, option_and_then, codes, refl, arith, if◌then◌else◌}
use Rattle.std.specs.Prelude.{⊤}
use Rattle.std.specs.List.{AllByRecursion}
use Rattle.std.specs.Str.{bytes_eq}
use Rattle.std.proofs.lemmas.Bool.{and_parts, leb-true}
use Rattle.arithmetic.proofs.Tests.{int_le-yes}
use Rattle.form.specs.declared.limits.TheConstants.{MAX_BUDGET, MAX_ORDER, MAX_ORDERS}
use Rattle.form.specs.declared.orders.Batch.{Batch}
use Rattle.exact_num.specs.Fraction.{IsNotBelowZero}
use Rattle.exact_num.specs.Tests.{is_not_below_zero}
use Rattle.frac.specs.Range.{limit}
use Rattle.frac.specs.Value.{fraction_of}
use Rattle.frac.specs.declared.frac128.Frac128.{Frac128}
use Rattle.serde_json.specs.Data.{Data}
use Rattle.serde_json.specs.Find.{as_bool, as_number, as_u64}
use Rattle.limits.specs.declared.TheConstants.{MAX_ACCOUNT, MAX_MARKET, MAX_BATCHES}
use Rattle.reply_print.specs.Within.{IsAccount, IsMarket, IsOrderNumber, IsBatchNumber, IsBatchWithin, IsSmall}
use Rattle.reply_text.specs.BatchValues.{fraction_from, side_at, whole_from}
use Rattle.reply_text.specs.OutcomeValues.{claim_from}
use Rattle.reply_text.specs.ReplyValues.{account_at, market_at, batch_from, cleared_batch_from}
use Rattle.reply_text.specs.Taking.{from_to, list_at, natural_at, take_at}
use Rattle.reply_text.proofs.Sound.{Sound, any, after, mapped, either, where_true, at_key, list_sound, natural_sound, small_sound, from_sound}
use Rattle.reply_text.proofs.SoundCleared.{IsBundleListed, IsClearedWithin, batch_sound, bundle_sound, cleared_batch_sound}
use Rattle.form.specs.Between.{Between}
use Rattle.proposal_text.specs.declared.replies.ProposalReply.{ProposalReply}
use Rattle.proposal_text.specs.declared.replies.ProposalReply.TheVariants.{Book, Positions, Proposed, Stale, Unproved, Closed, Reopened, MarketIsClosed, MarketIsOpen, Secured, Uncovered, Barred}
use Rattle.proposal_text.specs.ReplyValues.{are_bounds, are_in_order, are_surpluses, book_from, do_rise, filled, fill_at, position_of, position_from, positions_from, proposed_from, bounded_of, bounded_with, stop_by_word, outcome_from, bounded_from, closed_from, reopened_from, failed_by_word, secured_from, needs_with, needs_from, not_negative, part_at, stopped_by_word, tried_with, tried_from, bar_by, plain_refusal, refused_by, reply_by, rising}
use Rattle.proposal_text.specs.CoverReading.{proved_by}
use Rattle.proposal_text.specs.Submissions.{proposal_from, order_number_from, few_numbers, order_numbers_at, submission_with, submission_from}
use Rattle.proposal_text.specs.Within.{AreInOrder, AreRising, IsProposalWithin, IsSubmissionWithin, IsPositionWithin, IsBoundedWithin, IsProposalReplyWithin}
use Rattle.proposal_text.specs.Needs.{IsNeedWithin, need_at, size_at}
use Rattle.proposal_text.proofs.RisingNumbers.{rise_are}
use Rattle.proposal_text.proofs.SoundAsked.{margin_sound, priced_sound, quoted_sound}
use Rattle.proposal_text.proofs.SoundCovers.{proved_sound}
use Rattle.proposal_text.proofs.SoundNeeds.{need_sound, size_sound}
use Rattle.reply_print.specs.Look.{number_at, word_at}

-- ---- proposals

pub proposal_sound : (d : Data) → Sound IsProposalWithin (proposal_from d)
proposal_sound d =
    after (λ x. ⊤) IsProposalWithin _ _ (any (claim_from d))
    (λ claim c. after (λ x. ⊤) IsProposalWithin _ _ (any (list_at (codes "fills") fraction_from d))
    (λ fills f. at_key IsProposalWithin (codes "certificate") (proved_by fills claim) d (proved_sound fills claim)))

number_sound : (d : Data) → Sound IsOrderNumber (order_number_from d)
number_sound d = after (λ n. ⊤) IsOrderNumber (from_to 1 MAX_ORDER) (option_and_then as_u64 (as_number d)) (any _) (λ n t. from_sound 1 MAX_ORDER n)

abbrev AreNumbers : List ℕ → Type 0
AreNumbers orders = (length orders ≤ MAX_ORDERS) × AllByRecursion IsOrderNumber orders

few_sound : (orders : List ℕ) → AllByRecursion IsOrderNumber orders → Sound AreNumbers (few_numbers orders)
few_sound orders h = where_true AreNumbers (nat_le (length orders) MAX_ORDERS) orders (λ e. (leb-true (length orders) MAX_ORDERS e, h))

numbers_sound : (d : Data) → Sound AreNumbers (order_numbers_at d)
numbers_sound d =
    after (AllByRecursion IsOrderNumber) AreNumbers few_numbers (list_at (codes "orders") order_number_from d) (list_sound IsOrderNumber (codes "orders") order_number_from d number_sound) few_sound

pub submission_sound : (d : Data) → Sound IsSubmissionWithin (submission_from d)
submission_sound d =
    after AreNumbers IsSubmissionWithin _ (order_numbers_at d) (numbers_sound d)
    (λ orders o. mapped IsProposalWithin IsSubmissionWithin (submission_with orders) (proposal_from d) (proposal_sound d) (λ proposal p. (p, o.0, o.1)))

-- ---- replies

abbrev IsSoundReply : Option ProposalReply → Type 0
IsSoundReply = Sound IsProposalReplyWithin

abbrev IsRisingBatch : Batch → Type 0
IsRisingBatch batch = IsBatchWithin batch × AreRising batch.orders

book_sound : (d : Data) → IsSoundReply (book_from d)
book_sound d =
    after IsMarket IsProposalReplyWithin _ (market_at d) (natural_sound 1 MAX_MARKET (codes "market") d)
    (λ market m. mapped IsRisingBatch IsProposalReplyWithin (Book market) (option_and_then rising (batch_from d))
    (after IsBatchWithin IsRisingBatch rising (batch_from d) (batch_sound d) (λ batch b. where_true IsRisingBatch (do_rise batch.orders) batch (λ e. (b, rise_are batch.orders e))))
    (λ batch b. (m, b.0, b.1)))

abbrev IsFilled : Frac128 → Type 0
IsFilled x = pos 1 ≤ℤ x.numerator

fill_sound : (d : Data) → Sound IsFilled (fill_at d)
fill_sound d =
    after (λ x. ⊤) IsFilled filled (take_at (codes "fill") fraction_from d) (any _)
    (λ x t. where_true IsFilled (int_le (pos 1) x.numerator) x (int_le-yes (pos 1) x.numerator))

position_sound : (account market : ℕ) (d : Data) → Sound (IsPositionWithin account market) (position_from account market d)
position_sound account market d =
    let P = IsPositionWithin account market in
    after IsBatchNumber P _ _ (natural_sound 1 MAX_BATCHES (codes "batch") d)
    (λ batch b. after IsFilled P _ _ (fill_sound d)
    (λ fill f. after IsBundleListed P _ _ (bundle_sound false d)
    (λ bundle l. after IsOrderNumber P _ _ (natural_sound 1 MAX_ORDER (codes "order") d)
    (λ order o. mapped (λ side. ⊤) P (position_of account market batch fill bundle order) (side_at d) (any (side_at d))
    (λ side t. record { account_is = refl; market_is = refl; batch = b; order = o; listed = l; filled = f })))))

positions_sound : (d : Data) → IsSoundReply (positions_from d)
positions_sound d =
    after IsAccount IsProposalReplyWithin _ (account_at d) (natural_sound 1 MAX_ACCOUNT (codes "account") d)
    (λ account a. after IsMarket IsProposalReplyWithin _ (market_at d) (natural_sound 1 MAX_MARKET (codes "market") d)
    (λ market m. mapped (AllByRecursion (IsPositionWithin account market)) IsProposalReplyWithin (λ positions. Positions account market positions) _
    (list_sound (IsPositionWithin account market) (codes "positions") (position_from account market) d (position_sound account market)) (λ positions p. (a, m, p))))

-- numbers that pass the test do not fall
order_is : (surplus best_surplus least_bound bound : Frac128) → are_in_order (fraction_of surplus) (fraction_of best_surplus) (fraction_of least_bound) (fraction_of bound) ≡ true
    → AreInOrder surplus best_surplus least_bound bound
order_is surplus best_surplus least_bound bound e =
    let parts = and_parts (are_surpluses (fraction_of surplus) (fraction_of best_surplus)) (are_bounds (fraction_of best_surplus) (fraction_of least_bound) (fraction_of bound)) e in
    let surpluses = and_parts _ _ parts.0 in
    let bounds = and_parts _ _ parts.1 in
    record { not_below_zero = int_le-yes _ _ surpluses.0; best = int_le-yes _ _ surpluses.1; bounded = int_le-yes _ _ bounds.0; least = int_le-yes _ _ bounds.1 }

proposed_sound : (d : Data) → IsSoundReply (proposed_from d)
proposed_sound d =
    after IsMarket IsProposalReplyWithin _ (market_at d) (natural_sound 1 MAX_MARKET (codes "market") d)
    (λ market m. after (λ x. ⊤) IsProposalReplyWithin _ _ (any (take_at (codes "surplus") fraction_from d))
    (λ surplus s. after (λ x. ⊤) IsProposalReplyWithin _ _ (any (take_at (codes "bound") fraction_from d))
    (λ bound b. after (λ x. ⊤) IsProposalReplyWithin _ _ (any (take_at (codes "best_surplus") fraction_from d))
    (λ best_surplus g. after (λ x. ⊤) IsProposalReplyWithin _ _ (any (take_at (codes "least_bound") fraction_from d))
    (λ least_bound k. where_true IsProposalReplyWithin (are_in_order (fraction_of surplus) (fraction_of best_surplus) (fraction_of least_bound) (fraction_of bound)) (Proposed market surplus bound best_surplus least_bound)
    (λ e. (m, order_is surplus best_surplus least_bound bound e)))))))

outcome_sound : (d : Data) → Sound IsBoundedWithin (outcome_from d)
outcome_sound d =
    after (λ x. ⊤) IsBoundedWithin _ _ (any (take_at (codes "bound") fraction_from d))
    (λ bound b. after (Between 0 MAX_BUDGET) IsBoundedWithin _ _ (natural_sound 0 MAX_BUDGET (codes "units") d)
    (λ units u. mapped IsProposalWithin IsBoundedWithin (bounded_of (stop_by_word (word_at (codes "run") d)) bound units) (proposal_from d) (proposal_sound d) (λ proposal p. (u.1, p))))

bounded_sound : (d : Data) → IsSoundReply (bounded_from d)
bounded_sound d =
    after IsClearedWithin IsProposalReplyWithin _ (cleared_batch_from d) (cleared_batch_sound d)
    (λ cleared c. mapped IsBoundedWithin IsProposalReplyWithin (bounded_with cleared) (outcome_from d) (outcome_sound d) (λ outcome o. (c.0, c.1, c.2, o)))

closed_sound : (d : Data) → IsSoundReply (closed_from d)
closed_sound d =
    after IsMarket IsProposalReplyWithin _ (market_at d) (natural_sound 1 MAX_MARKET (codes "market") d)
    (λ market m. mapped (Between 0 MAX_ORDERS) IsProposalReplyWithin (Closed market) (natural_at 0 MAX_ORDERS (codes "orders") d) (natural_sound 0 MAX_ORDERS (codes "orders") d)
    (λ orders o. (m, o.1)))

reopened_sound : (d : Data) → IsSoundReply (reopened_from d)
reopened_sound d = mapped IsMarket IsProposalReplyWithin Reopened (market_at d) (natural_sound 1 MAX_MARKET (codes "market") d) (λ market m. m)

one_within : (b : Bool) (x y : ProposalReply) → IsProposalReplyWithin x → IsProposalReplyWithin y → IsProposalReplyWithin (if b then x else y)
one_within true x y h k = h
one_within false x y h k = k

plain_within : (number : ℕ) → IsProposalReplyWithin (plain_refusal number)
plain_within number =
    one_within (number == 20) Stale _ tt
    (one_within (number == 23) MarketIsClosed _ tt (one_within (number == 24) MarketIsOpen (Barred (bar_by number)) tt tt))

refused_sound : (number : ℕ) (d : Data) → IsSoundReply (refused_by number d)
refused_sound number d =
    either IsProposalReplyWithin (number == 14) _ _ (mapped IsNeedWithin IsProposalReplyWithin Uncovered (need_at d) (need_sound d) (λ need n. n))
    (either IsProposalReplyWithin (number == 21) (Some (Unproved (failed_by_word (word_at (codes "failed") d)))) (Some (plain_refusal number)) tt (plain_within number))

-- ---- accounts and trials

secured_sound : (d : Data) → IsSoundReply (secured_from d)
secured_sound d =
    after IsAccount IsProposalReplyWithin _ (account_at d) (natural_sound 1 MAX_ACCOUNT (codes "account") d)
    (λ account a. mapped (λ n. n ≤ limit) IsProposalReplyWithin (Secured account) (size_at limit (codes "need") d) (size_sound limit (codes "need") d) (λ amount n. (a, omega (arith, n))))

needs_sound : (d : Data) → IsSoundReply (needs_from d)
needs_sound d =
    after IsAccount IsProposalReplyWithin _ (account_at d) (natural_sound 1 MAX_ACCOUNT (codes "account") d)
    (λ account a. after IsSmall IsProposalReplyWithin _ _ (at_key IsSmall (codes "balance") (whole_from limit) d small_sound)
    (λ balance b. after IsNeedWithin IsProposalReplyWithin _ (need_at d) (need_sound d)
    (λ need n. mapped (λ secured. ⊤) IsProposalReplyWithin (needs_with account balance need) _ (any (take_at (codes "secured") as_bool d)) (λ secured s. (a, b, n)))))

abbrev IsPart : Frac128 → Type 0
IsPart x = IsNotBelowZero (fraction_of x)

part_sound : (key : List ℕ) (d : Data) → Sound IsPart (part_at key d)
part_sound key d =
    after (λ x. ⊤) IsPart not_negative (take_at key fraction_from d) (any _)
    (λ x t. where_true IsPart (is_not_below_zero (fraction_of x)) x (int_le-yes (pos 0) (fraction_of x).numerator))

tried_sound : (d : Data) → IsSoundReply (tried_from d)
tried_sound d =
    after IsMarket IsProposalReplyWithin _ (market_at d) (natural_sound 1 MAX_MARKET (codes "market") d)
    (λ market m. after IsPart IsProposalReplyWithin _ _ (part_sound (codes "fill") d)
    (λ fill f. mapped IsPart IsProposalReplyWithin (tried_with market (stopped_by_word (word_at (codes "mark") d)) fill) _ (part_sound (codes "surplus") d) (λ surplus s. (m, f, s))))

pub reply_sound : (word : List ℕ) (d : Data) → IsSoundReply (reply_by word d)
reply_sound word d =
    either IsProposalReplyWithin (bytes_eq word (codes "book")) _ _ (book_sound d)
    (either IsProposalReplyWithin (bytes_eq word (codes "positions")) _ _ (positions_sound d)
    (either IsProposalReplyWithin (bytes_eq word (codes "proposed")) _ _ (proposed_sound d)
    (either IsProposalReplyWithin (bytes_eq word (codes "cleared")) _ _ (bounded_sound d)
    (either IsProposalReplyWithin (bytes_eq word (codes "closed")) _ _ (closed_sound d)
    (either IsProposalReplyWithin (bytes_eq word (codes "reopened")) _ _ (reopened_sound d)
    (either IsProposalReplyWithin (bytes_eq word (codes "secured")) _ _ (secured_sound d)
    (either IsProposalReplyWithin (bytes_eq word (codes "need")) _ _ (needs_sound d)
    (either IsProposalReplyWithin (bytes_eq word (codes "quoted")) _ _ (quoted_sound d)
    (either IsProposalReplyWithin (bytes_eq word (codes "priced")) _ _ (priced_sound d)
    (either IsProposalReplyWithin (bytes_eq word (codes "margin")) _ _ (margin_sound d)
    (either IsProposalReplyWithin (bytes_eq word (codes "tried")) _ _ (tried_sound d) (refused_sound (number_at (codes "number") d) d))))))))))))
