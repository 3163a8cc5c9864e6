-- What is told of quotes, prices and margins is within its ranges, where it is taken out of a line.
use Rattle.std.proofs.Common.{ℕ, ◌≤◌, List, codes}
use Rattle.std.specs.Prelude.{⊤}
use Rattle.std.specs.Str.{bytes_eq}
use Rattle.form.specs.Between.{Between}
use Rattle.form.specs.declared.limits.TheConstants.{MAX_PRICE, MAX_QUANTITY}
use Rattle.serde_json.specs.Data.{Data}
use Rattle.limits.specs.declared.TheConstants.{MAX_ACCOUNT, MAX_MARKET}
use Rattle.reply_print.specs.Look.{word_at}
use Rattle.reply_print.specs.Within.{IsAccount, IsMarket}
use Rattle.reply_text.specs.BatchValues.{fraction_from}
use Rattle.reply_text.specs.ReplyValues.{account_at, market_at}
use Rattle.reply_text.specs.Taking.{take_at}
use Rattle.reply_text.proofs.Sound.{Sound, any, after, mapped, either, natural_sound}
use Rattle.reply_text.proofs.SoundCleared.{IsStateWithin, state_sound}
use Rattle.proposal_text.specs.declared.margins.ToldMargin.TheVariants as told
use Rattle.proposal_text.specs.declared.prices.QuotedPrice.TheVariants as price
use Rattle.proposal_text.specs.declared.replies.ProposalReply.TheVariants.{Quoted, Priced, Margin}
use Rattle.proposal_text.specs.AskedValues.{least_from, margin_from, price_at, priced_from, quoted_from, told_by}
use Rattle.proposal_text.specs.Within.{IsMarginWithin, IsPriceWithin, IsProposalReplyWithin}
use Rattle.proposal_text.proofs.SoundNeeds.{size_sound}

price_sound : (key : List ℕ) (d : Data) → Sound IsPriceWithin (price_at key d)
price_sound key d =
    let word = word_at key d in
    either IsPriceWithin (bytes_eq word (codes "never")) _ _ tt
    (either IsPriceWithin (bytes_eq word (codes "unmarked")) _ _ tt (mapped (λ n. n ≤ MAX_PRICE) IsPriceWithin price.At _ (size_sound MAX_PRICE key d) (λ n h. h)))

pub quoted_sound : (d : Data) → Sound IsProposalReplyWithin (quoted_from d)
quoted_sound d =
    after IsMarket IsProposalReplyWithin _ (market_at d) (natural_sound 1 MAX_MARKET (codes "market") d)
    (λ market m. after IsPriceWithin IsProposalReplyWithin _ _ (price_sound (codes "bid") d)
    (λ bid b. mapped IsPriceWithin IsProposalReplyWithin (Quoted market bid) _ (price_sound (codes "ask") d) (λ ask a. (m, b, a))))

pub priced_sound : (d : Data) → Sound IsProposalReplyWithin (priced_from d)
priced_sound d =
    after IsMarket IsProposalReplyWithin _ (market_at d) (natural_sound 1 MAX_MARKET (codes "market") d)
    (λ market m. after (Between 1 MAX_QUANTITY) IsProposalReplyWithin _ _ (natural_sound 1 MAX_QUANTITY (codes "quantity") d)
    (λ quantity q. after IsPriceWithin IsProposalReplyWithin _ _ (price_sound (codes "ask") d)
    (λ ask a. mapped IsPriceWithin IsProposalReplyWithin (Priced market quantity ask) _ (price_sound (codes "bid") d) (λ bid b. (m, q, a, b)))))

least_sound : (d : Data) → Sound IsMarginWithin (least_from d)
least_sound d =
    after (λ x. ⊤) IsMarginWithin _ _ (any (take_at (codes "margin") fraction_from d))
    (λ liability l. mapped IsStateWithin IsMarginWithin (told.Least liability) _ (state_sound (codes "at") d) (λ at a. a))

told_sound : (word : List ℕ) (d : Data) → Sound IsMarginWithin (told_by word d)
told_sound word d =
    either IsMarginWithin (bytes_eq word (codes "wide")) _ _ tt
    (either IsMarginWithin (bytes_eq word (codes "budget")) _ _ tt
    (either IsMarginWithin (bytes_eq word (codes "unbounded")) _ _ (mapped IsStateWithin IsMarginWithin told.Unbounded _ (state_sound (codes "at") d) (λ ray r. r)) (least_sound d)))

pub margin_sound : (d : Data) → Sound IsProposalReplyWithin (margin_from d)
margin_sound d =
    after IsAccount IsProposalReplyWithin _ (account_at d) (natural_sound 1 MAX_ACCOUNT (codes "account") d)
    (λ account a. after IsMarket IsProposalReplyWithin _ (market_at d) (natural_sound 1 MAX_MARKET (codes "market") d)
    (λ market m. mapped IsMarginWithin IsProposalReplyWithin (Margin account market) _ (told_sound (word_at (codes "margin") d) d) (λ margin l. (a, m, l))))
