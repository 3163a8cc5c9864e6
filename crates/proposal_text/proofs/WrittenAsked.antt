-- The pieces of what is told of quotes, prices and margins within their ranges are plain and
-- shallow, and their keys rise.
use Rattle.std.proofs.Common.{◌≡◌, ℕ, List, true, codes, refl, arith}
use Rattle.std.specs.List.{AllByRecursion}
use Rattle.form.specs.Between.{Between}
use Rattle.form.specs.declared.limits.TheConstants.{MAX_QUANTITY}
use Rattle.form.specs.declared.states.State.{State}
use Rattle.frac.specs.Value.{fraction_of}
use Rattle.reply_print.specs.BatchPieces.{whole_words}
use Rattle.reply_print.specs.Numbers.{fraction_text}
use Rattle.reply_print.specs.OutcomePieces.{state_entries}
use Rattle.reply_print.specs.Within.{IsLine, IsAccount, IsMarket, IsSmall}
use Rattle.reply_print.specs.Written.{IsWritten, is_plain}
use Rattle.reply_print.proofs.Digits.{plain-fraction_text, plain-signed_decimal}
use Rattle.reply_print.proofs.WrittenReplies.{each_written, short}
use Rattle.proposal_text.specs.declared.margins.ToldMargin.{ToldMargin}
use Rattle.proposal_text.specs.declared.margins.ToldMargin.TheVariants.{Least, Unbounded, Wide, Budget}
use Rattle.proposal_text.specs.declared.prices.QuotedPrice.{QuotedPrice}
use Rattle.proposal_text.specs.MarginPieces.{margin_piece, margin_with}
use Rattle.proposal_text.specs.PricePieces.{priced_piece, quoted_piece}
use Rattle.proposal_text.specs.Within.{IsMarginWithin}
use Rattle.proposal_text.proofs.PlainAsked.{price_plain}

module _ (line market : ℕ) (l : IsLine line) (m : IsMarket market) where
  pub quoted_written : (bid ask : QuotedPrice) → IsWritten 6 (quoted_piece line market bid ask)
  quoted_written bid ask =
      (refl, (refl, price_plain ask, (refl, price_plain bid, (refl, short line (omega arith), (refl, short market (omega arith), (refl, refl, tt))))))

  pub priced_written : (quantity : ℕ) (ask bid : QuotedPrice) → Between 1 MAX_QUANTITY quantity → IsWritten 6 (priced_piece line market quantity ask bid)
  priced_written quantity ask bid q = (
    refl,
    (
      refl,
      price_plain ask,
      (
        refl,
        price_plain bid,
        (refl, short line (omega arith), (refl, short market (omega arith), (refl, short quantity (omega arith), (refl, refl, tt)))),
      ),
    ),
  )

module _ (line account market : ℕ) (l : IsLine line) (a : IsAccount account) (m : IsMarket market) where
  with_written : (text : List ℕ) (at : State) → is_plain text ≡ true → AllByRecursion IsSmall (state_entries at) → IsWritten 6 (margin_with line account market text at)
  with_written text at plain h = (
    refl,
    (
      refl,
      short account (omega arith),
      (
        refl,
        each_written IsSmall 4 whole_words (λ z small. plain-signed_decimal z) (state_entries at) h,
        (refl, short line (omega arith), (refl, plain, (refl, short market (omega arith), (refl, refl, tt)))),
      ),
    ),
  )

  pub margin_written : (margin : ToldMargin) → IsMarginWithin margin → IsWritten 6 (margin_piece line account market margin)
  margin_written (Least liability at) h = with_written (fraction_text (fraction_of liability)) at (plain-fraction_text (fraction_of liability)) h
  margin_written (Unbounded ray) h = with_written (codes "unbounded") ray refl h
  margin_written Wide h =
      (refl, (refl, short account (omega arith), (refl, short line (omega arith), (refl, refl, (refl, short market (omega arith), (refl, refl, tt))))))
  margin_written Budget h =
      (refl, (refl, short account (omega arith), (refl, short line (omega arith), (refl, refl, (refl, short market (omega arith), (refl, refl, tt))))))
