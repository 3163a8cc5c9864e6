-- The texts in what is told of quotes, prices and margins are plain.
use Rattle.std.proofs.Common.{◌≡◌, ℕ, List, true, codes, refl}
use Rattle.form.specs.declared.states.State.{State}
use Rattle.frac.specs.Value.{fraction_of}
use Rattle.reply_print.specs.BatchPieces.{whole_words}
use Rattle.reply_print.specs.Numbers.{fraction_text}
use Rattle.reply_print.specs.OutcomePieces.{state_entries}
use Rattle.reply_print.specs.Written.{is_plain}
use Rattle.reply_print.proofs.Digits.{plain-decimal, plain-fraction_text, plain-signed_decimal}
use Rattle.reply_print.proofs.PlainPieces.{HasPlainTexts, each_plain}
use Rattle.proposal_text.specs.declared.margins.ToldMargin.{ToldMargin}
use Rattle.proposal_text.specs.declared.margins.ToldMargin.TheVariants.{Least, Unbounded, Wide, Budget}
use Rattle.proposal_text.specs.declared.prices.QuotedPrice.{QuotedPrice}
use Rattle.proposal_text.specs.declared.prices.QuotedPrice.TheVariants.{At, Never, Unmarked}
use Rattle.proposal_text.specs.MarginPieces.{margin_piece, margin_with}
use Rattle.proposal_text.specs.PricePieces.{price_text, priced_piece, quoted_piece}

pub price_plain : (price : QuotedPrice) → is_plain (price_text price) ≡ true
price_plain (At price) = plain-decimal price
price_plain Never = refl
price_plain Unmarked = refl

pub quoted_plain : (line market : ℕ) (bid ask : QuotedPrice) → HasPlainTexts (quoted_piece line market bid ask)
quoted_plain line market bid ask = (refl, price_plain ask, (refl, price_plain bid, (refl, tt, (refl, tt, (refl, refl, tt)))))

pub priced_plain : (line market quantity : ℕ) (ask bid : QuotedPrice) → HasPlainTexts (priced_piece line market quantity ask bid)
priced_plain line market quantity ask bid = (refl, price_plain ask, (refl, price_plain bid, (refl, tt, (refl, tt, (refl, tt, (refl, refl, tt))))))

module _ (line account market : ℕ) where
  with_plain : (text : List ℕ) (at : State) → is_plain text ≡ true → HasPlainTexts (margin_with line account market text at)
  with_plain text at plain =
      (refl, tt, (refl, each_plain whole_words plain-signed_decimal (state_entries at), (refl, tt, (refl, plain, (refl, tt, (refl, refl, tt))))))

  pub margin_plain : (margin : ToldMargin) → HasPlainTexts (margin_piece line account market margin)
  margin_plain (Least liability at) = with_plain (fraction_text (fraction_of liability)) at (plain-fraction_text (fraction_of liability))
  margin_plain (Unbounded ray) = with_plain (codes "unbounded") ray refl
  margin_plain Wide = (refl, tt, (refl, tt, (refl, refl, (refl, tt, (refl, refl, tt)))))
  margin_plain Budget = (refl, tt, (refl, tt, (refl, refl, (refl, tt, (refl, refl, tt)))))
