-- What is quoted and priced is written as this.
use Rattle.std.specs.Prelude.{ℕ, List, codes, decimal}
use Rattle.reply_print.specs.BatchPieces.{natural}
use Rattle.reply_print.specs.Piece.{Piece, words, object, no_fields, field}
use Rattle.proposal_text.specs.declared.prices.QuotedPrice.{QuotedPrice}
use Rattle.proposal_text.specs.declared.prices.QuotedPrice.TheVariants.{At, Never, Unmarked}

-- a price, or why there is none
abbrev pub price_text : QuotedPrice → List ℕ
price_text (At price) = decimal price
price_text Never = codes "never"
price_text Unmarked = codes "unmarked"

abbrev pub quoted_piece : ℕ → ℕ → QuotedPrice → QuotedPrice → Piece
quoted_piece line market bid ask =
    object (field (codes "ask") (words (price_text ask))
    (field (codes "bid") (words (price_text bid))
    (field (codes "line") (natural line)
    (field (codes "market") (natural market)
    (field (codes "reply") (words (codes "quoted")) no_fields)))))

abbrev pub priced_piece : ℕ → ℕ → ℕ → QuotedPrice → QuotedPrice → Piece
priced_piece line market quantity ask bid =
    object (field (codes "ask") (words (price_text ask))
    (field (codes "bid") (words (price_text bid))
    (field (codes "line") (natural line)
    (field (codes "market") (natural market)
    (field (codes "quantity") (natural quantity)
    (field (codes "reply") (words (codes "priced")) no_fields))))))
