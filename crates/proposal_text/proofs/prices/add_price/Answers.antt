use Rattle.std.proofs.lemmas.Result.{on_ok_weaker}
use Rattle.reply_print.specs.Piece.{words}
use Rattle.reply_print.proofs.Behind.{field_added, quoted}
use Rattle.proposal_text.specs.PricePieces.{price_text}
use Rattle.proposal_text.proofs.prices.add_price.Goals as goal

pub returns : goal.returns
returns c =
    on_ok_weaker c.append-2.result
    (λ e. field_added c.args.line.now.items c.add_key.new.line.items c.append-2.new.line.items c.args.later c.args.key.now (words (price_text c.args.price)) c.in_ok-add_key.ensures
    (quoted c.add_key.new.line.items c.append.new.line.items c.add_price_word.new.line.items c.append-2.new.line.items (price_text c.args.price) c.in_ok-append.ensures c.in_ok-add_price_word.ensures e))
    c.append-2.ensures
