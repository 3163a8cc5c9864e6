use Rattle.std.proofs.Common.{◌≡◌, Some, sym, ap, ◌∙◌, arith}
use Rattle.std.specs.Option.{option_copied}
use Rattle.order_book.proofs.BookKept.{market_kept, batch_within}
use Rattle.order_book.proofs.book.Book.live.Goals as goal

pub returns-clause-within : goal.returns-clause-within
returns-clause-within c =
    let there : c.get.result ≡ Some c.in_ok-found.found = grind arith in
    rw c.in_ok-batch.ensures (batch_within _ _ (market_kept _ c.self.invariant c.args.market c.in_ok-found.found.now (sym c.get.ensures ∙ ap option_copied there)))
