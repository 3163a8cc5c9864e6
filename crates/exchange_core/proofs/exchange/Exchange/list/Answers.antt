use Rattle.std.proofs.Common.{sym, ap, ◌∙◌, subst}
use Rattle.order_book.specs.Book.{BookState}
use Rattle.order_book.specs.Refusals.{unless_memory}
use Rattle.lists.specs.Refusals.{refusal_in}
use Rattle.exchange_core.specs.Kept.{AreJoined}
use Rattle.exchange_core.proofs.Joined.{joined-market}
use Rattle.exchange_core.proofs.PositionsKept.{positions-market, positions-at}
use Rattle.exchange_core.proofs.exchange.Exchange.list.Goals as goal

pub invariant_of-self-2 : goal.invariant_of-self-2
invariant_of-self-2 c =
    let none = sym c.market.ensures.refused ∙ ap (refusal_in unless_memory) c.in_ok-market.was in (
      subst (AreJoined c.self.inside.ledger) (sym c.in_ok-market.ensures.ok)
          (joined-market _ _ c.self.invariant.0 c.args.market c.args.underlyings none c.requires),
      positions-at c.self.inside.positions.list (ap (λ (b : BookState). b.markets) c.in_ok-market.ensures.ok) (positions-market c.self.inside.ledger.accounts c.self.inside.book.markets _ c.self.inside.positions.list c.self.invariant.1),
    )
