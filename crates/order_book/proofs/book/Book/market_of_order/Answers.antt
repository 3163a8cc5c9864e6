use Rattle.order_book.proofs.book.Book.market_of_order.Goals as goal

pub holder-requires : goal.holder-requires
holder-requires c = c.self.invariant.numbers c.args.order
