use Rattle.std.proofs.Common.{[], sym, ap, ◌∙◌}
use Rattle.std.specs.Option.{option_copied_mut}
use Rattle.order_book.specs.Markets.{with_live, with_live_in}
use Rattle.order_book.proofs.MarketLists.{changed_written}
use Rattle.order_book.proofs.markets.Markets.clear.Goals as goal

pub returns : goal.returns
returns c =
    let found = sym c.get_mut.ensures.value ∙ ap option_copied_mut c.unwrap.ensures in
    changed_written c.args.market (λ m. with_live m []) c.self.inside.by_number.entries _ c.unwrap.result.now _ found c.clear.ensures (c.get_mut.follows.holds c.clear.new.self).0
    ∙ ap (with_live_in c.args.market []) c.self.view_is
