use Rattle.std.proofs.Common.{length, sym, ap, ◌∙◌}
use Rattle.std.specs.Option.{option_copied_mut}
use Rattle.order_book.specs.Markets.{Markets, settled_market, changed_in, live_in}
use Rattle.order_book.proofs.MarketLists.{live_found, changed_written}
use Rattle.order_book.proofs.markets.Markets.close.Goals as goal

pub returns-clause-lapsed : goal.returns-clause-lapsed
returns-clause-lapsed c =
    let found = sym c.get_mut.ensures.value ∙ ap option_copied_mut c.unwrap.ensures in
    c.close.ensures.lapsed ∙ ap length (sym (live_found c.args.market c.self.inside.by_number.entries c.unwrap.result.now found))
    ∙ ap (λ (ms : Markets). length (live_in c.args.market ms)) c.self.view_is

pub returns-clause-closed : goal.returns-clause-closed
returns-clause-closed c =
    let found = sym c.get_mut.ensures.value ∙ ap option_copied_mut c.unwrap.ensures in
    changed_written c.args.market settled_market c.self.inside.by_number.entries _ c.unwrap.result.now _ found c.close.ensures.closed (c.get_mut.follows.holds c.close.new.self).0
    ∙ ap (changed_in settled_market c.args.market) c.self.view_is
