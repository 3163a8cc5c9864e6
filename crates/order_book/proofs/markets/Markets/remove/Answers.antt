use Rattle.std.proofs.Common.{sym, ap, ◌∙◌}
use Rattle.std.specs.Option.{option_copied_mut}
use Rattle.order_book.specs.Markets.{Markets, live_in, with_live, with_live_in, without}
use Rattle.order_book.proofs.MarketLists.{live_found, changed_written}
use Rattle.order_book.proofs.markets.Markets.remove.Goals as goal

pub returns : goal.returns
returns c =
    let found = sym c.get_mut.ensures.value ∙ ap option_copied_mut c.unwrap.ensures in
    let is = c.remove.ensures ∙ ap (λ live. with_live c.unwrap.result.now (without c.args.number live)) (sym (live_found c.args.market c.self.inside.by_number.entries c.unwrap.result.now found)) in
    changed_written c.args.market (λ m. with_live m (without c.args.number (live_in c.args.market c.self.inside.by_number.entries))) c.self.inside.by_number.entries _ c.unwrap.result.now _ found is (c.get_mut.follows.holds c.remove.new.self).0
    ∙ ap (λ (ms : Markets). with_live_in c.args.market (without c.args.number (live_in c.args.market ms)) ms) c.self.view_is
