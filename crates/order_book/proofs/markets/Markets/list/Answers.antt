use Rattle.std.proofs.Common.{[], ◌∷◌, ◌++◌, false, nat_eq, ap, ◌∙◌}
use Rattle.std.specs.Map.{lookup}
use Rattle.indexmap.proofs.CallerLemmas.{insert_entry-new}
use Rattle.order_book.specs.Markets.{MarketState, Markets}
use Rattle.order_book.proofs.markets.Markets.list.Goals as goal

pub returns-clause-ok : goal.returns-clause-ok
returns-clause-ok c =
    let none = ap (lookup (nat_eq c.args.market)) c.self.view_is ∙ c.requires in
    let fresh : MarketState = record { underlyings = c.args.underlyings; settled = false; live = [] } in
    c.in_ok-insert.ensures.entries ∙ insert_entry-new nat_eq c.self.inside.by_number c.args.market c.new.result none
    ∙ ap (λ m. c.self.inside.by_number.entries ++ (c.args.market, m) ∷ []) c.new.ensures ∙ ap (λ (ms : Markets). ms ++ (c.args.market, fresh) ∷ []) c.self.view_is
