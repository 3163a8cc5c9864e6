use Rattle.std.proofs.Common.{[], ◌∷◌, ◌++◌, sym, ap, ◌∙◌}
use Rattle.std.specs.Map.{set_value}
use Rattle.std.specs.Option.{option_copied_mut}
use Rattle.std.specs.Prelude.{nat_eq}
use Rattle.std.proofs.lemmas.Map.Steps.{set_value_same}
use Rattle.std.proofs.lemmas.Result.{on_ok_weaker, on_err_weaker}
use Rattle.order_book.specs.Markets.{Markets, live_in, with_live, with_live_in}
use Rattle.order_book.proofs.MarketLists.{live_found, changed_written}
use Rattle.order_book.proofs.markets.Markets.add.Goals as goal

pub returns-clause-ok : goal.returns-clause-ok
returns-clause-ok c = on_ok_weaker c.add.result (λ now.
    let found = sym c.get_mut.ensures.value ∙ ap option_copied_mut c.unwrap.ensures in
    let is = now ∙ ap (λ live. with_live c.unwrap.result.now (live ++ c.args.order ∷ [])) (sym (live_found c.args.market c.self.inside.by_number.entries c.unwrap.result.now found)) in
    changed_written c.args.market (λ m. with_live m (live_in c.args.market c.self.inside.by_number.entries ++ c.args.order ∷ [])) c.self.inside.by_number.entries _ c.unwrap.result.now _ found is (c.get_mut.follows.holds c.add.new.self).0
    ∙ ap (λ (ms : Markets). with_live_in c.args.market (live_in c.args.market ms ++ c.args.order ∷ []) ms) c.self.view_is) c.add.ensures.ok

pub returns-clause-err : goal.returns-clause-err
returns-clause-err c = on_err_weaker c.add.result (λ now.
    let found = sym c.get_mut.ensures.value ∙ ap option_copied_mut c.unwrap.ensures in
    (c.get_mut.follows.holds c.add.new.self).0 ∙ ap (set_value (nat_eq c.args.market) c.self.inside.by_number.entries) now
    ∙ set_value_same (nat_eq c.args.market) c.self.inside.by_number.entries c.unwrap.result.now found ∙ c.self.view_is) c.add.ensures.err
