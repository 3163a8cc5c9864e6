use Rattle.std.proofs.lemmas.Result.{IfOk-weaker}
use Rattle.form.specs.declared.orders.Side.TheVariants.{Buy, Sell}
use Rattle.option_quotes.proofs.Found.{asked_prices, prices_are_implied, prices_are_probed}
use Rattle.option_quotes.proofs.Raising.{asked_within, quantity_within}
use Rattle.option_quotes.proofs.implied.implied_prices.Goals as goal

pub room-requires : goal.room-requires
room-requires c =
    let r = c.requires in
    let a = c.args in
    record {
      within = quantity_within a.batch.now a.form.now Buy a.quantity _ c.asked.ensures r.quantity.0 r.quantity.1 (asked_within a.batch.now a.form.now Buy r.batch);
      work = r.limit;
    }

pub prices_in-requires-clause-buying : goal.prices_in-requires-clause-buying
prices_in-requires-clause-buying c =
    let r = c.requires in
    let a = c.args in
    record {
      within = quantity_within a.batch.now a.form.now Buy a.quantity _ c.asked.ensures r.quantity.0 r.quantity.1 (asked_within a.batch.now a.form.now Buy r.batch);
      work = r.limit;
    }

pub prices_in-requires-clause-sell : goal.prices_in-requires-clause-sell
prices_in-requires-clause-sell c =
    let r = c.requires in
    let a = c.args in
    quantity_within a.batch.now a.form.now Sell a.quantity _ c.asked-sell.ensures r.quantity.0 r.quantity.1 (asked_within a.batch.now a.form.now Sell r.batch)

pub returns-clause-defined : goal.returns-clause-defined
returns-clause-defined c =
    let a = c.args in
    IfOk-weaker c.prices_in.result _ _
    (λ prices is. asked_prices a.batch.now a.form.now a.quantity a.limit _ _ prices c.asked.ensures c.asked-sell.ensures is)
    c.prices_in.ensures

pub returns-clause-ask : goal.returns-clause-ask
returns-clause-ask c =
    let r = c.requires in
    let a = c.args in
    IfOk-weaker c.prices_in.result _ _
    (λ prices is.
    (prices_are_implied a.batch.now a.form.now a.quantity a.limit r.batch r.quantity.0 r.quantity.1 prices
    (asked_prices a.batch.now a.form.now a.quantity a.limit _ _ prices c.asked.ensures c.asked-sell.ensures is)).0)
    c.prices_in.ensures

pub returns-clause-bid : goal.returns-clause-bid
returns-clause-bid c =
    let r = c.requires in
    let a = c.args in
    IfOk-weaker c.prices_in.result _ _
    (λ prices is.
    (prices_are_implied a.batch.now a.form.now a.quantity a.limit r.batch r.quantity.0 r.quantity.1 prices
    (asked_prices a.batch.now a.form.now a.quantity a.limit _ _ prices c.asked.ensures c.asked-sell.ensures is)).1)
    c.prices_in.ensures

pub returns-clause-probed : goal.returns-clause-probed
returns-clause-probed c =
    let a = c.args in
    IfOk-weaker c.prices_in.result _ _
    (λ prices is.
    prices_are_probed a.batch.now a.form.now a.quantity a.limit prices (asked_prices a.batch.now a.form.now a.quantity a.limit _ _ prices c.asked.ensures c.asked-sell.ensures is))
    c.prices_in.ensures
