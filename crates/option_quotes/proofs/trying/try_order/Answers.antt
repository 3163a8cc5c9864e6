use Rattle.std.proofs.Common.{sym, subst}
use Rattle.market_laws.specs.Limits.{at_price}
use Rattle.option_quotes.specs.Implied.{asked}
use Rattle.option_quotes.specs.Tried.{IsTried}
use Rattle.option_quotes.proofs.Raising.{asked_within, quantity_within}
use Rattle.option_quotes.proofs.TriedOrders.{is_tried, tried_as}
use Rattle.option_quotes.proofs.trying.try_order.Goals as goal

pub room-requires : goal.room-requires
room-requires c =
    let r = c.requires in
    let a = c.args in
    record {
      within = quantity_within a.batch.now a.form.now a.side a.quantity _ c.asked.ensures r.quantity.0 r.quantity.1 (asked_within a.batch.now a.form.now a.side r.batch);
      work = r.limit;
    }

pub probe-requires-clause-probing : goal.probe-requires-clause-probing
probe-requires-clause-probing c =
    let r = c.requires in
    let a = c.args in
    record {
      within = quantity_within a.batch.now a.form.now a.side a.quantity _ c.asked.ensures r.quantity.0 r.quantity.1 (asked_within a.batch.now a.form.now a.side r.batch);
      work = r.limit;
    }

pub returns-clause-defined : goal.returns-clause-defined
returns-clause-defined c =
    let a = c.args in
    tried_as a.batch.now a.form.now a.side a.quantity a.price a.limit c.asked.result c.in_ok-outcome.outcome c.fill_behind.result c.asked.ensures c.in_ok-outcome.ensures c.fill_behind.ensures

pub returns-clause-filled : goal.returns-clause-filled
returns-clause-filled c =
    let r = c.requires in
    let a = c.args in
    let told = tried_as a.batch.now a.form.now a.side a.quantity a.price a.limit c.asked.result c.in_ok-outcome.outcome c.fill_behind.result c.asked.ensures c.in_ok-outcome.ensures c.fill_behind.ensures in
    subst (IsTried a.batch.now (at_price (asked a.form.now a.side a.quantity) a.price)) (sym told)
    (is_tried a.batch.now a.form.now a.side a.quantity a.price a.limit r.batch r.quantity.0 r.quantity.1 r.price)
