use Rattle.std.proofs.Common.{ap, ◌∙◌}
use Rattle.std.proofs.lemmas.Result.{IfOk-weaker}
use Rattle.form.specs.declared.orders.Order.{Order}
use Rattle.option_quotes.specs.ByProbes.{quoted_of}
use Rattle.option_quotes.proofs.Raising.{order_within}
use Rattle.option_quotes.proofs.Thresholds.{defined_is_quote}
use Rattle.option_quotes.proofs.quoting.quote.Goals as goal

pub room-requires : goal.room-requires
room-requires c = record {
  within = order_within c.args.batch.now c.args.form.now c.args.side c.further.result c.further.ensures c.requires.batch;
  work = c.requires.limit;
}

pub quote_in-requires-clause-probing : goal.quote_in-requires-clause-probing
quote_in-requires-clause-probing c = record {
  within = order_within c.args.batch.now c.args.form.now c.args.side c.further.result c.further.ensures c.requires.batch;
  work = c.requires.limit;
}

pub returns-clause-defined : goal.returns-clause-defined
returns-clause-defined c =
    IfOk-weaker c.quote_in.result _ _ (λ quoted is. is ∙ ap (λ (order : Order). quoted_of c.args.batch.now order c.args.limit) c.further.ensures) c.quote_in.ensures

pub returns-clause-raises : goal.returns-clause-raises
returns-clause-raises c =
    IfOk-weaker c.quote_in.result _ _
    (λ quoted is. (defined_is_quote c.args.batch.now c.args.form.now c.args.side c.further.result c.args.limit quoted c.requires.batch c.further.ensures is).0.raises)
    c.quote_in.ensures

pub returns-clause-shown : goal.returns-clause-shown
returns-clause-shown c =
    IfOk-weaker c.quote_in.result _ _
    (λ quoted is. (defined_is_quote c.args.batch.now c.args.form.now c.args.side c.further.result c.args.limit quoted c.requires.batch c.further.ensures is).0.shown)
    c.quote_in.ensures

pub returns-clause-never : goal.returns-clause-never
returns-clause-never c =
    IfOk-weaker c.quote_in.result _ _
    (λ quoted is. (defined_is_quote c.args.batch.now c.args.form.now c.args.side c.further.result c.args.limit quoted c.requires.batch c.further.ensures is).0.never)
    c.quote_in.ensures

pub returns-clause-unmarked : goal.returns-clause-unmarked
returns-clause-unmarked c =
    IfOk-weaker c.quote_in.result _ _
    (λ quoted is. (defined_is_quote c.args.batch.now c.args.form.now c.args.side c.further.result c.args.limit quoted c.requires.batch c.further.ensures is).1)
    c.quote_in.ensures
