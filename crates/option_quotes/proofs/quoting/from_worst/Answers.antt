use Rattle.std.proofs.Common.{rules, ◌≡◌, ◌≤◌, true, false, sym, subst}
use Rattle.std.proofs.lemmas.Result.{IfOk-weaker}
use Rattle.form.specs.declared.limits.TheConstants.{MAX_PRICE}
use Rattle.option_quotes.specs.Probes.{is_optimal, is_raised, probe_outcome}
use Rattle.option_quotes.specs.Quotes.{unmarked_of}
use Rattle.option_quotes.proofs.Raising.{quote_worst}
use Rattle.option_quotes.proofs.Answered.{worst_does_not, worst_fits}
use Rattle.option_quotes.proofs.quoting.from_worst.Goals as goal

pub returns-then-is_raised-clause-quote : goal.returns-then-is_raised-clause-quote
returns-then-is_raised-clause-quote c =
    let p = c.args.probing.now in
    let order = p.order in
    let at_worst = c.worst_price-price.ensures in
    let outcome = c.in_ok-outcome.outcome in
    let optimal : is_optimal outcome ≡ true = search rules in
    let raised : is_raised c.args.base outcome ≡ true = search rules in
    quote_worst p.batch.now order p.limit c.args.base (record { price = c.worst_price-price.result; outcome = outcome }) c.requires.probing.within c.requires.base at_worst
    (record { within = subst (λ p. p ≤ MAX_PRICE) (sym at_worst) (worst_fits order.side); is = c.in_ok-outcome.ensures; optimal = optimal })
    raised

pub returns-clause-unmarked : goal.returns-clause-unmarked
returns-clause-unmarked c =
    let p = c.args.probing.now in
    let order = p.order in
    let outcome = c.in_ok-outcome.outcome in
    let optimal : is_optimal outcome ≡ true = search rules in
    let not_raised : is_raised c.args.base outcome ≡ false = search rules in
    IfOk-weaker c.between.result _ _
    (λ quoted. worst_does_not (probe_outcome p.batch.now order p.limit) c.args.base order.side c.args.best.price c.worst_price-price.result outcome (unmarked_of quoted)
    c.requires.price c.worst_price-price.ensures c.in_ok-outcome.ensures optimal not_raised)
    c.between.ensures.unmarked
