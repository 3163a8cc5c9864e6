use Rattle.std.proofs.Common.{rules, ◌≡◌, ◌≤◌, true, false, sym, subst}
use Rattle.form.specs.declared.limits.TheConstants.{MAX_PRICE}
use Rattle.option_quotes.specs.Probes.{is_optimal, is_raised}
use Rattle.option_quotes.proofs.Raising.{quote_never}
use Rattle.option_quotes.proofs.Answered.{best_fits}
use Rattle.option_quotes.proofs.quoting.from_best.Goals as goal

pub returns-then-not-is_raised-clause-quote : goal.returns-then-not-is_raised-clause-quote
returns-then-not-is_raised-clause-quote c =
    let p = c.args.probing.now in
    let order = p.order in
    let at_best = c.best_price-price.ensures in
    let outcome = c.in_ok-outcome.outcome in
    let optimal : is_optimal outcome ≡ true = search rules in
    let not_raised : is_raised c.args.base outcome ≡ false = search rules in
    quote_never p.batch.now order p.limit c.args.base (record { price = c.best_price-price.result; outcome = outcome }) c.requires.probing.within c.requires.base at_best
    (record { within = subst (λ p. p ≤ MAX_PRICE) (sym at_best) (best_fits order.side); is = c.in_ok-outcome.ensures; optimal = optimal })
    not_raised
