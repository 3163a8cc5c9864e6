use Rattle.std.proofs.Common.{refl, ap, ◌∙◌}
use Rattle.form.specs.declared.limits.TheConstants.{MAX_PRICE}
use Rattle.option_quotes.specs.Implied.{price_along, ticks_along}
use Rattle.option_quotes.proofs.Walks.{capped_along}
use Rattle.option_quotes.proofs.along.next_along.Goals as goal

pub returns : goal.returns
returns c =
    let price = c.args.probed.now.price in
    c.price_along.ensures ∙ ap (price_along c.args.side price) c.ticks_along-ticks.ensures
    ∙ capped_along c.args.side price (ticks_along c.args.base.now c.args.probed.now.outcome) MAX_PRICE c.requires.price refl
