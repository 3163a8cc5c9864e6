use Rattle.std.proofs.Common.{rules, ◌≡◌, true, false}
use Rattle.option_quotes.specs.Probes.{is_optimal}
use Rattle.option_quotes.proofs.Raising.{shown}
use Rattle.option_quotes.proofs.Walks.{base_marked, base_unmarked}
use Rattle.option_quotes.proofs.implied.prices_in.Goals as goal

pub side_price-requires-clause-base : goal.side_price-requires-clause-base
side_price-requires-clause-base c =
    let p = c.args.buying.now in
    let optimal : is_optimal c.in_ok-base.base ≡ true = search rules in
    shown p.batch.now p.limit c.in_ok-base.base c.requires.batch c.in_ok-base.ensures optimal

pub side_price-requires-2-clause-base : goal.side_price-requires-2-clause-base
side_price-requires-2-clause-base c =
    let p = c.args.buying.now in
    let optimal : is_optimal c.in_ok-base.base ≡ true = search rules in
    shown p.batch.now p.limit c.in_ok-base.base c.requires.batch c.in_ok-base.ensures optimal

pub returns-then-not-is_optimal : goal.returns-then-not-is_optimal
returns-then-not-is_optimal c =
    let p = c.args.buying.now in
    let not_optimal : is_optimal c.in_ok-base.base ≡ false = search rules in
    base_unmarked p.batch.now p.order c.args.sell p.limit c.in_ok-base.base c.in_ok-base.ensures not_optimal

pub returns : goal.returns
returns c =
    let p = c.args.buying.now in
    let optimal : is_optimal c.in_ok-base.base ≡ true = search rules in
    base_marked p.batch.now p.order c.args.sell p.limit c.in_ok-base.base c.in_ok-ask.ask c.in_ok-bid.bid c.in_ok-base.ensures optimal c.in_ok-ask.ensures c.in_ok-bid.ensures
