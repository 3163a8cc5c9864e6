use Rattle.std.proofs.Common.{rules, ◌≡◌, ◌<◌, ◌≤◌, true, false, arith}
use Rattle.option_quotes.specs.Probes.{gap, is_optimal, is_raised}
use Rattle.option_quotes.proofs.Raising.{quote_between}
use Rattle.option_quotes.proofs.Middles.{narrows_up, narrows_down, narrows_stop, narrows_end}
use Rattle.option_quotes.proofs.ends.between.Goals as goal

pub returns-then-not-is_optimal-clause-unmarked : goal.returns-then-not-is_optimal-clause-unmarked
returns-then-not-is_optimal-clause-unmarked c =
    let p = c.args.probing.now in
    let first = c.args.ends in
    let ends = c.loop-alloc.ends in
    let outcome = c.in_ok-outcome.outcome in
    let far : 1 < gap ends.raising.price ends.other.price = grind (arith, c.abs_diff.ensures, c.loop-alloc-test.true) in
    let not_optimal : is_optimal outcome ≡ false = search rules in
    narrows_stop p.batch.now p.order p.limit c.args.base first.raising.price first.other.price ends outcome c.loop-alloc.invariant far c.in_ok-outcome.ensures not_optimal

pub loop-alloc-preserved-then-is_raised : goal.loop-alloc-preserved-then-is_raised
loop-alloc-preserved-then-is_raised c =
    let p = c.args.probing.now in
    let first = c.args.ends in
    let ends = c.loop-alloc.ends in
    let outcome = c.in_ok-outcome.outcome in
    let far : 1 < gap ends.raising.price ends.other.price = grind (arith, c.abs_diff.ensures, c.loop-alloc-test.true) in
    let optimal : is_optimal outcome ≡ true = search rules in
    let raised : is_raised c.args.base outcome ≡ true = search rules in
    narrows_up p.batch.now p.order p.limit c.args.base first.raising.price first.other.price ends outcome c.loop-alloc.invariant far c.in_ok-outcome.ensures optimal raised

pub loop-alloc-preserved : goal.loop-alloc-preserved
loop-alloc-preserved c =
    let p = c.args.probing.now in
    let first = c.args.ends in
    let ends = c.loop-alloc.ends in
    let outcome = c.in_ok-outcome.outcome in
    let far : 1 < gap ends.raising.price ends.other.price = grind (arith, c.abs_diff.ensures, c.loop-alloc-test.true) in
    let optimal : is_optimal outcome ≡ true = search rules in
    let not_raised : is_raised c.args.base outcome ≡ false = search rules in
    narrows_down p.batch.now p.order p.limit c.args.base first.raising.price first.other.price ends outcome c.loop-alloc.invariant far c.in_ok-outcome.ensures optimal not_raised

pub returns-clause-quote : goal.returns-clause-quote
returns-clause-quote c =
    let p = c.args.probing.now in
    let ends = c.loop-alloc.ends in
    let near : gap ends.raising.price ends.other.price ≤ 1 = grind (arith, c.abs_diff.ensures, c.loop-alloc-test.false) in
    quote_between p.batch.now p.order p.limit c.args.base ends c.requires.probing.within c.requires.base c.loop-alloc.invariant.are near

pub returns-clause-unmarked : goal.returns-clause-unmarked
returns-clause-unmarked c =
    let p = c.args.probing.now in
    let first = c.args.ends in
    let ends = c.loop-alloc.ends in
    let near : gap ends.raising.price ends.other.price ≤ 1 = grind (arith, c.abs_diff.ensures, c.loop-alloc-test.false) in
    narrows_end p.batch.now p.order p.limit c.args.base first.raising.price first.other.price ends c.loop-alloc.invariant near
