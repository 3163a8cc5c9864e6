use Rattle.std.proofs.Common.{rules, ◌≡◌, true, false, None}
use Rattle.option_quotes.specs.Probes.{is_optimal}
use Rattle.option_quotes.proofs.Answered.{base_stops}
use Rattle.option_quotes.proofs.Defined.{answer_is, stopped_is}
use Rattle.option_quotes.proofs.Raising.{shown}
use Rattle.option_quotes.proofs.quoting.quote_in.Goals as goal

pub from_best-requires-clause-base : goal.from_best-requires-clause-base
from_best-requires-clause-base c =
    let p = c.args.probing.now in
    let optimal : is_optimal c.in_ok-base.base ≡ true = search rules in
    shown p.batch.now p.limit c.in_ok-base.base c.requires.batch c.in_ok-base.ensures optimal

pub returns-then-not-is_optimal : goal.returns-then-not-is_optimal
returns-then-not-is_optimal c =
    let p = c.args.probing.now in
    let not_optimal : is_optimal c.in_ok-base.base ≡ false = search rules in
    stopped_is p.batch.now p.order p.limit None c.in_ok-base.base
    (base_stops p.batch.now p.order p.limit c.in_ok-base.base c.in_ok-base.ensures not_optimal)

pub returns : goal.returns
returns c =
    let p = c.args.probing.now in
    let optimal : is_optimal c.in_ok-base.base ≡ true = search rules in
    let base = shown p.batch.now p.limit c.in_ok-base.base c.requires.batch c.in_ok-base.ensures optimal in
    answer_is p.batch.now p.order p.limit c.in_ok-base.base c.from_best.result c.requires.probing.within base c.from_best.ensures.quote c.from_best.ensures.unmarked
