use Rattle.std.proofs.Common.{◌≡◌}
use Rattle.std.specs.Int.{int_max}
use Rattle.std.proofs.lemmas.Int.{to_z-of_z}
use mir.Syntax.{w128}
use Rattle.form.specs.Payoff.{option_of}
use Rattle.account_need.specs.Prices.{in_code}
use Rattle.account_need.proofs.LineBounds.{one_bend}
use Rattle.account_need.proofs.LineFits.{bound_fits, max_small}
use Rattle.account_need.proofs.line.with_bend.Goals as goal

pub returns-clause-bound : goal.returns-clause-bound
returns-clause-bound c = λ positions.
    let best = c.args.best in
    let x = c.bound.result in
    let eb = to_z-of_z w128 best (bound_fits best c.requires.best) in
    let ex = to_z-of_z w128 x (bound_fits x c.bound.ensures.small) in
    let value : c.max.result ≡ int_max best x = rw (eb, ex) at c.max.ensures.value in
    let em = to_z-of_z w128 (int_max best x) (bound_fits (int_max best x) (max_small best x c.requires.best c.bound.ensures.small)) in
    rw (value, em) (one_bend (in_code c.args.sums.now positions c.args.live.now) best x (option_of c.args.form.now) c.bend.result c.in-Some.at c.bend.ensures c.in-Some.is (c.bound.ensures.bound positions))
