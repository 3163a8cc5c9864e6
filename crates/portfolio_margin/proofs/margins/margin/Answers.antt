use Rattle.frac.specs.Range.{limit as largest}
use Rattle.portfolio_margin.specs.Run.{asked_for, margin_run}
use Rattle.portfolio_margin.proofs.LeastMargins.{true_of}
use Rattle.portfolio_margin.proofs.Turns.{fills_low, with_some}
use Rattle.portfolio_margin.proofs.margins.margin.Goals as goal

pub returns-clause-run : goal.returns-clause-run
returns-clause-run c = with_some (margin_run (asked_for largest c.args.limit c.args.underlyings c.args.positions.now)) c.in_ok-margin.margin c.in_ok-margin._units c.in_ok-margin.ensures.run

pub returns-clause-least : goal.returns-clause-least
returns-clause-least c =
    true_of c.args.limit c.args.underlyings c.args.positions.now c.in_ok-margin.margin
    (record { some = c.requires.underlyings.0; few = c.requires.underlyings.1; not_below_zero = fills_low c.args.positions.now c.requires.held })
    (returns-clause-run c)
