use Rattle.std.proofs.Common.{refl, sym, subst}
use Rattle.frac.specs.Value.{fraction_of}
use Rattle.form.specs.States.{vector_of}
use Rattle.simplex_run.specs.Ending.{Ending}
use Rattle.portfolio_margin.specs.Answers.{IsEndOf, asked_in}
use Rattle.portfolio_margin.specs.Run.{Margin}
use Rattle.portfolio_margin.proofs.Turns.{run_starts, run_stops}
use Rattle.portfolio_margin.proofs.margins.least.Goals as goal

pub returns-in-Ok : goal.returns-in-Ok
returns-in-Ok c =
    let budget = c.args.budget.now in
    let a = asked_in budget.limit c.args.batch.now c.args.fills.now in
    let starts = run_starts a c.as_slice-orders.result.now (vector_of c.zero_prices-at.result) (fraction_of c.in-Ok.liability) budget.spent
    c.as_slice-orders.ensures c.zero_prices-at.ensures.vector c.requires.unspent c.in-Ok.ensures in
    record {
      end = subst (λ (e : Ending Margin). IsEndOf e c.turns.result c.turns.new.budget.spent) (sym starts) c.turns.ensures.end;
      limit = c.turns.ensures.limit;
    }

pub returns-in-Err : goal.returns-in-Err
returns-in-Err c =
    let a = asked_in c.args.budget.now.limit c.args.batch.now c.args.fills.now in
    record {
      end = (run_stops a c.as_slice-orders.result.now (vector_of c.zero_prices-at.result) c.in-Err.wide c.as_slice-orders.ensures c.zero_prices-at.ensures.vector c.in-Err.ensures, c.requires.unspent);
      limit = refl;
    }
