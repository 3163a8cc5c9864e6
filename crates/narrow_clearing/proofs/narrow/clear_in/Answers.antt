use Rattle.clearing.proofs.Cleared.{cleared}
use Rattle.narrow_clearing.proofs.narrow.clear_in.Goals as goal

pub returns : goal.returns
returns c =
    let is = c.outcome_first.ensures.outcome in
    let all = cleared c.args.batch.now c.args.limit c.outcome_first.result.0 c.requires.within is in
    record {
      outcome = is;
      marked = all.marked;
      within = all.within;
      covers = all.covers;
      measured = all.measured;
      greatest = all.greatest;
      yes = all.yes;
      choices = all.choices;
      pass = c.outcome_first.ensures.pass;
    }
