use Rattle.clearing.proofs.Cleared.{cleared}
use Rattle.clearing.proofs.clearing.clear.Goals as goal

pub returns : goal.returns
returns c =
    let is = c.clear.ensures in
    let all = cleared c.args.batch.now c.args.limit c.clear.result c.requires.within is in
    record {
      outcome = is;
      marked = all.marked;
      within = all.within;
      covers = all.covers;
      measured = all.measured;
      greatest = all.greatest;
      yes = all.yes;
      choices = all.choices;
    }
