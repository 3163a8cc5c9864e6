use Rattle.std.proofs.Common.{sym, subst}
use Rattle.form.specs.Limits.{IsWithinLimits}
use Rattle.option_quotes.proofs.Raising.{within_at}
use Rattle.option_quotes.proofs.probes.Probing.probe.Goals as goal

pub outcome_in-requires-clause-within : goal.outcome_in-requires-clause-within
outcome_in-requires-clause-within c =
    let p = c.args.self.now in
    subst IsWithinLimits (sym c.in_ok-extended.ensures) (within_at p.batch.now p.order c.args.price c.requires.price c.requires.probing.within)
