use Rattle.constraint_generation.proofs.ShortEntry.{short_difference_read, short_less, short_times}
use Rattle.constraint_generation.proofs.master.short_difference.Goals as goal

pub returns-clause-value : goal.returns-clause-value
returns-clause-value c =
    short_difference_read c.args.owed c.args.t c.args.first c.ranges.owed c.ranges.t c.ranges.first c.requires.owed c.requires.t c.requires.first

pub returns-clause-small : goal.returns-clause-small
returns-clause-small c =
    let product = short_times c.args.t c.args.first c.requires.t c.requires.first in
    rw (short_difference_read c.args.owed c.args.t c.args.first c.ranges.owed c.ranges.t c.ranges.first c.requires.owed c.requires.t c.requires.first) (short_less c.args.owed _ c.requires.owed product)
