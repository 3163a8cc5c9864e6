use Rattle.journal_check.proofs.Journals.{journals_are_counted}
use Rattle.journal_check.proofs.laws.journals_are_counted.Goals as goal

pub returns : goal.returns
returns c = journals_are_counted
