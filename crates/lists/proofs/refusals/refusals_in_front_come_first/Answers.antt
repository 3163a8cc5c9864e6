use Rattle.lists.proofs.FirstRefusal.{first_of-append}
use Rattle.lists.proofs.refusals.refusals_in_front_come_first.Goals as goal

pub returns : goal.returns
returns g c = first_of-append
