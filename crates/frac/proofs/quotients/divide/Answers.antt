use Rattle.std.proofs.Common.{refl}
use Rattle.frac.proofs.quotients.divide.Goals as goal

pub returns-then-b-le-SHORT : goal.returns-then-b-le-SHORT
returns-then-b-le-SHORT c = record { quotient = refl; rest = refl }

pub returns-else-a-le-SHORT : goal.returns-else-a-le-SHORT
returns-else-a-le-SHORT c = record { quotient = refl; rest = refl }
