use Rattle.std.proofs.Common.{refl}
use Rattle.demo_run.specs.Draws.{next}
use Rattle.demo_run.proofs.laws.first_draw.Goals as goal

pub returns : goal.returns
unfolding next
returns c = (refl, refl, refl)
