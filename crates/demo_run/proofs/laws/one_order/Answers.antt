use Rattle.std.proofs.Common.{refl}
use Rattle.std.specs.Fmt.{digits}
use Rattle.demo_run.specs.Draws.{next}
use Rattle.demo_run.specs.Text.{made_text}
use Rattle.demo_run.proofs.laws.one_order.Goals as goal

pub returns : goal.returns
unfolding digits next made_text
returns c = refl
