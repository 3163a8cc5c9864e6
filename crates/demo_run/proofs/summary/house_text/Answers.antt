use Rattle.std.proofs.Common.{rules, FitsSigned}
use Rattle.std.proofs.lemmas.Result.{IfOk-weaker}
use Rattle.std.proofs.lemmas.Int.{to_z-of_z}
use mir.Syntax.{w128}
use Rattle.demo_run.proofs.summary.house_text.Goals as goal

pub returns : goal.returns
returns c =
    let fits : FitsSigned w128 c.args.house = search rules in
    IfOk-weaker c.format.result _ _ (λ s h. rw (to_z-of_z w128 c.args.house fits) at h) c.format.ensures.ok
