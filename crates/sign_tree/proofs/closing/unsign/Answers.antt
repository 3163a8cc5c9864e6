use Rattle.std.proofs.Common.{◌<◌, length, pos, arith}
use Rattle.std.proofs.lemmas.List.Edits.{fill_by_more}
use Rattle.sign_tree.proofs.closing.unsign.Goals as goal

pub loop-sign-preserved : goal.loop-sign-preserved
loop-sign-preserved c =
    let within : c.loop-sign.sign-index < length c.loop-sign.signs = omega arith in
    fill_by_more (λ _. pos 0) c.loop-sign.signs c.loop-sign.sign-index (pos 0) within c.loop-sign.invariant

pub returns : goal.returns
returns c = λ k within. c.loop-sign.invariant k (omega arith)
