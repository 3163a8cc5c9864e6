use Rattle.std.proofs.Common.{rules}
use Rattle.frac.specs.Value.{fraction_of}
use mir.Syntax.{w8}
use mir.Val.{SFits}
use Rattle.proposal_text.proofs.Signs.{sign_not_below}
use Rattle.proposal_text.proofs.reply_values.is_not_negative.Goals as goal

pub returns : goal.returns
returns c =
    let f : SFits w8 c.sign.result = search rules in
    sign_not_below c.sign.result (fraction_of c.args.x).numerator c.sign.ensures f
