use Rattle.std.proofs.Common.{sym, ◌∙◌}
use Rattle.reply_guess.proofs.Within.{certificate_within}
use Rattle.reply_guess.proofs.ranges.is_certificate_within.Goals as goal

pub returns : goal.returns
returns c holds = certificate_within c.args.cover.now c.args.measure.now (sym c.is_certificate.ensures ∙ holds)
