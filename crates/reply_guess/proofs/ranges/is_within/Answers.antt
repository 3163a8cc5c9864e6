use Rattle.std.proofs.Common.{sym, ◌∙◌}
use Rattle.reply_guess.proofs.Within.{from_to, reply_within}
use Rattle.reply_guess.proofs.ranges.is_within.Goals as goal

pub returns-then-is_from_to : goal.returns-then-is_from_to
returns-then-is_from_to c =
    let line = from_to 1 16777216 c.from.result (sym c.is_from_to.ensures ∙ c.if-is_from_to.true) in
    λ yes. (rw c.from.ensures at line, reply_within c.args.reply.now (sym c.is_reply.ensures ∙ yes))
