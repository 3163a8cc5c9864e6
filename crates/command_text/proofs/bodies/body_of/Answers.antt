use Rattle.std.proofs.Common.{ap, subst, sym, ◌∙◌}
use Rattle.command_text.specs.Commands.{body_of_said}
use Rattle.command_text.specs.Within.{BodyIsWithin}
use Rattle.command_text.proofs.ReadWithin.{lines_are_within}
use Rattle.command_text.proofs.bodies.body_of.Goals as goal

pub returns-clause-body : goal.returns-clause-body
returns-clause-body c = c.body_of_said.ensures ∙ ap body_of_said c.in_ok-read_line.ensures.said

pub returns-clause-within : goal.returns-clause-within
returns-clause-within c = subst BodyIsWithin (sym (returns-clause-body c)) (lines_are_within c.args.line.now)
