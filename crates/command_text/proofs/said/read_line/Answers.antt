use Rattle.std.proofs.Common.{sym, ap, subst, IfOk, ◌∙◌}
use Rattle.std.proofs.lemmas.Result.{IfOk-weaker}
use Rattle.command_text.specs.Refused.{IsRefusedBy}
use Rattle.command_text.specs.Said.{said_of}
use Rattle.command_text.specs.Within.{IsInside, RequestIsWithin}
use Rattle.command_text.proofs.ReadWithin.{proposals_are_inside, said_is_within}
use Rattle.command_text.proofs.RefusedLines.{lines_are_refused}
use Rattle.command_text.proofs.said.read_line.Goals as goal

pub returns-in-Some-clause-said : goal.returns-in-Some-clause-said
returns-in-Some-clause-said c = c.propose_request.ensures ∙ ap (said_of c.args.words.now c.args.line.now) c.in-Some.ensures

pub returns-in-Some-clause-within : goal.returns-in-Some-clause-within
returns-in-Some-clause-within c = subst (λ said. IfOk said RequestIsWithin) (sym (returns-in-Some-clause-said c)) (said_is_within c.args.words.now c.args.line.now)

pub returns-in-Some-clause-inside : goal.returns-in-Some-clause-inside
returns-in-Some-clause-inside c =
    subst (λ said. IfOk said (IsInside c.args.line.now)) (sym (returns-in-Some-clause-said c)) (proposals_are_inside c.args.words.now c.args.line.now)

pub returns-in-Some-clause-refused : goal.returns-in-Some-clause-refused
returns-in-Some-clause-refused c =
    subst (IsRefusedBy c.args.words.now c.args.line.now) (sym (returns-in-Some-clause-said c)) (lines_are_refused c.args.words.now c.args.line.now)

pub returns-in-None-clause-said : goal.returns-in-None-clause-said
returns-in-None-clause-said c =
    IfOk-weaker c.said_of_fields.result _ _ (λ said is. is ∙ ap (said_of c.args.words.now c.args.line.now) c.in-None.ensures) c.said_of_fields.ensures

pub returns-in-None-clause-within : goal.returns-in-None-clause-within
returns-in-None-clause-within c =
    IfOk-weaker c.said_of_fields.result _ _ (λ said is. subst (λ said. IfOk said RequestIsWithin) (sym is) (said_is_within c.args.words.now c.args.line.now)) (returns-in-None-clause-said c)

pub returns-in-None-clause-inside : goal.returns-in-None-clause-inside
returns-in-None-clause-inside c =
    IfOk-weaker c.said_of_fields.result _ _
    (λ said is. subst (λ said. IfOk said (IsInside c.args.line.now)) (sym is) (proposals_are_inside c.args.words.now c.args.line.now)) (returns-in-None-clause-said c)

pub returns-in-None-clause-refused : goal.returns-in-None-clause-refused
returns-in-None-clause-refused c =
    IfOk-weaker c.said_of_fields.result _ _
    (λ said is. subst (IsRefusedBy c.args.words.now c.args.line.now) (sym is) (lines_are_refused c.args.words.now c.args.line.now)) (returns-in-None-clause-said c)
