use Rattle.std.proofs.Common.{sym, ap, ◌∙◌, subst}
use Rattle.exchange_core.specs.ExchangeState.{ExchangeState}
use Rattle.proposal_text.specs.declared.replies.ServedReply.{ServedReply}
use Rattle.proposal_lines.specs.Proved.{AreProvedIn}
use Rattle.proposal_lines.proofs.ToldAlone.{untold_said}
use Rattle.proposal_lines.proofs.SaidProved.{said_proved}
use Rattle.proposal_lines.proofs.answers.ProposalLines.other_reply.Goals as goal

pub invariant_of-self-2 : goal.invariant_of-self-2
invariant_of-self-2 c =
    let own = c.self.inside in
    let said = c.args.said in
    let same = c.in_ok-reply.ensures.ok ∙ sym (untold_said own.exchange said c.requires.untold) in
    subst (λ (e : ExchangeState). AreProvedIn e.book own.kept) (sym (ap (λ (r : ServedReply × ExchangeState). r.1) same))
    (said_proved own.exchange said own.kept c.self.invariant)
