use Rattle.std.proofs.Common.{sym, ap, subst}
use Rattle.command_text.specs.declared.command.Command.TheVariants.{Withdraw}
use Rattle.exchange_core.specs.ExchangeState.{ExchangeState}
use Rattle.reply_print.specs.declared.replies.Reply.{Reply}
use Rattle.proposal_lines.specs.Proved.{AreProvedIn}
use Rattle.proposal_lines.proofs.SaidProved.{command_proved}
use Rattle.proposal_lines.proofs.answers.ProposalLines.withdraw.Goals as goal

pub invariant_of-self-2 : goal.invariant_of-self-2
invariant_of-self-2 c =
    let own = c.self.inside in
    subst (λ (e : ExchangeState). AreProvedIn e.book own.kept) (sym (ap (λ (r : Reply × ExchangeState). r.1) c.in_ok-reply.ensures.ok))
    (command_proved own.exchange (Withdraw c.args.account c.args.amount) own.kept c.self.invariant)
