use Rattle.std.proofs.Common.{sym, ap, subst}
use Rattle.command_text.specs.declared.command.Command.TheVariants.{Settle}
use Rattle.exchange_core.specs.ExchangeState.{ExchangeState}
use Rattle.reply_print.specs.declared.replies.Reply.{Reply}
use Rattle.proposal_lines.specs.KeptByMarket.{after_end}
use Rattle.proposal_lines.specs.Proved.{AreProvedIn}
use Rattle.proposal_lines.proofs.SaidProved.{ended_proved}
use Rattle.proposal_lines.proofs.answers.ProposalLines.settle.Goals as goal

pub invariant_of-self-2 : goal.invariant_of-self-2
invariant_of-self-2 c =
    let own = c.self.inside in
    let book = c.step.new.self.book in
    subst (AreProvedIn book) (sym c.after_end.ensures)
    (subst (λ (e : ExchangeState). AreProvedIn e.book (after_end own.kept c.ended_in-ended.result)) (sym (ap (λ (r : Reply × ExchangeState). r.1) c.in_ok-reply.ensures.ok))
    (ended_proved own.exchange (Settle c.args.market c.args.count c.args.prices) c.ended_in-ended.result own.kept c.self.invariant))
