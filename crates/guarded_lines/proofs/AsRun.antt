-- Each line is answered as in a run, or changes nothing.
use Rattle.std.proofs.Common.{◌≡◌, ℕ, [], ◌∷◌, ◌++◌, Option, Some, None, Result, Ok, Err, inl, inr, refl, sym, subst}
use Rattle.std.specs.Option.{option_map_or}
use Rattle.command_text.specs.declared.asked.Fault.{Fault}
use Rattle.command_text.specs.declared.asked.Fault.TheVariants.{Syntax, Range}
use Rattle.command_text.specs.declared.command.Body.{Body}
use Rattle.command_text.specs.declared.command.Body.TheVariants as body
use Rattle.command_text.specs.declared.command.Command.{Command}
use Rattle.command_text.specs.Commands.{body_of_line}
use Rattle.command_text.specs.Said.{said_in}
use Rattle.command_text.specs.declared.requests.Request.{Request}
use Rattle.command_text.specs.declared.requests.Request.TheVariants as asks
use Rattle.command_text.specs.declared.words.TheConstants.{GUARDED}
use Rattle.command_text.proofs.SaidByWords.{command_to_run}
use Rattle.exchange_core.specs.declared.refusal.Refusal.{Refusal}
use Rattle.exchange_core.specs.declared.refusal.Refusal.TheVariants as refusal
use Rattle.exchange_core.specs.ExchangeState.{ExchangeState}
use Rattle.exchange_core.specs.Reply.{refused_with}
use Rattle.exchange_lines.specs.LineSteps.{IsAsRun}
use Rattle.exchange_lines.proofs.AsRun.{output_tells}
use Rattle.proposal_text.specs.declared.margins.ToldMargin.{ToldMargin}
use Rattle.proposal_text.specs.declared.needs.Need.{Need}
use Rattle.lists.specs.Refusals.{first_of}
use Rattle.proposal_text.specs.declared.replies.ProposalReply.TheVariants as reply
use Rattle.proposal_text.specs.declared.replies.ServedReply.TheVariants.{Plain, Told}
use Rattle.proposal_text.specs.Pieces.{served_line, written_reply}
use Rattle.guarded_lines.specs.Laws.{GuardedAnswerAsRun, GuardedTellAnswers}
use Rattle.guarded_lines.specs.Margins.{run_in, margin_refusals, told_of}
use Rattle.guarded_lines.specs.Output.{IsMarginText, guarded_line}
use Rattle.guarded_lines.specs.Replies.{covered_reply_to, guarded_reply_to, plain_reply_to}
use Rattle.guarded_lines.specs.Withdrawals.{uncovered_by}

-- a line of a run, whose withdrawal may leave a need uncovered
by_need : (number : ℕ) (state : ExchangeState) (said : Body) (need : Option Need)
    → IsAsRun IsMarginText number state said (written_reply number (option_map_or (λ need. (Told (reply.Uncovered need), state)) need (plain_reply_to state said)))
by_need number state said None = inl refl
by_need number state said (Some need) = inr (inr (inr (need, refl)), refl)

-- a request for a margin
told_text : (number account market : ℕ) (margin : ToldMargin) (refused : Option Refusal)
    → IsMarginText number (served_line number (option_map_or (λ refusal. Plain (refused_with refusal)) refused (Told (reply.Margin account market margin))) ++ 10 ∷ [])
told_text number account market margin None = inr (inl (account, market, margin, refl))
told_text number account market margin (Some refused) = inl (refused, refl)

-- what is said, where a run hears a command as it is said, and else anything
pub said_told : (number : ℕ) (state : ExchangeState) (heard : Body) (said : Result Request Fault) → ((c : Command) → said ≡ Ok (asks.Command c) → heard ≡ body.Command c)
    → IsAsRun IsMarginText number state heard (written_reply number (guarded_reply_to state said))
said_told number state heard (Ok (asks.Command c)) is =
    subst (λ (b : Body). IsAsRun IsMarginText number state b (written_reply number (covered_reply_to state (body.Command c)))) (sym (is c refl))
    (by_need number state (body.Command c) (uncovered_by state (body.Command c)))
said_told number state heard (Ok (asks.Margin request)) is =
    inr (told_text number request.account request.market (told_of (run_in state request.account request.market request.budget)) (first_of (margin_refusals state request)), refl)
said_told number state heard (Ok (asks.Quote request)) is = inr (inl (refusal.Syntax, refl), refl)
said_told number state heard (Ok (asks.Price request)) is = inr (inl (refusal.Syntax, refl), refl)
said_told number state heard (Ok (asks.Try request)) is = inr (inl (refusal.Syntax, refl), refl)
said_told number state heard (Ok (asks.Book market)) is = inr (inl (refusal.Syntax, refl), refl)
said_told number state heard (Ok (asks.Positions account market)) is = inr (inl (refusal.Syntax, refl), refl)
said_told number state heard (Ok (asks.Secure account)) is = inr (inl (refusal.Syntax, refl), refl)
said_told number state heard (Ok (asks.Need account)) is = inr (inl (refusal.Syntax, refl), refl)
said_told number state heard (Ok (asks.Close market)) is = inr (inl (refusal.Syntax, refl), refl)
said_told number state heard (Ok (asks.Reopen market)) is = inr (inl (refusal.Syntax, refl), refl)
said_told number state heard (Ok (asks.Propose request)) is = inr (inl (refusal.Syntax, refl), refl)
said_told number state heard (Err Syntax) is = inr (inl (refusal.Syntax, refl), refl)
said_told number state heard (Err (Range field)) is = inr (inl (refusal.Range field, refl), refl)

pub guarded_answer_as_run : GuardedAnswerAsRun
guarded_answer_as_run number state line = said_told number state (body_of_line line) (said_in GUARDED line) (command_to_run GUARDED line)

pub guarded_tell_answers : GuardedTellAnswers
guarded_tell_answers = output_tells IsMarginText guarded_line guarded_answer_as_run
