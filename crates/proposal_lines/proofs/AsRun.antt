-- What a line says is answered as in a run, or changes nothing.
use Rattle.std.proofs.Common.{◌≡◌, ℕ, List, Result, Ok, Err, inl, inr, ap}
use Rattle.command_text.proofs.SaidByWords.{command_to_run}
use Rattle.command_text.specs.declared.asked.Fault.{Fault}
use Rattle.command_text.specs.declared.command.Body.{Body}
use Rattle.command_text.specs.declared.command.Body.TheVariants as body
use Rattle.command_text.specs.declared.command.Command.{Command}
use Rattle.command_text.specs.declared.requests.Request.{Request}
use Rattle.command_text.specs.declared.requests.Request.TheVariants as asks
use Rattle.command_text.specs.Commands.{body_of_line, body_of_said}
use Rattle.command_text.specs.Said.{said_in}
use Rattle.exchange_core.specs.ExchangeState.{ExchangeState}
use Rattle.exchange_core.specs.declared.refusal.Refusal.TheVariants as refusal
use Rattle.exchange_lines.specs.LineSteps.{IsAsRun}
use Rattle.guarded_lines.specs.Output.{IsMarginText}
use Rattle.guarded_lines.specs.Replies.{guarded_reply_to}
use Rattle.guarded_lines.proofs.AsRun.{said_told}
use Rattle.proposal_text.specs.Pieces.{written_reply}
use Rattle.quote_lines.specs.Output.{IsPriceText, IsQuoteText}
use Rattle.quote_lines.proofs.AsRun.{prices_told_of, quote_told}
use Rattle.proposal_lines.specs.AllKindsLaws.{AllAnswerAsRun}
use Rattle.proposal_lines.specs.AllKinds.{IsBesideText, said_line}

-- one of some texts is one of more
with_more : (P Q : ℕ → List ℕ → Type 0) (number : ℕ) (state : ExchangeState) (said : Body) (answer : List ℕ × ExchangeState)
    → (P number answer.0 → Q number answer.0)
    → IsAsRun P number state said answer → IsAsRun Q number state said answer
with_more P Q number state said answer more as_run = elim as_run [
  | inl is ↦ inl is
  | inr is ↦ inr (more is.0, is.1)
]

-- what a run hears: a command as it is said, and else anything
abbrev pub Hears : Body → Result Request Fault → Type 0
Hears heard said = (c : Command) → said ≡ Ok (asks.Command c) → heard ≡ body.Command c

module _ (number : ℕ) (state : ExchangeState) (heard : Body) where
  abbrev Answers : Result Request Fault → Type 0
  Answers said = Hears heard said → IsAsRun IsBesideText number state heard (said_line number state said)

  by_margin : (said : Result Request Fault) → Hears heard said → IsAsRun IsBesideText number state heard (written_reply number (guarded_reply_to state said))
  by_margin said is = with_more IsMarginText IsBesideText number state heard _ (λ is. inr (inr is)) (said_told number state heard said is)

  pub said_as_run : (said : Result Request Fault) → Answers said
  said_as_run (Ok (asks.Command c)) is = by_margin (Ok (asks.Command c)) is
  said_as_run (Ok (asks.Quote request)) is = with_more IsQuoteText IsBesideText number state heard _ (λ is. inl is) (quote_told number state heard request)
  said_as_run (Ok (asks.Price request)) is = with_more IsPriceText IsBesideText number state heard _ (λ is. inr (inl is)) (prices_told_of number state heard request)
  said_as_run (Ok (asks.Try request)) is = by_margin (Ok (asks.Try request)) is
  said_as_run (Ok (asks.Margin request)) is = by_margin (Ok (asks.Margin request)) is
  said_as_run (Ok (asks.Book market)) is = by_margin (Ok (asks.Book market)) is
  said_as_run (Ok (asks.Positions account market)) is = by_margin (Ok (asks.Positions account market)) is
  said_as_run (Ok (asks.Secure account)) is = by_margin (Ok (asks.Secure account)) is
  said_as_run (Ok (asks.Need account)) is = by_margin (Ok (asks.Need account)) is
  said_as_run (Ok (asks.Close market)) is = by_margin (Ok (asks.Close market)) is
  said_as_run (Ok (asks.Reopen market)) is = by_margin (Ok (asks.Reopen market)) is
  said_as_run (Ok (asks.Propose request)) is = by_margin (Ok (asks.Propose request)) is
  said_as_run (Err fault) is = by_margin (Err fault) is

pub all_answer_as_run : AllAnswerAsRun
all_answer_as_run words number state line = said_as_run number state (body_of_line line) (said_in words line) (command_to_run words line)

-- what is no command changes nothing
pub said_beside : (number : ℕ) (state : ExchangeState) (said : Result Request Fault) → ((c : Command) → said ≡ Ok (asks.Command c) → ⊥)
    → IsBesideText number (said_line number state said).0 × ((said_line number state said).1 ≡ state)
said_beside number state said none = elim (said_as_run number state body.Syntax said (λ c e. absurd (none c e))) [
  | inl is ↦ (inl (inl (refusal.Syntax, ap (λ (r : List ℕ × ExchangeState). r.0) is)), ap (λ (r : List ℕ × ExchangeState). r.1) is)
  | inr is ↦ is
]

-- what a command says is heard
pub heard_command : (said : Result Request Fault) → Hears (body_of_said said) said
heard_command said c e = ap body_of_said e
