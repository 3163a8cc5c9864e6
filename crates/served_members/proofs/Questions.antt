-- What is asked is told as the next line would be.
use Rattle.std.proofs.Common.{◌≡◌, ℕ, Bool, true, false, List, [], ◌∷◌, ◌++◌, if◌then◌else◌, Result, Ok, refl, sym, ap, ◌∙◌, subst}
use Rattle.asked_lines.specs.Requests.{command_may_be_asked, may_be_asked}
use Rattle.command_text.specs.declared.asked.Fault.{Fault}
use Rattle.command_text.specs.declared.requests.Request.{Request}
use Rattle.command_text.specs.declared.requests.Request.TheVariants.{Command, Quote, Price, Try, Margin, Book, Positions, Secure, Need, Close, Reopen, Propose}
use Rattle.command_text.specs.declared.words.TheConstants.{SERVED}
use Rattle.command_text.specs.Said.{said_in}
use Rattle.exchange_core.specs.ExchangeState.{ExchangeState}
use Rattle.exchange_lines.specs.LineSteps.{InputLine}
use Rattle.proposal_text.specs.Pieces.{served_line}
use Rattle.proposal_text.specs.declared.replies.ServedReply.{ServedReply}
use Rattle.proposal_lines.specs.Answers.{TellsAsked, TellsTrial}
use Rattle.proposal_lines.specs.Asked.{in_form}
use Rattle.proposal_lines.specs.Laws.{IsSound}
use Rattle.proposal_lines.specs.QuoteLaws.{TellsPrices, TellsQuote}
use Rattle.secured_lines.specs.Asked.{asked_reply, said_asks, secured_asks}
use Rattle.secured_lines.specs.Output.{secured_line, secured_reply, secured_said}
use Rattle.secured_lines.specs.SecuredState.{SecuredState}
use Rattle.secured_lines.proofs.Telling.{secured_told}
use Rattle.served_members.specs.Asking.{QuestionsAreTold}

if_may : (may : Bool) (reply other : ServedReply) → may ≡ true → (if may then reply else other) ≡ reply
if_may true reply other is = refl
if_may false reply other is = cc

module _ (number : ℕ) (state : SecuredState) (body : List ℕ) where
  as_next : (request : Request) → may_be_asked request ≡ true → asked_reply state body (in_form body (Ok request)) ≡ (secured_reply state body (Ok request)).0
  as_next (Command command) may = if_may (command_may_be_asked command) _ _ may
  as_next (Quote request) may = refl
  as_next (Price request) may = refl
  as_next (Try request) may = refl
  as_next (Margin request) may = refl
  as_next (Book market) may = refl
  as_next (Positions account market) may = refl
  as_next (Secure account) may = cc
  as_next (Need account) may = refl
  as_next (Close market) may = cc
  as_next (Reopen market) may = cc
  as_next (Propose request) may = cc

  is_next : (request : Request) → said_in SERVED body ≡ Ok request → may_be_asked request ≡ true → secured_asks number state body ≡ (secured_line number state body).0
  is_next request is may =
      ap (λ (r : Result Request Fault). said_asks number state body r) is ∙ ap (λ (reply : ServedReply). served_line number reply ++ 10 ∷ []) (as_next request may)
      ∙ sym (ap (λ (r : Result Request Fault). (secured_said number state body r).0) is)

  abbrev line : InputLine
  line = record { number = number; bytes = body }

  abbrev before : ExchangeState
  before = state.serving.proposing.exchange

  abbrev after : ExchangeState
  after = (secured_line number state body).1.serving.proposing.exchange

  tells_asked : IsSound state.serving.proposing → TellsAsked state.serving.proposing line (secured_asks number state body, after)
  tells_asked sound =
      let tells = (secured_told line state sound).asked_is in
      record {
        quote = λ request is none. subst (λ (t : List ℕ). TellsQuote number before request (t, after)) (sym (is_next (Quote request) is refl)) (tells.quote request is none);
        prices = λ request is none. subst (λ (t : List ℕ). TellsPrices number before request (t, after)) (sym (is_next (Price request) is refl)) (tells.prices request is none);
        trial = λ request is none. subst (λ (t : List ℕ). TellsTrial number before request (t, after)) (sym (is_next (Try request) is refl)) (tells.trial request is none);
      }

pub questions_are_told : QuestionsAreTold
questions_are_told number state body sound = record { next = is_next number state body; told = tells_asked number state body sound }
