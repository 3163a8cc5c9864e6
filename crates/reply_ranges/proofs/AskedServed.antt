-- What is asked between lines of `serve` is told by a sound line.
use Rattle.std.proofs.Common.{◌≡◌, ℕ, List, Bool, true, false, if◌then◌else◌, Result, Ok, Err, refl, subst}
use Rattle.std.specs.Prelude.{IfOk}
use Rattle.asked_lines.specs.Requests.{may_be_asked}
use Rattle.command_text.specs.declared.asked.Fault.{Fault}
use Rattle.command_text.specs.declared.requests.ProposeRequest.{ProposeRequest}
use Rattle.command_text.specs.declared.requests.Request.{Request}
use Rattle.command_text.specs.declared.requests.Request.TheVariants as asks
use Rattle.command_text.specs.declared.words.TheConstants.{SERVED}
use Rattle.command_text.specs.Said.{said_in}
use Rattle.command_text.specs.Within.{RequestIsWithin}
use Rattle.command_text.proofs.ReadWithin.{said_is_within}
use Rattle.proposal_lines.specs.Asked.{if_proposed}
use Rattle.proposal_lines.specs.Proposed.{proposed_of}
use Rattle.proposal_lines.specs.declared.proposed.Proposed.{Proposed}
use Rattle.proposal_text.specs.declared.replies.Bar.{Bar}
use Rattle.proposal_text.specs.declared.replies.Bar.TheVariants.{NotAsked}
use Rattle.proposal_text.specs.declared.replies.ProposalReply.TheVariants.{Barred}
use Rattle.proposal_text.specs.declared.replies.ServedReply.TheVariants.{Told}
use Rattle.secured_lines.specs.Asked.{asked_reply, not_asked, said_asks, secured_asks}
use Rattle.secured_lines.specs.Output.{secured_reply}
use Rattle.secured_lines.specs.SecuredState.{SecuredState, exchange_in}
use Rattle.reply_ranges.proofs.Fields.{IsPlaced, IsPlacedIn, said_is_placed}
use Rattle.reply_ranges.proofs.Others as others
use Rattle.reply_ranges.proofs.Proposals.{proposed_in}
use Rattle.reply_print.specs.Within.{IsLine}
use Rattle.reply_ranges.proofs.SecuredServed.{StandsSecured, said_served}
use Rattle.reply_ranges.proofs.Texts.{IsServedReply, IsServedText, proposal_text}

module _ (number : ℕ) (is_line : IsLine number) (state : SecuredState) (stands : StandsSecured number state) where
  -- by what a bar refuses
  pub barred_served : (bar : Bar) → IsServedReply number (Told (Barred bar))
  barred_served bar = proposal_text number (Barred bar) (is_line, tt) tt

  module _ (line : List ℕ) where
    fault_served : (fault : Fault) → IsPlaced fault → IsServedReply number (secured_reply state line (Err fault)).0
    fault_served fault placed =
        others.said_served number is_line (exchange_in state) stands.exchange (Err fault) tt placed

    -- a line that is no proposal
    request_served : (request : Request) → said_in SERVED line ≡ Ok request → IsServedReply number (asked_reply state line (Ok request))
    request_served request is = by (may_be_asked request)
      where
        by : (b : Bool) → IsServedReply number (if b then (secured_reply state line (Ok request)).0 else not_asked)
        by true = (said_served number is_line state stands line (Ok request) is (subst (λ (said : Result Request Fault). IfOk said RequestIsWithin) is (said_is_within SERVED line))).0
        by false = barred_served NotAsked

    proposes_served : (request : ProposeRequest) (proposed : Result Proposed Fault) → IsPlacedIn proposed → IsServedReply number (asked_reply state line (if_proposed request proposed))
    proposes_served request (Ok proposed) placed = barred_served NotAsked
    proposes_served request (Err fault) placed = fault_served fault placed

    pub asked_served : (said : Result Request Fault) → said_in SERVED line ≡ said → IsServedText (said_asks number state line said)
    asked_served (Ok (asks.Propose request)) is =
        proposes_served request (proposed_of line request)
        (proposed_in line request (subst (λ (said : Result Request Fault). IfOk said RequestIsWithin) is (said_is_within SERVED line))).1
    asked_served (Ok (asks.Command command)) is = request_served (asks.Command command) is
    asked_served (Ok (asks.Quote request)) is = request_served (asks.Quote request) is
    asked_served (Ok (asks.Price request)) is = request_served (asks.Price request) is
    asked_served (Ok (asks.Try request)) is = request_served (asks.Try request) is
    asked_served (Ok (asks.Margin request)) is = request_served (asks.Margin request) is
    asked_served (Ok (asks.Book market)) is = request_served (asks.Book market) is
    asked_served (Ok (asks.Positions account market)) is = request_served (asks.Positions account market) is
    asked_served (Ok (asks.Secure account)) is = request_served (asks.Secure account) is
    asked_served (Ok (asks.Need account)) is = request_served (asks.Need account) is
    asked_served (Ok (asks.Close market)) is = request_served (asks.Close market) is
    asked_served (Ok (asks.Reopen market)) is = request_served (asks.Reopen market) is
    asked_served (Err fault) is = fault_served fault (subst (λ (said : Result Request Fault). IsPlacedIn said) is (said_is_placed SERVED line))

    pub question_served : IsServedText (secured_asks number state line)
    question_served = asked_served (said_in SERVED line) refl
