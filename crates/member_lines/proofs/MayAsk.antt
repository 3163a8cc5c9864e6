-- Of an account its owner may ask, and the operator, and no other.
use Rattle.std.proofs.Common.{◌≡◌, ℕ, true, false, not, ◌&&◌, Ok, Some, if◌then◌else◌, sym, ap, ◌∙◌, subst}
use Rattle.std.proofs.lemmas.Option.{same_Some}
use Rattle.asked_lines.specs.Requests.{may_be_asked}
use Rattle.command_text.specs.declared.command.Command.TheVariants as command
use Rattle.command_text.specs.declared.requests.Request.{Request}
use Rattle.command_text.specs.declared.requests.Request.TheVariants as asks
use Rattle.members.specs.Laws.{IsToldNothing}
use Rattle.members.specs.Members.{Owned, may_ask, owns}
use Rattle.members.specs.Rule.{is_operator}
use Rattle.members.specs.declared.refusal.MemberRefusal.TheVariants.{NotAllowed}
use Rattle.members.proofs.ToldNothing.{others_are_told_nothing}
use Rattle.member_lines.specs.Asked.{OthersMayNotAsk, SaidAsks, asked_said}
use Rattle.member_lines.specs.Laws.{tells_of}
use Rattle.member_lines.specs.Refused.{refused_text}

module _ (owners : Owned) (session account : ℕ) (other : owns owners session account ≡ false) (member : is_operator session ≡ false) where
  nothing : IsToldNothing owners session account
  nothing = others_are_told_nothing owners session account other member

  -- the line may be asked, and not by the session
  abbrev NotTo : Request → Type 0
  NotTo request = (may_be_asked request && not (may_ask owners session request)) ≡ true

  not_to : (request : Request) → tells_of request ≡ Some account → NotTo request
  not_to (asks.Command (command.Balance named)) is =
      subst (λ a. NotTo (asks.Command (command.Balance a))) (sym (same_Some named account is)) (ap (λ b. not b) nothing.balance.1)
  not_to (asks.Positions named market) is = subst (λ a. NotTo (asks.Positions a market)) (sym (same_Some named account is)) (ap (λ b. not b) (nothing.positions market).1)
  not_to (asks.Margin request) is = ap (λ b. not b) (nothing.margin request (same_Some request.account account is)).1
  not_to (asks.Need named) is = subst (λ a. NotTo (asks.Need a)) (sym (same_Some named account is)) (ap (λ b. not b) nothing.need.1)
  not_to (asks.Command (command.Open named)) is = cc
  not_to (asks.Command (command.Deposit named amount)) is = cc
  not_to (asks.Command (command.Withdraw named amount)) is = cc
  not_to (asks.Command (command.Market market underlyings)) is = cc
  not_to (asks.Command (command.Trade side named market kind strike price quantity count weights)) is = cc
  not_to (asks.Command (command.Bundle side named market price quantity bundle)) is = cc
  not_to (asks.Command (command.Cancel named order)) is = cc
  not_to (asks.Command (command.Clear market budget)) is = cc
  not_to (asks.Command (command.Settle market count prices)) is = cc
  not_to (asks.Quote request) is = cc
  not_to (asks.Price request) is = cc
  not_to (asks.Try request) is = cc
  not_to (asks.Book market) is = cc
  not_to (asks.Secure named) is = cc
  not_to (asks.Close market) is = cc
  not_to (asks.Reopen market) is = cc
  not_to (asks.Propose request) is = cc

pub others_may_not_ask : {S : Type 0} (asks : SaidAsks S) → OthersMayNotAsk asks
others_may_not_ask asks number state asked request account other member tells is =
    ap (asked_said asks asked.session number state asked.body) is
    ∙ ap (λ b. if b then refused_text number NotAllowed else asks number state.served asked.body (Ok request)) (not_to state.members.owners asked.session account other member request tells)
