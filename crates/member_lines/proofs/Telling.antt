-- Of an account its owner is told, and the operator, and no other.
use Rattle.std.proofs.Common.{◌≡◌, ℕ, false, not, Some, None, if◌then◌else◌, sym, ap, ◌∙◌, subst}
use Rattle.std.proofs.lemmas.Option.{same_Some}
use Rattle.command_text.specs.declared.command.Command.TheVariants as command
use Rattle.command_text.specs.declared.requests.Request.{Request}
use Rattle.command_text.specs.declared.requests.Request.TheVariants as asks
use Rattle.exchange_core.specs.ExchangeState.{ExchangeState}
use Rattle.members.specs.Laws.{IsToldNothing}
use Rattle.members.specs.Members.{Owned, is_allowed, is_over, owns}
use Rattle.members.specs.Rule.{is_operator}
use Rattle.members.specs.declared.refusal.MemberRefusal.TheVariants.{NotAllowed, Quota}
use Rattle.members.proofs.ToldNothing.{others_are_told_nothing}
use Rattle.member_lines.specs.Laws.{OthersAreRefused, refusal_of_said, tells_of}
use Rattle.member_lines.specs.Runs.{Opens, SaidStep}
use Rattle.member_lines.proofs.Passing.{refusals_are_told}

module _ (owners : Owned) (session account : ℕ) (other : owns owners session account ≡ false) (member : is_operator session ≡ false) where
  nothing : IsToldNothing owners session account
  nothing = others_are_told_nothing owners session account other member

  abbrev NotAllowedTo : Request → Type 0
  NotAllowedTo request = is_allowed owners session request ≡ false

  not_allowed : (request : Request) → tells_of request ≡ Some account → NotAllowedTo request
  not_allowed (asks.Command (command.Balance named)) is = subst (λ a. NotAllowedTo (asks.Command (command.Balance a))) (sym (same_Some named account is)) nothing.balance.0
  not_allowed (asks.Positions named market) is = subst (λ a. NotAllowedTo (asks.Positions a market)) (sym (same_Some named account is)) (nothing.positions market).0
  not_allowed (asks.Margin request) is = (nothing.margin request (same_Some request.account account is)).0
  not_allowed (asks.Need named) is = subst (λ a. NotAllowedTo (asks.Need a)) (sym (same_Some named account is)) nothing.need.0
  not_allowed (asks.Command (command.Open named)) is = cc
  not_allowed (asks.Command (command.Deposit named amount)) is = cc
  not_allowed (asks.Command (command.Withdraw named amount)) is = cc
  not_allowed (asks.Command (command.Market market underlyings)) is = cc
  not_allowed (asks.Command (command.Trade side named market kind strike price quantity count weights)) is = cc
  not_allowed (asks.Command (command.Bundle side named market price quantity bundle)) is = cc
  not_allowed (asks.Command (command.Cancel named order)) is = cc
  not_allowed (asks.Command (command.Clear market budget)) is = cc
  not_allowed (asks.Command (command.Settle market count prices)) is = cc
  not_allowed (asks.Quote request) is = cc
  not_allowed (asks.Price request) is = cc
  not_allowed (asks.Try request) is = cc
  not_allowed (asks.Book market) is = cc
  not_allowed (asks.Secure named) is = cc
  not_allowed (asks.Close market) is = cc
  not_allowed (asks.Reopen market) is = cc
  not_allowed (asks.Propose request) is = cc

module _ {S : Type 0} (exchange : S → ExchangeState) (says : SaidStep S) (opens : Opens S) where
  pub others_are_refused : OthersAreRefused exchange says opens
  others_are_refused number state said request account other member tells is =
      let over = is_over state.members (exchange state.served) said.session request in
      let no = not_allowed state.members.owners said.session account other member request tells in
      refusals_are_told exchange says opens number state said NotAllowed
      (ap (refusal_of_said exchange says opens state said.session) is ∙ ap (λ b. if not b then Some NotAllowed else if over then Some Quota else None) no)
