-- An account that is opened was not open, and its line is one that opens it: its owner is the session.
use Rattle.std.proofs.Common.{◌≡◌, ℕ, Bool, true, false, nat_lt, Option, Some, None, Result, Ok, Err, if◌then◌else◌, refl, ap, subst, ◌∙◌}
use Rattle.std.specs.Option.{option_map_or}
use Rattle.cash_ledger.specs.Ledger.{is_open}
use Rattle.command_text.specs.declared.asked.Fault.{Fault}
use Rattle.command_text.specs.declared.command.Command.TheVariants.{Open, Deposit, Withdraw, Market, Trade, Bundle, Cancel, Clear, Settle, Balance}
use Rattle.command_text.specs.declared.requests.Request.{Request}
use Rattle.command_text.specs.declared.requests.Request.TheVariants as asks
use Rattle.exchange_core.specs.ExchangeState.{ExchangeState}
use Rattle.members.specs.Members.{MembersState, Owned, after_reply, with_owner}
use Rattle.reply_print.specs.declared.replies.Reply.TheVariants as reply
use Rattle.member_lines.specs.declared.aims.Aim.{Aim}
use Rattle.member_lines.specs.declared.aims.Aim.TheVariants as aim
use Rattle.member_lines.specs.Aims.{aim_of_said, is_open_in, next_order, opened_by}
use Rattle.member_lines.specs.Lines.{noted}

-- it was not open and is now, and its line is one that opens it
pub record IsOpening (before after : ExchangeState) (said : Result Request Fault) (account : ℕ) : Type 0 where
  pub says : said ≡ Ok (asks.Command (Open account))
  pub closed : is_open before.accounts account ≡ false
  pub opened : is_open after.accounts account ≡ true

module _ (before after : ExchangeState) (account : ℕ) where
  abbrev Opens : Result Request Fault → Type 0
  Opens said = opened_by after (aim_of_said before said) ≡ Some account → IsOpening before after said account

  none_opened : {said : Result Request Fault} → None ≡ Some account → IsOpening before after said account
  none_opened is = cc

  opens_other : (other : ℕ) → Opens (Ok (asks.Command (Open other)))
  opens_other other = by (is_open before.accounts other) refl
    where
      same : Some other ≡ Some account → other ≡ account
      same is = cc

      found : (now : Bool) → is_open after.accounts other ≡ now → is_open before.accounts other ≡ false → (if now then Some other else None) ≡ Some account
          → IsOpening before after (Ok (asks.Command (Open other))) account
      found false opened closed is = none_opened is
      found true opened closed is = record {
        says = ap (λ (n : ℕ). Ok (asks.Command (Open n))) (same is);
        closed = subst (λ (n : ℕ). is_open before.accounts n ≡ false) (same is) closed;
        opened = subst (λ (n : ℕ). is_open after.accounts n ≡ true) (same is) opened;
      }

      by : (was : Bool) → is_open before.accounts other ≡ was → opened_by after (if was then aim.Other else aim.Open other) ≡ Some account → IsOpening before after (Ok (asks.Command (Open other))) account
      by true closed is = none_opened is
      by false closed is = found (is_open after.accounts other) refl closed is

  pub is_opening : (said : Result Request Fault) → Opens said
  is_opening (Ok (asks.Command (Open other))) = opens_other other
  is_opening (Ok (asks.Command (Deposit other amount))) = none_opened
  is_opening (Ok (asks.Command (Withdraw other amount))) = none_opened
  is_opening (Ok (asks.Command (Market market underlyings))) = none_opened
  is_opening (Ok (asks.Command (Trade side other market kind strike price quantity count weights))) = none_opened
  is_opening (Ok (asks.Command (Bundle side other market price quantity bundle))) = none_opened
  is_opening (Ok (asks.Command (Cancel other order))) = none_opened
  is_opening (Ok (asks.Command (Clear market budget))) = none_opened
  is_opening (Ok (asks.Command (Settle market count prices))) = none_opened
  is_opening (Ok (asks.Command (Balance other))) = none_opened
  is_opening (Ok (asks.Quote request)) = none_opened
  is_opening (Ok (asks.Price request)) = none_opened
  is_opening (Ok (asks.Margin request)) = none_opened
  is_opening (Ok (asks.Book market)) = none_opened
  is_opening (Ok (asks.Positions other market)) = none_opened
  is_opening (Ok (asks.Secure other)) = none_opened
  is_opening (Ok (asks.Need other)) = none_opened
  is_opening (Ok (asks.Close market)) = none_opened
  is_opening (Ok (asks.Reopen market)) = none_opened
  is_opening (Ok (asks.Propose request)) = none_opened
  is_opening (Ok (asks.Try request)) = none_opened
  is_opening (Err fault) = none_opened

  -- and what its line opens so is opened
  pub opening_is : (said : Result Request Fault) → IsOpening before after said account → opened_by after (aim_of_said before said) ≡ Some account
  opening_is said opening =
      ap (λ (r : Result Request Fault). opened_by after (aim_of_said before r)) opening.says
      ∙ ap (λ (there : Bool). opened_by after (if there then aim.Other else aim.Open account)) opening.closed
      ∙ ap (λ (there : Bool). if there then Some account else None) opening.opened

-- ---- owners
-- the owners once an account is opened, if one is
abbrev pub owners_then : Owned → ℕ → Option ℕ → Owned
owners_then owners session opened = option_map_or (λ (new : ℕ). with_owner owners new session) opened owners

pub noted_owners : (members : MembersState) (session : ℕ) (exchange : ExchangeState) (to_do : Aim)
    → (noted members session exchange to_do).owners ≡ owners_then members.owners session (opened_by exchange to_do)
noted_owners members session exchange (aim.Open new) = by (is_open_in exchange new)
  where
    by : (opened : Bool) → (option_map_or (after_reply members session) (if opened then Some (reply.Opened new) else None) members).owners
        ≡ owners_then members.owners session (if opened then Some new else None)
    by true = refl
    by false = refl
noted_owners members session exchange (aim.Place order number) = by (nat_lt number (next_order exchange))
  where
    by : (placed : Bool) → (option_map_or (after_reply members session) (if placed then Some (reply.Placed number) else None) members).owners ≡ members.owners
    by true = refl
    by false = refl
noted_owners members session exchange aim.Other = refl
