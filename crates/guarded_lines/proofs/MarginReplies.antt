-- The reply to a request for a margin.
use Rattle.std.proofs.Common.{◌≡◌, ℕ, ℤ, List, [], ◌∷◌, ◌++◌, Bool, true, false, not, Option, Some, None, is_some, if◌then◌else◌, ap, sym, ◌∙◌}
use Rattle.std.specs.Option.{option_map_or}
use Rattle.cash_ledger.specs.Ledger.{if_open, is_open}
use Rattle.order_book.specs.declared.market.MarketInfo.{MarketInfo}
use Rattle.order_book.specs.Book.{info_in}
use Rattle.lists.specs.Refusals.{first_of}
use Rattle.lists.proofs.FirstRefusal.{first_behind}
use Rattle.exchange_core.specs.declared.refusal.Refusal.{Refusal}
use Rattle.exchange_core.specs.declared.refusal.Refusal.TheVariants.{NoAccount, TooMany}
use Rattle.exchange_core.specs.ExchangeState.{ExchangeState}
use Rattle.exchange_core.specs.Reply.{refused_with}
use Rattle.proposal_text.specs.declared.margins.ToldMargin.{ToldMargin}
use Rattle.proposal_text.specs.declared.replies.ProposalReply.TheVariants.{Margin}
use Rattle.proposal_text.specs.declared.replies.ServedReply.{ServedReply}
use Rattle.proposal_text.specs.declared.replies.ServedReply.TheVariants.{Plain, Told}
use Rattle.command_text.specs.declared.requests.MarginRequest.{MarginRequest}
use Rattle.guarded_lines.specs.Margins.{are_many, run_in, margin_reply, market_refusals, told_of}

module _ (state : ExchangeState) (request : MarginRequest) where
  -- by the refusal
  abbrev replied : Option Refusal → ServedReply
  replied refused =
      option_map_or (λ refusal. Plain (refused_with refusal)) refused
      (Told (Margin request.account request.market (told_of (run_in state request.account request.market request.budget))))

  -- by whether the account is open, and whether it has too many positions
  abbrev later : Bool → Bool → List (Bool × Refusal)
  later opened many = (not opened, NoAccount) ∷ (many, TooMany) ∷ []

  by_account : (info : Option MarketInfo) (opened many : Bool) → info ≡ info_in state.book request.market → None ≡ first_of (market_refusals info)
      → is_open state.accounts request.account ≡ opened → are_many state request.account request.market ≡ many
      → replied (first_of (later opened many)) ≡ margin_reply state request
  by_account info opened many is none open_is many_is =
      (λ i. replied (first_of (later (sym open_is i) (sym many_is i))))
      ∙ ap replied (sym (first_behind (market_refusals info) (later (is_open state.accounts request.account) (are_many state request.account request.market)) (sym none)))
      ∙ ap (λ (o : Option MarketInfo). replied (first_of (market_refusals o ++ later (is_open state.accounts request.account) (are_many state request.account request.market)))) is

  pub margin_replied : (info : Option MarketInfo) (told : ToldMargin) → info ≡ info_in state.book request.market → None ≡ first_of (market_refusals info)
      → is_open state.accounts request.account ≡ true → are_many state request.account request.market ≡ false
      → told ≡ told_of (run_in state request.account request.market request.budget) → Told (Margin request.account request.market told) ≡ margin_reply state request
  margin_replied info told is none opened few same = ap (λ (margin : ToldMargin). Told (Margin request.account request.market margin)) same ∙ by_account info true false is none opened few

-- whether an account is open, by what is told of an amount of it
pub open_where_told : (accounts : List ℕ) (account : ℕ) (amount : ℤ) (told : Option ℤ) → told ≡ if_open accounts account amount → is_open accounts account ≡ is_some told
open_where_told accounts account amount told h = by (is_open accounts account) h
  where
    by : (b : Bool) → told ≡ (if b then Some amount else None) → b ≡ is_some told
    by true h = ap is_some (sym h)
    by false h = ap is_some (sym h)
