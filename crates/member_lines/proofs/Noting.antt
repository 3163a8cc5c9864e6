-- What is noted of a line that the exchange carries out is what its reply tells.
use Rattle.std.proofs.Common.{◌≡◌, ℕ, ◌+◌, Bool, true, false, ◌||◌, List, [], ◌∷◌, ◌++◌, nat_eq, nat_lt, Option, Some, None, if◌then◌else◌, refl, ap, ◌∙◌, arith}
use Rattle.std.specs.Option.{option_map_or}
use Rattle.std.proofs.lemmas.Bool.Decides.{nat_tests}
use Rattle.lists.proofs.FirstRefusal.{first_unmet}
use Rattle.cash_ledger.specs.Ledger.{is_open}
use Rattle.command_text.specs.declared.command.Command.{Command}
use Rattle.command_text.specs.declared.command.Command.TheVariants.{Open, Deposit, Withdraw, Market, Trade, Bundle, Cancel, Clear, Settle, Balance}
use Rattle.order_book.specs.declared.new_order.NewOrder.{NewOrder}
use Rattle.exchange_core.specs.declared.refusal.Refusal.{Refusal}
use Rattle.exchange_core.specs.declared.refusal.Refusal.TheVariants.{AccountExists}
use Rattle.exchange_core.specs.ExchangeState.{ExchangeState}
use Rattle.exchange_core.specs.Orders.{order_by, order_for}
use Rattle.exchange_core.specs.Refusals.{refusal_of}
use Rattle.exchange_core.specs.Step.{effect, open_effect, place_effect, refusal_effect, step}
use Rattle.members.specs.Members.{MembersState, after_reply, with_placed}
use Rattle.reply_print.specs.declared.replies.Reply.{Reply}
use Rattle.reply_print.specs.declared.replies.Reply.TheVariants as reply
use Rattle.member_lines.specs.declared.aims.Aim.{Aim}
use Rattle.member_lines.specs.declared.aims.Aim.TheVariants as aim
use Rattle.member_lines.specs.Aims.{command_aim, done_by, is_open_in, next_order}
use Rattle.member_lines.specs.Lines.{noted}

-- ---- accounts and numbers
-- an account that is added is open
any_last : (account : ℕ) (accounts : List ℕ) → is_open (accounts ++ account ∷ []) account ≡ true
any_last account [] = grind (arith, nat_tests)
any_last account (other ∷ accounts) = by (nat_eq account other) (any_last account accounts)
  where
    by : (b : Bool) → is_open (accounts ++ account ∷ []) account ≡ true → (b || is_open (accounts ++ account ∷ []) account) ≡ true
    by true rest = refl
    by false rest = rest

not_less : (n : ℕ) → nat_lt n n ≡ false
not_less n = grind (arith, nat_tests)

less_next : (n : ℕ) → nat_lt n (n + 1) ≡ true
less_next n = grind (arith, nat_tests)

-- ---- where the exchange stays as it is
abbrev open_aim : ExchangeState → ℕ → Bool → Aim
open_aim state account there = if there then aim.Other else aim.Open account

order_none : (state : ExchangeState) (order : NewOrder) → done_by state (aim.Place order (next_order state)) ≡ None
order_none state order = ap (λ b. if b then Some (reply.Placed (next_order state)) else None) (not_less (next_order state))

pub none_done : (state : ExchangeState) (command : Command) → done_by state (command_aim state command) ≡ None
none_done state (Open account) = by (is_open_in state account) refl
  where
    by : (b : Bool) → is_open_in state account ≡ b → done_by state (open_aim state account b) ≡ None
    by true is = refl
    by false is = ap (λ b. if b then Some (reply.Opened account) else None) is
none_done state (Deposit account amount) = refl
none_done state (Withdraw account amount) = refl
none_done state (Market market underlyings) = refl
none_done state (Trade side account market kind strike price quantity count weights) = order_none state (order_by side account market kind strike price quantity count weights)
none_done state (Bundle side account market price quantity bundle) = order_none state (order_for side account market price quantity bundle)
none_done state (Cancel account order) = refl
none_done state (Clear market budget) = refl
none_done state (Settle market count prices) = refl
none_done state (Balance account) = refl

-- ---- where it carries out what is said
module _ (members : MembersState) (session : ℕ) (state : ExchangeState) where
  abbrev Noted : Command → Reply × ExchangeState → Type 0
  Noted command done = noted members session done.1 (command_aim state command) ≡ after_reply members session done.0

  opened : (account : ℕ) → is_open_in state account ≡ false → Noted (Open account) (open_effect state account)
  opened account closed =
      let after = (open_effect state account).1 in
      ap (λ b. noted members session after (open_aim state account b)) closed
      ∙ ap (λ b. option_map_or (after_reply members session) (if b then Some (reply.Opened account) else None) members) (any_last account state.accounts)

  placed : (order : NewOrder) → noted members session (place_effect state order).1 (aim.Place order (next_order state)) ≡ with_placed members session
  placed order = ap (λ b. option_map_or (after_reply members session) (if b then Some (reply.Placed (next_order state)) else None) members) (less_next (next_order state))

  accepted : (command : Command) → refusal_of state command ≡ None → Noted command (effect state command)
  accepted (Open account) none = opened account (first_unmet (is_open_in state account) AccountExists _ none).0
  accepted (Deposit account amount) none = refl
  accepted (Withdraw account amount) none = refl
  accepted (Market market underlyings) none = refl
  accepted (Trade side account market kind strike price quantity count weights) none = placed (order_by side account market kind strike price quantity count weights)
  accepted (Bundle side account market price quantity bundle) none = placed (order_for side account market price quantity bundle)
  accepted (Cancel account order) none = refl
  accepted (Clear market budget) none = refl
  accepted (Settle market count prices) none = refl
  accepted (Balance account) none = refl

  pub none_noted : (command : Command) → noted members session state (command_aim state command) ≡ members
  none_noted command = ap (λ (done : Option Reply). option_map_or (after_reply members session) done members) (none_done state command)

  pub step_noted : (command : Command) → Noted command (step state command)
  step_noted command = by (refusal_of state command) refl
    where
      by : (refused : Option Refusal) → refusal_of state command ≡ refused → Noted command (option_map_or (refusal_effect state) refused (effect state command))
      by None none = accepted command none
      by (Some refusal) told = none_noted command
