-- The kinds of what a line says: that an account is to be secured, what one needs, a command, and
-- all else, which is answered as where no account is secured.
use Rattle.std.proofs.Common.{◌≡◌, ℕ, Bool, true, false, List, Option, None, Some, Result, Ok, Err, if◌then◌else◌, refl}
use Rattle.std.specs.Option.{option_map_or}
use Rattle.account_need.specs.Account.{Need}
use Rattle.command_text.specs.declared.asked.Fault.{Fault}
use Rattle.command_text.specs.declared.command.Command.{Command}
use Rattle.command_text.specs.declared.command.Command.TheVariants.{Open, Deposit, Withdraw, Market, Trade, Bundle, Cancel, Clear, Settle, Balance}
use Rattle.command_text.specs.declared.requests.Request.{Request}
use Rattle.command_text.specs.declared.requests.Request.TheVariants as asks
use Rattle.proposal_text.specs.declared.replies.ServedReply.{ServedReply}
use Rattle.secured_accounts.specs.Secured.{is_secured}
use Rattle.secured_lines.specs.Output.{command_reply, handed_on, kept_from, let_through, secured_reply, withdrawn}
use Rattle.secured_lines.specs.Replies.{uncovered_reply}
use Rattle.secured_lines.specs.SecuredState.{SecuredState}

pub record IsOther (said : Result Request Fault) : Type 0 where
  pub handed : (state : SecuredState) (line : List ℕ) → secured_reply state line said ≡ handed_on state line said
  pub none : (command : Command) → said ≡ Ok (asks.Command command) → ⊥

module _ (P : Result Request Fault → Type 0)
    (secure : (account : ℕ) → P (Ok (asks.Secure account)))
    (need : (account : ℕ) → P (Ok (asks.Need account)))
    (command : (c : Command) → P (Ok (asks.Command c)))
    (other : (said : Result Request Fault) → IsOther said → P said) where
  pub by_kind : (said : Result Request Fault) → P said
  by_kind (Ok (asks.Secure account)) = secure account
  by_kind (Ok (asks.Need account)) = need account
  by_kind (Ok (asks.Command c)) = command c
  by_kind (Ok (asks.Quote request)) = other (Ok (asks.Quote request)) (record { handed = λ state line. refl; none = λ c e. cc })
  by_kind (Ok (asks.Price request)) = other (Ok (asks.Price request)) (record { handed = λ state line. refl; none = λ c e. cc })
  by_kind (Ok (asks.Try request)) = other (Ok (asks.Try request)) (record { handed = λ state line. refl; none = λ c e. cc })
  by_kind (Ok (asks.Margin request)) = other (Ok (asks.Margin request)) (record { handed = λ state line. refl; none = λ c e. cc })
  by_kind (Ok (asks.Book market)) = other (Ok (asks.Book market)) (record { handed = λ state line. refl; none = λ c e. cc })
  by_kind (Ok (asks.Positions account market)) = other (Ok (asks.Positions account market)) (record { handed = λ state line. refl; none = λ c e. cc })
  by_kind (Ok (asks.Close market)) = other (Ok (asks.Close market)) (record { handed = λ state line. refl; none = λ c e. cc })
  by_kind (Ok (asks.Reopen market)) = other (Ok (asks.Reopen market)) (record { handed = λ state line. refl; none = λ c e. cc })
  by_kind (Ok (asks.Propose request)) = other (Ok (asks.Propose request)) (record { handed = λ state line. refl; none = λ c e. cc })
  by_kind (Err fault) = other (Err fault) (record { handed = λ state line. refl; none = λ c e. cc })

-- ---- a command: it is kept from the exchange, is a withdrawal of a secured account, or handed on
module _ (P : ServedReply × SecuredState → Type 0) (state : SecuredState) (line : List ℕ) where
  by_rule : (account amount : ℕ) → (is_secured state.secured account ≡ true → P (withdrawn state account amount)) → P (handed_on state line (Ok (asks.Command (Withdraw account amount))))
      → (own : Bool) → is_secured state.secured account ≡ own → P (if own then withdrawn state account amount else handed_on state line (Ok (asks.Command (Withdraw account amount))))
  by_rule account amount ruled handed true is = ruled is
  by_rule account amount ruled handed false is = handed

  by_command : (command : Command) → ((account amount : ℕ) → command ≡ Withdraw account amount → is_secured state.secured account ≡ true → P (withdrawn state account amount))
      → P (handed_on state line (Ok (asks.Command command))) → P (let_through state line command)
  by_command (Withdraw account amount) ruled handed = by_rule account amount (ruled account amount refl) handed (is_secured state.secured account) refl
  by_command (Open account) ruled handed = handed
  by_command (Deposit account amount) ruled handed = handed
  by_command (Market market underlyings) ruled handed = handed
  by_command (Trade side account market kind strike price quantity count weights) ruled handed = handed
  by_command (Bundle side account market price quantity bundle) ruled handed = handed
  by_command (Cancel account order) ruled handed = handed
  by_command (Clear market budget) ruled handed = handed
  by_command (Settle market count prices) ruled handed = handed
  by_command (Balance account) ruled handed = handed

  pub by_answer : (command : Command) → ((need : Need) → kept_from state command ≡ Some need → P (uncovered_reply need, state))
      → (kept_from state command ≡ None → (account amount : ℕ) → command ≡ Withdraw account amount → is_secured state.secured account ≡ true → P (withdrawn state account amount))
      → (kept_from state command ≡ None → P (handed_on state line (Ok (asks.Command command)))) → P (command_reply state line command)
  by_answer command kept ruled handed = by (kept_from state command) refl
    where
      by : (need : Option Need) → kept_from state command ≡ need → P (option_map_or (λ need. (uncovered_reply need, state)) need (let_through state line command))
      by None free = by_command command (ruled free) (handed free)
      by (Some need) is = kept need is
