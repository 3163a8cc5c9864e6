-- Secured accounts stay safe, whatever sessions say, those among them that were secured as they were
-- opened.
use Rattle.std.proofs.Common.{◌≡◌, ◌≤◌, ◌+◌, ℕ, true, List, [], ◌∷◌, ⊎_elim, Some, Result, Ok, IfOk, arith, subst}
use Rattle.std.proofs.lemmas.Int.{ints}
use Rattle.account_need.specs.Account.{portfolios}
use Rattle.account_need.proofs.Secured.{secured_can_pay}
use Rattle.cash_ledger.specs.Entries.{balance_of}
use Rattle.command_text.specs.declared.asked.Fault.{Fault}
use Rattle.command_text.specs.declared.command.Command.TheVariants.{Open}
use Rattle.command_text.specs.declared.requests.Request.{Request}
use Rattle.command_text.specs.declared.requests.Request.TheVariants as asks
use Rattle.command_text.specs.declared.words.TheConstants.{SERVED}
use Rattle.command_text.specs.Said.{said_in}
use Rattle.command_text.specs.Within.{RequestIsWithin}
use Rattle.command_text.proofs.ReadWithin.{said_is_within}
use Rattle.exchange_lines.specs.LineSteps.{InputLine}
use Rattle.proposal_lines.proofs.Telling.{empty_is_sound}
use Rattle.secured_accounts.specs.Laws.{AreSafe, IsSafe}
use Rattle.secured_accounts.specs.Money.{IsAccountedFor}
use Rattle.secured_accounts.specs.Secured.{account_of, is_secured}
use Rattle.secured_accounts.proofs.Money.{money_is_kept}
use Rattle.secured_accounts.proofs.Ruled.{secured_or_new}
use Rattle.secured_lines.specs.Laws.{guarded_in}
use Rattle.secured_lines.specs.SecuredState.{SecuredState, empty_secured, exchange_in, with_opened}
use Rattle.secured_lines.proofs.Money.{line_counted}
use Rattle.secured_lines.proofs.StayingSafe.{line_safe}
use Rattle.secured_lines.proofs.Telling.{secured_sound}
use Rattle.member_lines.specs.Laws.{SaidBody}
use Rattle.member_lines.proofs.Opening.{is_opening}
use Rattle.served_members.specs.Laws.{ArePaying, AreSecured, MembersCanPay, after_all, after_body}
use Rattle.served_members.specs.Members.{IsSoundServed, ServedMembers, empty_members}
use Rattle.served_members.proofs.Bodies.{by_body, by_opened, line_state, opened_in}
use Rattle.served_members.proofs.Secured.{members_are_secured}
use Rattle.served_members.proofs.Unopened as unopened
use Rattle.served_members.proofs.Unopened.{UnopenedAreSafe, unopened_stay}

-- secured accounts are safe, and so are those that are not open yet
record IsPaid (served : SecuredState) : Type 0 where
  sound : IsSoundServed served
  safe : AreSafe (guarded_in served)
  unopened : UnopenedAreSafe (exchange_in served)
  counted : IsAccountedFor (exchange_in served)

-- ---- a body
module _ (number : ℕ) (state : ServedMembers) (said : SaidBody) (paid : IsPaid state.served) where
  abbrev line : InputLine
  line = record { number = number; bytes = said.body }

  abbrev behind : SecuredState
  behind = line_state number state said

  line_paid : IsPaid behind
  line_paid = record {
    sound = secured_sound line state.served paid.sound;
    safe = line_safe state.served line paid.sound paid.safe;
    unopened = unopened_stay state.served line paid.sound paid.unopened;
    counted = line_counted state.served line paid.sound paid.counted;
  }

  -- the number of an account that is opened is not 0
  is_some : (account : ℕ) → said_in SERVED said.body ≡ Ok (asks.Command (Open account)) → 1 ≤ account
  is_some account says =
      let within = subst (λ (r : Result Request Fault). IfOk r RequestIsWithin) says (said_is_within SERVED said.body) in within.0

  opened_paid : (account : ℕ) → opened_in number state said ≡ Some account → IsPaid (with_opened behind account)
  opened_paid account is =
      let now = line_paid in
      let opening = is_opening (exchange_in state.served) (exchange_in behind) account (said_in SERVED said.body) is in
      let before = paid.unopened account (is_some account opening.says) opening.closed in
      let new = unopened.line_safe state.served line paid.sound account opening.closed before in
      record {
        sound = now.sound;
        safe = λ other own.
            ⊎_elim (λ (was : is_secured behind.secured other ≡ true). now.safe other was)
            (λ (same : account ≡ other). subst (IsSafe (exchange_in behind)) same new) (secured_or_new other behind.secured account own);
        unopened = now.unopened;
        counted = now.counted;
      }

  body_paid : IsPaid (after_body number state said).served
  body_paid =
      by_body number state said (λ next. IsPaid next.served) paid
      (λ through. by_opened IsPaid said.session behind line_paid (opened_in number state said) (λ account is member. opened_paid account is))

-- ---- all bodies
all_paid : (number : ℕ) (state : ServedMembers) (bodies : List SaidBody) → IsPaid state.served → IsPaid (after_all number state bodies).served
all_paid number state [] paid = paid
all_paid number state (said ∷ more) paid = all_paid (number + 1) (after_body number state said) more (body_paid number state said paid)

none_paid : IsPaid empty_secured
none_paid = record {
  sound = empty_is_sound;
  safe = λ account own. cc;
  unopened = λ account some closed. record { trader = some; above = record { parts = []; enough = tt; sum = omega (arith, ints) } };
  counted = money_is_kept.first;
}

none_secured : AreSecured empty_members
none_secured account owner own member = cc

-- whoever is safe can pay
are_paying : (state : ServedMembers) → IsPaid state.served → AreSecured state → ArePaying state
are_paying state paid secured =
    let exchange = exchange_in state.served in
    let pays = λ (account : ℕ) (own : is_secured state.served.secured account ≡ true).
    secured_can_pay (portfolios (account_of exchange account)) (balance_of account exchange.entries) (paid.safe account own).above in
    record {
      safe = paid.safe;
      money = money_is_kept.sums exchange paid.counted;
      members = λ account owner own member. pays account (secured account owner own member);
      traders = λ all account trader opened. pays account (all account trader opened);
    }

pub members_can_pay : MembersCanPay
members_can_pay bodies =
    are_paying (after_all 1 empty_members bodies) (all_paid 1 empty_members bodies none_paid) (members_are_secured.members 1 empty_members bodies none_secured)
