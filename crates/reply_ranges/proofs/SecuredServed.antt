-- Each line of `serve` is sound where accounts may be secured, and what is left stands before the
-- next one.
use Rattle.std.proofs.Common.{◌≡◌, ℕ, ◌+◌, ◌≤◌, List, [], ◌∷◌, Bool, true, false, not, ◌&&◌, is_none, length, nat_le, if◌then◌else◌, Option, Some, None, Result, Ok, Err, refl, sym, subst, arith}
use Rattle.std.specs.Prelude.{IfOk}
use Rattle.std.specs.Option.{option_map_or}
use Rattle.std.proofs.lemmas.Bool.{leb-true}
use Rattle.std.proofs.lemmas.Option.{same_Some}
use Rattle.account_need.specs.Account.{Need, bound_of, need_from, on_amount, on_bound, portfolios}
use Rattle.account_need.specs.Exposure.{Portfolio, asked_for}
use Rattle.account_need.specs.Rounded.{summed}
use Rattle.account_need.specs.Several.{Bounded}
use Rattle.account_need.specs.declared.need.NoNeed.TheVariants as word
use Rattle.auction_phases.specs.Phases.{bars}
use Rattle.cash_ledger.specs.Entries.{balance_of}
use Rattle.cash_ledger.specs.Ledger.{is_open}
use Rattle.command_text.specs.declared.asked.Fault.{Fault}
use Rattle.command_text.specs.declared.command.Body.{Body}
use Rattle.command_text.specs.declared.command.Body.TheVariants as body
use Rattle.command_text.specs.declared.command.Command.{Command}
use Rattle.command_text.specs.declared.command.Command.TheVariants.{Withdraw}
use Rattle.command_text.specs.declared.requests.Request.{Request}
use Rattle.command_text.specs.declared.requests.Request.TheVariants as asks
use Rattle.command_text.specs.declared.words.TheConstants.{SERVED}
use Rattle.command_text.specs.Said.{said_in}
use Rattle.command_text.specs.Within.{IsAccount, IsWithin, RequestIsWithin}
use Rattle.command_text.proofs.ReadWithin.{said_is_within}
use Rattle.command_text.proofs.SaidByWords.{command_to_run}
use Rattle.exchange_core.specs.ExchangeState.{ExchangeState}
use Rattle.exchange_core.specs.LineReplies.{reply_to}
use Rattle.exchange_core.specs.Refusals.{refusal_of}
use Rattle.exchange_core.specs.Step.{effect}
use Rattle.exchange_core.specs.declared.refusal.Refusal.TheVariants as refusal
use Rattle.exchange_lines.specs.LineSteps.{InputLine}
use Rattle.frac.specs.Range.{limit as largest}
use Rattle.lists.specs.Refusals.{first_of}
use Rattle.proposal_lines.specs.Laws.{IsSound}
use Rattle.proposal_text.specs.Needs.{IsNeedWithin}
use Rattle.proposal_text.specs.declared.replies.ProposalReply.TheVariants as told
use Rattle.proposal_text.specs.declared.replies.ServedReply.{ServedReply}
use Rattle.reply_print.specs.Within.{IsLine}
use Rattle.secured_accounts.specs.Secured.{account_of, is_enough, is_secured, need_above, need_in, risked_by, told_need as what_is_told, uncovered, uncovered_by}
use Rattle.secured_accounts.specs.declared.refusal.SecuringRefusal.TheVariants.{Exchange, Uncovered}
use Rattle.secured_lines.specs.Output.{command_reply, handed_on, kept_from, need_reply, secure_reply, secured_line, secured_reply, withdrawn}
use Rattle.secured_lines.specs.Replies.{need_answered, refused_by, secure_answered, told_need, uncovered_reply}
use Rattle.secured_lines.specs.SecuredState.{SecuredState, exchange_in}
use Rattle.secured_lines.proofs.LineKinds.{by_answer, by_kind}
use Rattle.secured_lines.proofs.Telling.{secured_sound}
use Rattle.reply_ranges.proofs.Others.{refusal_served, run_served}
use Rattle.reply_ranges.proofs.ServedLines.{passes, run_stands}
use Rattle.reply_ranges.proofs.ServingLines.{StandsServing, serving_answers}
use Rattle.reply_ranges.proofs.States.{IsStanding, balance_ranged, later_ranged}
use Rattle.reply_ranges.proofs.Texts.{IsServedReply, IsServedText, proposal_text}

-- ---- needs are within the limit
need_below : (so_far spent : ℕ) (markets : List Portfolio) (amount : ℕ) → so_far ≤ largest → need_from so_far spent markets ≡ Ok amount → amount ≤ largest
need_below so_far spent [] amount low e = let same : so_far ≡ amount = cc in subst (λ (n : ℕ). n ≤ largest) same low
need_below so_far spent (p ∷ markets) amount low e = by (bound_of p.underlyings spent (summed p)) (λ asked later below told. need_below asked later markets amount below told) e
  where
    fits : (asked later : ℕ) (b : Bool) → nat_le asked largest ≡ b → (asked ≤ largest → need_from asked later markets ≡ Ok amount → amount ≤ largest)
        → (if b then need_from asked later markets else Err word.Sum) ≡ Ok amount → amount ≤ largest
    fits asked later true is rest told = rest (leb-true asked largest is) told
    fits asked later false is rest told = cc

    by : (bounded : Bounded) → ((asked later : ℕ) → asked ≤ largest → need_from asked later markets ≡ Ok amount → amount ≤ largest)
        → on_bound bounded (λ S later. on_amount (so_far + asked_for p.live (length p.positions) S) (λ amount. need_from amount later markets)) ≡ Ok amount → amount ≤ largest
    by (Ok (S, later)) rest told =
        let asked : ℕ = so_far + asked_for p.live (length p.positions) S in fits asked later (nat_le asked largest) refl (rest asked later) told
    by (Err w) rest told = cc

is_within : (need : Need) → ((amount : ℕ) → need ≡ Ok amount → amount ≤ largest) → IsNeedWithin (told_need need)
is_within (Ok amount) below = let low = below amount refl in omega (arith, low)
is_within (Err word.Positions) below = tt
is_within (Err word.Unbounded) below = tt
is_within (Err word.Wide) below = tt
is_within (Err word.Budget) below = tt
is_within (Err word.Sum) below = tt

need_within : (state : ExchangeState) (account : ℕ) → IsNeedWithin (told_need (need_in state account))
need_within state account = is_within (need_in state account) (λ amount e. need_below 0 0 (portfolios (account_of state account)) amount (omega arith) e)

uncovered_within : (secured : List ℕ) (state : ExchangeState) (command : Command) (need : Need) → uncovered secured state command ≡ Some need → IsNeedWithin (told_need need)
uncovered_within secured state command need = by (risked_by command)
  where
    after : ExchangeState
    after = (effect state command).1

    short : (account : ℕ) (enough : Bool) → (if enough then None else Some (need_in after account)) ≡ Some need → IsNeedWithin (told_need need)
    short account true e = cc
    short account false e = subst (λ (n : Need). IsNeedWithin (told_need n)) (same_Some (need_in after account) need e) (need_within after account)

    judged : (account : ℕ) (own : Bool) → (if own then need_above after account else None) ≡ Some need → IsNeedWithin (told_need need)
    judged account true e = short account (is_enough after account) e
    judged account false e = cc

    by : (risked : Option ℕ) → option_map_or (uncovered_by secured state command) risked None ≡ Some need → IsNeedWithin (told_need need)
    by None e = cc
    by (Some account) e = judged account (is_secured secured account && is_none (refusal_of state command)) e

kept_within : (state : SecuredState) (command : Command) (need : Need) → kept_from state command ≡ Some need → IsNeedWithin (told_need need)
kept_within state command need = by (bars state.serving.closed (exchange_in state) command)
  where
    by : (barred : Bool) → (if barred then None else uncovered state.secured (exchange_in state) command) ≡ Some need → IsNeedWithin (told_need need)
    by true e = cc
    by false e = uncovered_within state.secured (exchange_in state) command need e

-- ---- before the line of a number
abbrev pub StandsSecured : ℕ → SecuredState → Type 0
StandsSecured number state = StandsServing number state.serving

-- behind an empty line
pub passes_secured : (number : ℕ) (state : SecuredState) → StandsSecured number state → StandsSecured (number + 1) state
passes_secured number state = passes number state.serving.proposing

-- ---- the reply to a line
module _ (number : ℕ) (is_line : IsLine number) (state : SecuredState) (stands : StandsSecured number state) where
  abbrev exchange : ExchangeState
  exchange = exchange_in state

  -- where the state after it is sound
  abbrev IsServedNow : ServedReply × SecuredState → Type 0
  IsServedNow now = IsServedReply number now.0 × (IsSound now.1.serving.proposing → StandsSecured (number + 1) now.1)

  stays : StandsSecured (number + 1) state
  stays = passes_secured number state stands

  uncovered_served : (need : Need) → IsNeedWithin (told_need need) → IsServedReply number (uncovered_reply need)
  uncovered_served need is = proposal_text number (told.Uncovered (told_need need)) (is_line, is) tt

  no_account : IsServedReply number (refused_by (Exchange refusal.NoAccount))
  no_account = refusal_served number is_line exchange stands.exchange refusal.NoAccount ((omega arith, omega arith), refl)

  -- ---- an account that is to be secured
  done_served : (account : ℕ) → IsAccount account → (need : Need) → IsNeedWithin (told_need need) → IsServedReply number (secure_answered account (Ok need))
  done_served account own (Ok amount) is = proposal_text number (told.Secured account amount) (is_line, (own, is)) tt
  done_served account own (Err w) is = uncovered_served (Err w) is

  secure_by : (account : ℕ) → IsAccount account → (opened enough : Bool)
      → IsServedReply number (secure_answered account (option_map_or (λ refusal. Err refusal)
      (first_of ((not opened, Exchange refusal.NoAccount) ∷ (not enough, Uncovered (need_in exchange account)) ∷ [])) (Ok (need_in exchange account))))
  secure_by account own false enough = no_account
  secure_by account own true false = uncovered_served (need_in exchange account) (need_within exchange account)
  secure_by account own true true = done_served account own (need_in exchange account) (need_within exchange account)

  secure_served : (account : ℕ) → IsAccount account → IsServedNow (secure_reply state account)
  secure_served account own = (secure_by account own (is_open exchange.accounts account) (is_enough exchange account), λ sound. stays)

  -- ---- what an account needs
  need_by : (account : ℕ) → IsAccount account → (opened : Bool)
      → IsServedReply number (need_answered account (option_map_or (λ refusal. Err refusal) (first_of ((not opened, Exchange refusal.NoAccount) ∷ [])) (Ok (what_is_told state.secured exchange account))))
  need_by account own false = no_account
  need_by account own true =
      let small = balance_ranged number exchange stands.exchange is_line exchange account refl (later_ranged number (number + 1) exchange (omega arith) stands.exchange.ranged) in
      proposal_text number
      (told.Needs (record {
        account = account;
        balance = balance_of account exchange.entries;
        need = told_need (need_in exchange account);
        secured = is_secured state.secured account;
      }))
      (is_line, (own, small, need_within exchange account)) tt

  need_served : (account : ℕ) → IsAccount account → IsServedNow (need_reply state account, state)
  need_served account own = (need_by account own (is_open exchange.accounts account), λ sound. stays)

  -- ---- a line
  module _ (line : List ℕ) where
    abbrev asked : InputLine
    asked = record { number = number; bytes = line }

    handed_served : (said : Result Request Fault) → said_in SERVED line ≡ said → IsServedNow (handed_on state line said)
    handed_served said is =
        let now = serving_answers number is_line state.serving stands line in
        subst (λ (said : Result Request Fault). IsServedNow (handed_on state line said)) is (now.0, λ sound. now.1)

    withdrawn_served : (command : Command) → said_in SERVED line ≡ Ok (asks.Command command) → IsWithin command
        → (account amount : ℕ) → command ≡ Withdraw account amount → IsServedNow (withdrawn state account amount)
    withdrawn_served command says within account amount is =
        let out : Command = Withdraw account amount in
        let own : IsWithin out = subst IsWithin is within in
        let heard = subst (λ (c : Command). said_in SERVED line ≡ Ok (asks.Command c)) is says in (
          run_served number is_line exchange stands.exchange (body.Command out) own tt,
          λ sound. record {
            sound = sound;
            exchange = subst (λ (said : Body). IsStanding (number + 1) (reply_to exchange said).1) (command_to_run SERVED line out heard)
                (run_stands number state.serving.proposing asked stands.sound stands.exchange);
            kept = stands.kept;
          },
        )

    command_served : (command : Command) → said_in SERVED line ≡ Ok (asks.Command command) → IsWithin command
        → IsServedNow (command_reply state line command)
    command_served command says within =
        by_answer IsServedNow state line command
        (λ need kept. (uncovered_served need (kept_within state command need kept), λ sound. stays))
        (λ free account amount is own. withdrawn_served command says within account amount is)
        (λ free. handed_served (Ok (asks.Command command)) says)

    pub said_served : (said : Result Request Fault) → said_in SERVED line ≡ said → IfOk said RequestIsWithin → IsServedNow (secured_reply state line said)
    said_served =
        by_kind (λ said. said_in SERVED line ≡ said → IfOk said RequestIsWithin → IsServedNow (secured_reply state line said))
        (λ account is within. secure_served account within) (λ account is within. need_served account within) command_served
        (λ said other is within. subst IsServedNow (sym (other.handed state line)) (handed_served said is))

    pub secured_answers : IsServedText (secured_line number state line).0 × StandsSecured (number + 1) (secured_line number state line).1
    secured_answers =
        let now = said_served (said_in SERVED line) refl (said_is_within SERVED line) in (now.0, now.1 (secured_sound asked state stands.sound))
