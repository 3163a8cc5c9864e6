-- Secured accounts stay secured, and their balances at or above their true needs.
use Rattle.std.proofs.Common.{◌≡◌, [], ◌∷◌, ⊎_elim, sym, subst}
use Rattle.account_need.specs.Account.{portfolios}
use Rattle.account_need.proofs.Secured.{secured_can_pay as balance_can_pay}
use Rattle.cash_ledger.specs.Entries.{balance_of}
use Rattle.exchange_lines.specs.LineSteps.{InputLine}
use Rattle.proposal_lines.specs.Laws.{IsSound}
use Rattle.proposal_lines.proofs.Telling.{empty_is_sound}
use Rattle.secured_accounts.specs.Laws.{AreSafe}
use Rattle.secured_accounts.specs.Secured.{account_of}
use Rattle.secured_accounts.proofs.StayingSafe.{secured_stay_safe as events_stay_safe}
use Rattle.secured_lines.specs.Laws.{SecuredCanPay, SecuredStaySafe, ServedStaySafe, TradersCanPay, guarded_in, state_by_lines}
use Rattle.secured_lines.specs.Output.{secured_line}
use Rattle.secured_lines.specs.SecuredState.{SecuredState, empty_secured, exchange_in}
use Rattle.secured_lines.proofs.Moves.{Comes, IsEvent, line_comes}
use Rattle.secured_lines.proofs.Secured.{secured_stay_secured}
use Rattle.secured_lines.proofs.Telling.{secured_sound}

-- ---- one line
module _ (state : SecuredState) (line : InputLine) (sound : IsSound state.serving.proposing) (safe : AreSafe (guarded_in state)) where
  comes_safe : (after : SecuredState) → Comes state line sound after → AreSafe (guarded_in after)
  comes_safe after comes =
      ⊎_elim (λ (same : guarded_in after ≡ guarded_in state). subst AreSafe (sym same) safe)
      (λ (one : IsEvent state line sound after). subst AreSafe (sym one.does) (events_stay_safe (guarded_in state) (one.event ∷ []) sound.kept safe (one.may, tt))) comes

  pub line_safe : AreSafe (guarded_in (secured_line line.number state line.bytes).1)
  line_safe = comes_safe (secured_line line.number state line.bytes).1 (line_comes state line sound)

-- ---- all lines
pub secured_stay_safe : SecuredStaySafe
secured_stay_safe state [] is = is.safe
secured_stay_safe state (line ∷ lines) is =
    secured_stay_safe (secured_line line.number state line.bytes).1 lines
    (record { sound = secured_sound line state is.sound; safe = line_safe state line is.sound is.safe })

pub served_stay_safe : ServedStaySafe
served_stay_safe lines = secured_stay_safe empty_secured lines (record { sound = empty_is_sound; safe = λ account own. cc })

pub secured_can_pay : SecuredCanPay
secured_can_pay state lines is account own =
    let after = state_by_lines state lines in
    let safe = secured_stay_safe state lines is account (secured_stay_secured state lines account own) in
    balance_can_pay (portfolios (account_of (exchange_in after) account)) (balance_of account (exchange_in after).entries) safe.above

pub traders_can_pay : TradersCanPay
traders_can_pay state lines is all account trader opened =
    let after = state_by_lines state lines in
    let safe = secured_stay_safe state lines is account (all account trader opened) in
    balance_can_pay (portfolios (account_of (exchange_in after) account)) (balance_of account (exchange_in after).entries) safe.above
