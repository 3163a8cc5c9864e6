-- All balances sum to deposits less withdrawals, whatever lines come.
use Rattle.std.proofs.Common.{◌≡◌, List, [], ◌∷◌, ⊎_elim, sym, subst}
use Rattle.exchange_lines.specs.LineSteps.{InputLine}
use Rattle.proposal_lines.specs.Laws.{IsSound}
use Rattle.proposal_lines.proofs.Telling.{empty_is_sound}
use Rattle.secured_accounts.specs.Laws.{Guarded}
use Rattle.secured_accounts.specs.Money.{AddUp, IsAccountedFor}
use Rattle.secured_accounts.proofs.Money.{money_is_kept}
use Rattle.secured_lines.specs.Laws.{guarded_in, state_by_lines}
use Rattle.secured_lines.specs.Output.{secured_line}
use Rattle.secured_lines.specs.SecuredState.{SecuredState, empty_secured, exchange_in}
use Rattle.secured_lines.proofs.Moves.{IsEvent, line_comes}
use Rattle.secured_lines.proofs.Telling.{secured_sound}

abbrev Counted : Guarded → Type 0
Counted state = IsAccountedFor state.exchange

pub line_counted : (state : SecuredState) (line : InputLine) → IsSound state.serving.proposing → Counted (guarded_in state) → Counted (guarded_in (secured_line line.number state line.bytes).1)
line_counted state line sound all =
    let after = (secured_line line.number state line.bytes).1 in
    ⊎_elim (λ (same : guarded_in after ≡ guarded_in state). subst Counted (sym same) all)
    (λ (one : IsEvent state line sound after). subst Counted (sym one.does) (money_is_kept.keeps (guarded_in state) one.event sound.kept one.may all)) (line_comes state line sound)

counted : (state : SecuredState) (lines : List InputLine) → IsSound state.serving.proposing → Counted (guarded_in state) → Counted (guarded_in (state_by_lines state lines))
counted state [] sound all = all
counted state (line ∷ lines) sound all = counted (secured_line line.number state line.bytes).1 lines (secured_sound line state sound) (line_counted state line sound all)

pub served_add_up : (lines : List InputLine) → AddUp (exchange_in (state_by_lines empty_secured lines))
served_add_up lines = money_is_kept.sums (exchange_in (state_by_lines empty_secured lines)) (counted empty_secured lines empty_is_sound money_is_kept.first)
