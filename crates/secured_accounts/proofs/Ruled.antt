-- What the rule lets through: an account that a command could harm has enough once it is carried
-- out, and so has one that is secured.
use Rattle.std.proofs.Common.{◌≡◌, ℕ, Bool, true, false, not, ◌&&◌, ◌||◌, ◌⊎◌, inl, inr, List, [], ◌∷◌, ◌++◌, is_none, Option, Some, None, if◌then◌else◌, nat_eq, refl, sym, ap, ◌∙◌}
use Rattle.std.specs.Option.{option_map_or}
use Rattle.std.proofs.lemmas.Bool.{eqb-true}
use Rattle.cash_ledger.specs.Ledger.{is_open}
use Rattle.lists.specs.Refusals.{first_of}
use Rattle.command_text.specs.declared.command.Command.{Command}
use Rattle.exchange_core.specs.declared.refusal.Refusal.TheVariants.{NoAccount}
use Rattle.exchange_core.specs.ExchangeState.{ExchangeState}
use Rattle.exchange_core.specs.Refusals.{refusal_of}
use Rattle.exchange_core.specs.Step.{effect}
use Rattle.account_need.specs.Account.{Need}
use Rattle.secured_accounts.specs.Refusals.{secure_refusals}
use Rattle.secured_accounts.specs.Secured.{is_enough, is_secured, need_above, need_in, uncovered_by, with_secured}
use Rattle.secured_accounts.specs.declared.refusal.SecuringRefusal.TheVariants.{Exchange, Uncovered}

-- ---- a command
-- whether a command could harm the account
abbrev pub harms : ℕ → Option ℕ → Bool
harms account risked = option_map_or (λ other. nat_eq other account) risked false

not_above : (enough : Bool) (need : Need) → (if enough then None else Some need) ≡ None → enough ≡ true
not_above true need none = refl
not_above false need none = cc

module _ (secured : List ℕ) (state : ExchangeState) (command : Command) (account : ℕ) (own : is_secured secured account ≡ true) (accepted : refusal_of state command ≡ None) where
  asked : (is_secured secured account && is_none (refusal_of state command)) ≡ true
  asked = ap (λ b. b && is_none (refusal_of state command)) own ∙ ap is_none accepted

  enough_by : uncovered_by secured state command account ≡ None → is_enough (effect state command).1 account ≡ true
  enough_by none =
      not_above (is_enough (effect state command).1 account) (need_in (effect state command).1 account)
      (sym (ap (λ b. if b then need_above (effect state command).1 account else None) asked) ∙ none)

  pub enough_after : (risked : Option ℕ) → option_map_or (uncovered_by secured state command) risked None ≡ None → harms account risked ≡ true → is_enough (effect state command).1 account ≡ true
  enough_after None none harmed = cc
  enough_after (Some other) none harmed = enough_by (ap (uncovered_by secured state command) (sym (eqb-true other account harmed)) ∙ none)

-- ---- an account that is to be secured
pub secured_enough : (state : ExchangeState) (account : ℕ) → first_of (secure_refusals state account) ≡ None → is_enough state account ≡ true
secured_enough state account none = by (is_open state.accounts account) (is_enough state account) none
  where
    by : (opened enough : Bool) → (if not opened then Some (Exchange NoAccount) else if not enough then Some (Uncovered (need_in state account)) else None) ≡ None → enough ≡ true
    by false enough h = cc
    by true true h = refl
    by true false h = cc

-- it is secured, or was before
last_any : (account : ℕ) (secured : List ℕ) (new : ℕ) → is_secured (secured ++ new ∷ []) account ≡ true → (is_secured secured account ≡ true) ⊎ (new ≡ account)
last_any account [] new is = by (nat_eq new account) refl is
  where
    by : (b : Bool) → nat_eq new account ≡ b → (b || false) ≡ true → (false ≡ true) ⊎ (new ≡ account)
    by true at h = inr (eqb-true new account at)
    by false at h = absurd (cc)
last_any account (other ∷ secured) new is = by (nat_eq other account) is (last_any account secured new)
  where
    by : (b : Bool) → (b || is_secured (secured ++ new ∷ []) account) ≡ true
        → (is_secured (secured ++ new ∷ []) account ≡ true → (is_secured secured account ≡ true) ⊎ (new ≡ account))
        → ((b || is_secured secured account) ≡ true) ⊎ (new ≡ account)
    by true h later = inl refl
    by false h later = later h

pub secured_or_new : (account : ℕ) (secured : List ℕ) (new : ℕ) → is_secured (with_secured secured new) account ≡ true → (is_secured secured account ≡ true) ⊎ (new ≡ account)
secured_or_new account secured new = by (is_secured secured new)
  where
    by : (there : Bool) → is_secured (if there then secured else secured ++ new ∷ []) account ≡ true → (is_secured secured account ≡ true) ⊎ (new ≡ account)
    by true is = inl is
    by false is = last_any account secured new is
