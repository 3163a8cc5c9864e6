-- An account that is secured stays secured.
use Rattle.std.proofs.Common.{◌≡◌, ℕ, Bool, true, false, ◌||◌, List, [], ◌∷◌, ◌++◌, Option, Some, None, Result, if◌then◌else◌, nat_eq, refl, sym, subst}
use Rattle.std.specs.Option.{option_map_or}
use Rattle.command_text.specs.declared.asked.Fault.{Fault}
use Rattle.command_text.specs.declared.requests.Request.{Request}
use Rattle.command_text.specs.declared.words.TheConstants.{SERVED}
use Rattle.command_text.specs.Said.{said_in}
use Rattle.lists.specs.Refusals.{first_of}
use Rattle.proposal_text.specs.declared.replies.ServedReply.{ServedReply}
use Rattle.secured_accounts.specs.Refusals.{secure_refusals}
use Rattle.secured_accounts.specs.Secured.{is_secured, with_secured}
use Rattle.secured_accounts.specs.declared.refusal.SecuringRefusal.{SecuringRefusal}
use Rattle.secured_lines.specs.Laws.{SecuredStaySecured}
use Rattle.secured_lines.specs.Output.{secured_line, secured_reply}
use Rattle.secured_lines.specs.SecuredState.{SecuredState, exchange_in}
use Rattle.secured_lines.proofs.LineKinds.{by_answer, by_kind}

-- ---- one account more
more_any : (account other : ℕ) (secured : List ℕ) → is_secured secured account ≡ true → is_secured (secured ++ other ∷ []) account ≡ true
more_any account other [] is = cc
more_any account other (one ∷ secured) is = by (nat_eq one account) (more_any account other secured) is
  where
    by : (b : Bool) → (is_secured secured account ≡ true → is_secured (secured ++ other ∷ []) account ≡ true)
        → (b || is_secured secured account) ≡ true → (b || is_secured (secured ++ other ∷ []) account) ≡ true
    by true later h = refl
    by false later h = later h

pub more_secured : (account other : ℕ) (secured : List ℕ) → is_secured secured account ≡ true → is_secured (with_secured secured other) account ≡ true
more_secured account other secured is = by (is_secured secured other)
  where
    by : (there : Bool) → is_secured (if there then secured else secured ++ other ∷ []) account ≡ true
    by true = is
    by false = more_any account other secured is

-- ---- one line
module _ (account : ℕ) (state : SecuredState) (line : List ℕ) (own : is_secured state.secured account ≡ true) where
  abbrev Stays : SecuredState → Type 0
  Stays after = is_secured after.secured account ≡ true

  secure_stays : (other : ℕ) (refused : Option SecuringRefusal) → is_secured (option_map_or (λ refusal. state.secured) refused (with_secured state.secured other)) account ≡ true
  secure_stays other None = more_secured account other state.secured own
  secure_stays other (Some refusal) = own

  pub said_stays : (said : Result Request Fault) → Stays (secured_reply state line said).1
  said_stays =
      by_kind (λ said. Stays (secured_reply state line said).1) (λ other. secure_stays other (first_of (secure_refusals (exchange_in state) other)))
      (λ other. own) (λ command. by_answer (λ now. Stays now.1) state line command (λ need kept. own) (λ free other amount is mine. own) (λ free. own))
      (λ said other. subst (λ (now : ServedReply × SecuredState). Stays now.1) (sym (other.handed state line)) own)

pub secured_stay_secured : SecuredStaySecured
secured_stay_secured state [] account own = own
secured_stay_secured state (line ∷ lines) account own =
    secured_stay_secured (secured_line line.number state line.bytes).1 lines account (said_stays account state line.bytes own (said_in SERVED line.bytes))
