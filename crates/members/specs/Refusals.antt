-- The refusals of the rule, each with its condition, in the order in which they are tried.
use Rattle.std.specs.Prelude.{ℕ, Bool, not, List, [], ◌∷◌}
use Rattle.command_text.specs.declared.requests.Request.{Request}
use Rattle.exchange_core.specs.ExchangeState.{ExchangeState}
use Rattle.members.specs.Members.{MembersState, is_allowed, is_over}
use Rattle.members.specs.declared.refusal.MemberRefusal.{MemberRefusal}
use Rattle.members.specs.declared.refusal.MemberRefusal.TheVariants.{NotAllowed, Quota}

-- the numbers in reply lines
abbrev pub number_of : MemberRefusal → ℕ
number_of NotAllowed = 25
number_of Quota = 27

-- of what a session says as a message
abbrev pub rule_refusals : MembersState → ExchangeState → ℕ → Request → List (Bool × MemberRefusal)
rule_refusals members exchange session request =
    (not (is_allowed members.owners session request), NotAllowed)
    ∷ (is_over members exchange session request, Quota)
    ∷ []
