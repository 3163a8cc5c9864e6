-- The legs of a node of the code as those of the search, each with what it does there.
use Rattle.std.specs.Prelude.{ℕ, ℤ, Bool, true, false, ◌≡◌, ◌+◌, ◌≤◌, List, [], ◌∷◌, length, map, get_or, pos, Result}
use Rattle.std.specs.List.{All}
use Rattle.exact_num.specs.declared.misfit.Wide.{Wide}
use Rattle.exact_num.specs.Fraction.{Fraction}
use Rattle.form.specs.declared.orders.Order.{Order}
use Rattle.form.specs.Payoff.{IsOnCount}
use Rattle.clearing_model.specs.Tree.{Sign}
use Rattle.sign_tree.specs.Legs.{FractionLeg}
use Rattle.sign_tree.specs.Left.{batch_legs, leg_as, legs_left}
use Rattle.sign_tree.specs.Read.{sign_of}
use Rattle.master_program.specs.Roles.{Role as ModelRole, Idle as ModelIdle, Covering as ModelCovering, Free as ModelFree, Above as ModelAbove, Below as ModelBelow, NodeLeg as ModelLeg}
pub use Rattle.master_program.specs.Roles.{is_free}
use Rattle.master_program.specs.Node.{if_covering}
use Rattle.master_program.specs.NodeSteps.{counted_role, add_by_role}
use Rattle.pricing_oracle.specs.declared.legs.Role.{Role}
use Rattle.pricing_oracle.specs.declared.legs.Role.TheVariants.{Idle, Covering, Free, Above, Below}
use Rattle.pricing_oracle.specs.declared.legs.NodeLeg.{NodeLeg}
use Rattle.pricing_oracle.specs.declared.legs.NodeLegsLeft.{NodeLegsLeft}
use Rattle.pricing_oracle.specs.declared.legs.SearchQuestion.{SearchQuestion}

abbrev pub role_as : Role → ModelRole
role_as Idle = ModelIdle
role_as Covering = ModelCovering
role_as Free = ModelFree
role_as Above = ModelAbove
role_as Below = ModelBelow

abbrev pub is_covering : ModelRole → Bool
is_covering ModelCovering = true
is_covering ModelIdle = false
is_covering ModelFree = false
is_covering ModelAbove = false
is_covering ModelBelow = false

abbrev pub is_signed : ModelRole → Bool
is_signed ModelAbove = true
is_signed ModelBelow = true
is_signed ModelIdle = false
is_signed ModelCovering = false
is_signed ModelFree = false

-- a leg with its role
pub record RoleLeg : Type 0 where
  pub role : ModelRole
  pub leg : FractionLeg

abbrev pub in_roles : List FractionLeg → List Sign → List RoleLeg
in_roles [] signs = []
in_roles (leg ∷ legs) [] = []
in_roles (leg ∷ legs) (sign ∷ signs) = (record { role = counted_role leg sign; leg = leg }) ∷ in_roles legs signs

-- what the node's rows and its split are read off
abbrev pub node_leg : RoleLeg → ModelLeg
node_leg l = record { role = l.role; option = l.leg.option }

-- ---- of the code
abbrev pub role_leg_as : {A : Type 0} → (A → Fraction) → NodeLeg A → RoleLeg
role_leg_as value l = record { role = role_as l.role; leg = leg_as value l.leg }

abbrev pub roles_left : {A : Type 0} → (A → Fraction) → NodeLegsLeft A → List RoleLeg
roles_left value left = in_roles (legs_left value left.legs) (map sign_of left.signs.now)

abbrev pub legs_asked : {A : Type 0} → (A → Fraction) → SearchQuestion A → List FractionLeg
legs_asked value asked = batch_legs value asked.orders.now asked.fills.now

-- a market on 1 to 8 underlyings, orders on just these, and a fill for each of them
pub record MayBeAsked {A : Type 0} (asked : SearchQuestion A) : Type 0 where
  pub some : 1 ≤ asked.underlyings
  pub few : asked.underlyings ≤ 8
  pub forms : All (λ (order : Order). IsOnCount (asked.underlyings + 1) order.bundle) asked.orders.now
  pub fills : length asked.fills.now ≡ length asked.orders.now

-- the total and what a leg earns at entry i
abbrev pub add_earned_by : ℕ → ℕ → Fraction → RoleLeg → Result Fraction Wide
add_earned_by limit i total l = add_by_role limit total l.role l.leg (get_or l.leg.option i (pos 0))

-- the covering legs
abbrev pub covering_of : List RoleLeg → List FractionLeg
covering_of [] = []
covering_of (l ∷ legs) = if_covering l.role l.leg (covering_of legs)

abbrev pub option_in : FractionLeg → List ℤ
option_in leg = leg.option
