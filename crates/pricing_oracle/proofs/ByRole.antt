-- What is read off the legs of a node with their signs is read off the legs with their roles.
use Rattle.std.proofs.Common.{◌≡◌, ℕ, zero, suc, ◌<◌, ◌≤◌, List, [], ◌∷◌, length, map, get_or, pos, true, arith, ℤ, refl, ap, ◌∙◌}
use Rattle.std.specs.Prelude.{Result, Ok, Err}
use Rattle.std.proofs.lemmas.List.{length-map}
use Rattle.exact_num.specs.declared.misfit.Wide.{Wide}
use Rattle.exact_num.specs.Fraction.{Fraction}
use Rattle.exact_num.specs.Fits.{after}
use Rattle.exact_num.specs.Steps.{fold_steps}
use Rattle.clearing_model.specs.Tree.{Sign}
use Rattle.sign_tree.specs.Legs.{FractionLeg}
use Rattle.sign_tree.specs.Read.{sign_of}
use Rattle.master_program.specs.NodeSteps.{add_all_earned, add_by_role, counted_node, counted_role, covering_legs}
use Rattle.master_program.specs.Roles.{Role, Idle, Covering, Free, Above, Below, values}
use Rattle.master_program.specs.Node.{covers_of, if_covering}
use Rattle.pricing_oracle.specs.Nodes.{RoleLeg, add_earned_by, covering_of, in_roles, is_covering, node_leg, option_in}

-- what follows a step alike
after_alike : {A B : Type 0} (r : Result A Wide) (f g : A → Result B Wide) → ((a : A) → f a ≡ g a) → after r f ≡ after r g
after_alike (Ok a) f g h = h a
after_alike (Err w) f g h = refl

pub earned_is : (limit i : ℕ) (total : Fraction) (legs : List FractionLeg) (signs : List Sign) → add_all_earned limit total i legs signs ≡ fold_steps (add_earned_by limit i) total (in_roles legs signs)
unfolding add_all_earned
earned_is limit i total [] signs = refl
earned_is limit i total (leg ∷ legs) [] = refl
earned_is limit i total (leg ∷ legs) (sign ∷ signs) =
    after_alike (add_by_role limit total (counted_role leg sign) leg (get_or leg.option i (pos 0))) (λ sum. add_all_earned limit sum i legs signs) (λ sum. fold_steps (add_earned_by limit i) sum (in_roles legs signs))
    (λ sum. earned_is limit i sum legs signs)

pub node_is : (legs : List FractionLeg) (signs : List Sign) → counted_node legs signs ≡ map node_leg (in_roles legs signs)
node_is [] signs = refl
node_is (leg ∷ legs) [] = refl
node_is (leg ∷ legs) (sign ∷ signs) = ap (λ rest. (record { role = counted_role leg sign; option = leg.option }) ∷ rest) (node_is legs signs)

pub covering_is : (legs : List FractionLeg) (signs : List Sign) → covering_legs legs signs ≡ covering_of (in_roles legs signs)
covering_is [] signs = refl
covering_is (leg ∷ legs) [] = refl
covering_is (leg ∷ legs) (sign ∷ signs) = ap (if_covering (counted_role leg sign) leg) (covering_is legs signs)

-- without signs there is no leg of a node
pub no_signs : (legs : List FractionLeg) (ss : List ℤ) → length ss ≡ 0 → in_roles legs (map sign_of ss) ≡ []
no_signs [] ss h = refl
no_signs (leg ∷ legs) [] h = refl
no_signs (leg ∷ legs) (s ∷ ss) h = absurd (omega (arith, h))

-- a covering leg comes first, and no other one counts
pub covering_first : (all : List RoleLeg) (l : RoleLeg) (legs : List RoleLeg) → all ≡ l ∷ legs → is_covering l.role ≡ true → covering_of all ≡ l.leg ∷ covering_of legs
covering_first all l legs is h = ap covering_of is ∙ go l.role h
  where
    go : (role : Role) → is_covering role ≡ true → if_covering role l.leg (covering_of legs) ≡ l.leg ∷ covering_of legs
    go Covering h = refl
    go Idle h = cc
    go Free h = cc
    go Above h = cc
    go Below h = cc

pub value_at : {A : Type 0} (f : ℕ → A) (m i : ℕ) (d : A) → i < m → get_or (values f m) i d ≡ f i
value_at f zero i d lt = absurd (omega arith)
value_at f (suc m) zero d lt = refl
value_at f (suc m) (suc i) d lt = value_at (λ i. f (suc i)) m i d (omega arith)

-- the options of the covering legs are those of the node's rows
pub covers_are : (legs : List RoleLeg) → covers_of (map node_leg legs) ≡ map option_in (covering_of legs)
covers_are [] = refl
covers_are (l ∷ legs) = go l.role (covers_are legs)
  where
    go : (role : Role) → covers_of (map node_leg legs) ≡ map option_in (covering_of legs) → if_covering role l.leg.option (covers_of (map node_leg legs)) ≡ map option_in (if_covering role l.leg (covering_of legs))
    go Covering h = ap (λ rest. l.leg.option ∷ rest) h
    go Idle h = h
    go Free h = h
    go Above h = h
    go Below h = h

pub covers_in : (legs : List FractionLeg) (signs : List Sign) → covers_of (counted_node legs signs) ≡ map option_in (covering_of (in_roles legs signs))
covers_in legs signs = ap covers_of (node_is legs signs) ∙ covers_are (in_roles legs signs)

pub cover_count_is : (legs : List FractionLeg) (signs : List Sign) → length (covers_of (counted_node legs signs)) ≡ length (covering_of (in_roles legs signs))
cover_count_is legs signs = ap length (covers_in legs signs) ∙ length-map (covering_of (in_roles legs signs)) option_in

-- no more legs cover than have signs
pub few_cover : (legs : List FractionLeg) (ss : List ℤ) → length (covering_of (in_roles legs (map sign_of ss))) ≤ length ss
few_cover [] ss = omega arith
few_cover (leg ∷ legs) [] = omega arith
few_cover (leg ∷ legs) (s ∷ ss) = go (counted_role leg (sign_of s)) (few_cover legs ss)
  where
    go : (role : Role) → length (covering_of (in_roles legs (map sign_of ss))) ≤ length ss → length (if_covering role leg (covering_of (in_roles legs (map sign_of ss)))) ≤ suc (length ss)
    go Covering h = omega (arith, h)
    go Idle h = omega (arith, h)
    go Free h = omega (arith, h)
    go Above h = omega (arith, h)
    go Below h = omega (arith, h)

-- no more legs have roles than have signs
pub few_roles : (legs : List FractionLeg) (ss : List ℤ) → length (in_roles legs (map sign_of ss)) ≤ length ss
few_roles [] ss = omega arith
few_roles (leg ∷ legs) [] = omega arith
few_roles (leg ∷ legs) (s ∷ ss) = omega (arith, few_roles legs ss)
