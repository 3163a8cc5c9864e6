-- What the walk of the code answers, as what the walk of the definition does.
use Rattle.std.specs.Prelude.{ℕ, ◌-◌, ◌<◌, ◌≡◌, true, false, Bool, List, [], ◌∷◌, length, map, get_or, ℤ, pos, Result, Ok, Err}
use Rattle.exact_num.specs.declared.misfit.Wide.{Wide as Misfit}
use Rattle.exact_num.specs.Fraction.{Fraction}
use Rattle.frac.specs.Range.{limit}
use Rattle.clearing_model.specs.Tree.{Sign}
use Rattle.clearing_model.specs.Written.{WrittenNode, PlacedMultiplier}
use Rattle.sign_tree.specs.declared.closing.Left.{Left}
use Rattle.sign_tree.specs.declared.closing.WalkStop.{WalkStop}
use Rattle.sign_tree.specs.declared.closing.WalkStop.TheVariants.{Open as OpenStop, Wide as WideStop}
use Rattle.sign_tree.specs.declared.trees.TreeVerdict.{TreeVerdict}
use Rattle.sign_tree.specs.declared.trees.TreeVerdict.TheVariants.{Closed, Open, Wide}
use Rattle.sign_tree.specs.Read.{node_of, placed_of, sign_of}
use Rattle.sign_tree.specs.Walk.{FractionLeg, may_split, walk}

-- a long leg without a sign stands at the place, which is the index i
pub record IsSplit (legs : List FractionLeg) (signs : List ℤ) (place i : ℕ) : Type 0 where
  pub splits : may_split legs (map sign_of signs) place ≡ true
  pub index : place - 1 ≡ i
  pub within : i < length signs
  pub none : get_or signs i (pos 0) ≡ pos 0

-- the walk goes on over what is left, or it is open, or a step does not fit
abbrev pub goes_on : (List WrittenNode → List PlacedMultiplier → Result Bool Misfit) → Result Left WalkStop → Result Bool Misfit
goes_on next (Ok left) = next (map node_of left.nodes.now) (map placed_of left.multipliers.now)
goes_on next (Err OpenStop) = Ok false
goes_on next (Err (WideStop w)) = Err w

-- the walk over the subtree at the head of the lists goes on so, whatever subtrees are still to
-- come
abbrev pub WalksTo : ℕ → List FractionLeg → Fraction → List WrittenNode → List Sign → List PlacedMultiplier → Result Left WalkStop → Type 0
WalksTo n legs L nodes signs ms walked =
    (pending : List (List Sign))
    → walk limit n legs L nodes (signs ∷ pending) ms ≡ goes_on (λ nodes ms. walk limit n legs L nodes pending ms) walked

abbrev pub tree_verdict : Result Bool Misfit → TreeVerdict
tree_verdict (Ok true) = Closed
tree_verdict (Ok false) = Open
tree_verdict (Err w) = Wide w

-- whether neither nodes nor multipliers are left
abbrev pub is_nothing : List WrittenNode → List PlacedMultiplier → Bool
is_nothing [] [] = true
is_nothing [] (m ∷ ms) = false
is_nothing (node ∷ nodes) ms = false
