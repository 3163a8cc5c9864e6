-- Both sides of a split, one after the other.
use Rattle.std.proofs.Common.{◌≡◌, ℕ, false, List, ◌∷◌, map, set, get_or, ℤ, pos, negsuc, Ok, Err, refl, ap, sym, ◌∙◌}
use Rattle.std.proofs.lemmas.List.{map-set, set-set, set-get_or}
use Rattle.exact_num.specs.Fraction.{Fraction}
use Rattle.clearing_model.specs.Tree.{Sign}
use Rattle.clearing_model.specs.Written.{WrittenNode, SplitNode, PlacedMultiplier}
use Rattle.sign_tree.specs.declared.closing.WalkStop.{WalkStop}
use Rattle.sign_tree.specs.declared.closing.WalkStop.TheVariants.{Open as OpenStop, Wide as WideStop}
use Rattle.sign_tree.specs.Read.{sign_of}
use Rattle.sign_tree.specs.Walk.{FractionLeg, may_split, walk}
use Rattle.sign_tree.specs.Verdict.{IsSplit, goes_on}

-- a walk that ends does so whatever follows
pub ends_alike : (f g : List WrittenNode → List PlacedMultiplier → _) (e : WalkStop) → goes_on f (Err e) ≡ goes_on g (Err e)
ends_alike f g OpenStop = refl
ends_alike f g (WideStop w) = refl

-- the plus side is walked first, and then the minus side
pub plus_first : (limit n : ℕ) (legs : List FractionLeg) (L : Fraction) (ns : List WrittenNode) (ss : List ℤ) (pending : List (List Sign)) (ms : List PlacedMultiplier) (place i : ℕ)
    → IsSplit legs ss place i
    → walk limit n legs L (SplitNode place ∷ ns) (map sign_of ss ∷ pending) ms
    ≡ walk limit n legs L ns (map sign_of (set ss i (pos 1)) ∷ map sign_of (set ss i (negsuc 0)) ∷ pending) ms
plus_first limit n legs L ns ss pending ms place i split =
    rw (split.splits, split.index, map-set sign_of ss i (pos 1), map-set sign_of ss i (negsuc 0)) refl

pub no_split : (limit n : ℕ) (legs : List FractionLeg) (L : Fraction) (ns : List WrittenNode) (ss : List ℤ) (pending : List (List Sign)) (ms : List PlacedMultiplier) (place : ℕ)
    → may_split legs (map sign_of ss) place ≡ false
    → walk limit n legs L (SplitNode place ∷ ns) (map sign_of ss ∷ pending) ms ≡ Ok false
no_split limit n legs L ns ss pending ms place none = rw none refl

-- the signs of the two sides, and those that stand again at the end
pub minus_signs : (ss now : List ℤ) (i : ℕ) → now ≡ set ss i (pos 1) → set now i (negsuc 0) ≡ set ss i (negsuc 0)
minus_signs ss now i is = rw is (set-set ss i (pos 1) (negsuc 0))

pub signs_again : (ss now : List ℤ) (i : ℕ) → get_or ss i (pos 0) ≡ pos 0 → now ≡ set ss i (negsuc 0) → set now i (pos 0) ≡ ss
signs_again ss now i none is = rw is (set-set ss i (negsuc 0) (pos 0) ∙ ap (set ss i) (sym none) ∙ set-get_or ss i (pos 0))
