-- How the whole walk ends.
use Rattle.std.proofs.Common.{◌≡◌, ℕ, ◌<◌, Bool, List, [], ◌∷◌, length, map, get_or, ℤ, pos, Result, Ok, Err, refl, sym, ◌∙◌}
use Rattle.std.proofs.lemmas.List.{length-map}
use Rattle.exact_num.specs.declared.misfit.Wide.{Wide}
use Rattle.frac.specs.declared.frac128.Frac128.{Frac128}
use Rattle.frac.specs.Value.{fraction_of}
use Rattle.form.specs.declared.orders.Order.{Order}
use Rattle.sign_tree.specs.declared.trees.Node.{Node}
use Rattle.sign_tree.specs.declared.trees.Multiplier.{Multiplier}
use Rattle.sign_tree.specs.Read.{node_of, placed_of, sign_of}
use Rattle.sign_tree.proofs.LegLists.{none_signed, length-fraction_legs}
use Rattle.sign_tree.specs.Left.{batch_legs}
use Rattle.exact_num.specs.Fraction.{Fraction}
use Rattle.clearing_model.specs.Written.{WrittenNode, PlacedMultiplier}
use Rattle.sign_tree.specs.Legs.{leg_count}
use Rattle.sign_tree.specs.Walk.{FractionLeg, walk, closes_of}
use Rattle.sign_tree.specs.declared.closing.Left.{Left}
use Rattle.sign_tree.specs.declared.closing.WalkStop.{WalkStop}
use Rattle.sign_tree.specs.declared.closing.WalkStop.TheVariants.{Open as OpenStop, Wide as WideStop}
use Rattle.sign_tree.specs.Verdict.{goes_on, is_nothing}

-- with no subtree to come the walk is closed where nothing is left, and else open
pub walk_ends : (limit n : ℕ) (legs : List FractionLeg) (L : Fraction) (nodes : List WrittenNode) (ms : List PlacedMultiplier) → walk limit n legs L nodes [] ms ≡ Ok (is_nothing nodes ms)
walk_ends limit n legs L [] [] = refl
walk_ends limit n legs L [] (m ∷ ms) = refl
walk_ends limit n legs L (node ∷ nodes) ms = refl

pub ends_so : (limit n : ℕ) (legs : List FractionLeg) (L : Fraction) (walked : Result Left WalkStop) → goes_on (λ nodes ms. walk limit n legs L nodes [] ms) walked ≡ goes_on (λ nodes ms. Ok (is_nothing nodes ms)) walked
ends_so limit n legs L (Ok left) = walk_ends limit n legs L (map node_of left.nodes.now) (map placed_of left.multipliers.now)
ends_so limit n legs L (Err OpenStop) = refl
ends_so limit n legs L (Err (WideStop w)) = refl

-- the walk with no sign is the whole one
pub closes_is : (limit k n : ℕ) (os' os : List Order) (fs : List Frac128) (L : Fraction) (ns' ns : List Node) (ms' ms : List Multiplier) (ss : List ℤ) (x : Result Bool Wide)
    → k ≡ n → os' ≡ os → ns' ≡ ns → ms' ≡ ms → length fs ≡ length os → length ss ≡ leg_count os → ((i : ℕ) → i < length ss → get_or ss i (pos 0) ≡ pos 0)
    → walk limit k (batch_legs fraction_of os' fs) L (map node_of ns') (map sign_of ss ∷ []) (map placed_of ms') ≡ x
    → closes_of limit n (batch_legs fraction_of os fs) L (map node_of ns) (map placed_of ms) ≡ x
closes_is limit k n os' os fs L ns' ns ms' ms ss x ek eo en em fills signs each h =
    let legs : length (batch_legs fraction_of os fs) ≡ length ss = length-fraction_legs os (map fraction_of fs) (length-map fs fraction_of ∙ fills) ∙ sym signs in
    rw (legs, ← none_signed ss each, ← ek, ← eo, ← en, ← em) h
