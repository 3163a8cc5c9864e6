-- Whole vectors: options as lists of whole numbers, states as lists of natural numbers, bundles of
-- options, and what they pay. This file names no struct, so that ghost fields may cite it.
use Rattle.std.specs.Prelude.{ℕ, ◌+◌, ◌≡◌, ◌<◌, ◌≤◌, Bool, true, false, ◌&&◌, List, [], ◌∷◌, length, map, drop, get_or, ℤ, pos, neg_ℤ, ◌+ℤ◌, ◌*ℤ◌}
use Rattle.std.specs.Ordering.{int_eq}
use Rattle.std.specs.List.{sum, All}
pub use Rattle.arithmetic.specs.Sums.{positive_part}

-- an option on n underlyings is a whole vector of n + 1 entries: the call with strike K and weights
-- w is (-K, w)
abbrev pub call_of : ℤ → List ℤ → List ℤ
call_of K w = neg_ℤ K ∷ w

-- and the put is (K, -w)
abbrev pub put_of : ℤ → List ℤ → List ℤ
put_of K w = K ∷ map neg_ℤ w

-- the strike's entry of an option, and the weights
abbrev pub strike_entry : List ℤ → ℤ
strike_entry v = get_or v 0 (pos 0)

abbrev pub weights_of : List ℤ → List ℤ
weights_of v = drop 1 v

-- a state of n underlyings: a whole vector (t, s) with no entry below 0 and some entry above 0.
-- With t above 0 it is the settlement at the prices s / t, and with t at 0 a ray
abbrev pub IsState : ℕ → List ℕ → Type 0
IsState n z = (length z ≡ n + 1) × (0 < sum z)

-- the entry t of a state (t, s)
abbrev pub scale_of : List ℕ → ℕ
scale_of [] = 0
scale_of (t ∷ s) = t

-- the scalar product of an option and a state with as many entries
abbrev pub dot : List ℤ → List ℕ → ℤ
dot [] z = pos 0
dot (a ∷ v) [] = pos 0
dot (a ∷ v) (x ∷ z) = (a *ℤ pos x) +ℤ dot v z

-- what the option v pays at z = (t, s): t times its payoff at the prices s / t
abbrev pub payoff : List ℤ → List ℕ → ℕ
payoff v z = positive_part (dot v z)

-- a leg of a bundle: an option, and how often it counts
pub record BundleLeg : Type 0 where
  pub count : ℤ
  pub option : List ℤ

-- a bundle on n underlyings: one to four legs, each counted and with n + 1 entries
abbrev pub IsBundle : ℕ → List BundleLeg → Type 0
IsBundle n legs =
    (1 ≤ length legs)
    × (length legs ≤ 4)
    × All (λ (leg : BundleLeg). (leg.count ≡ pos 0 → ⊥) × (length leg.option ≡ n + 1)) legs

-- the bundle of one option that counts once
abbrev pub one : List ℤ → List BundleLeg
one v = record { count = pos 1; option = v } ∷ []

-- the sum over the legs of count times p of the option
abbrev pub over_legs : (List ℤ → ℕ) → List BundleLeg → ℤ
over_legs p [] = pos 0
over_legs p (leg ∷ legs) = (leg.count *ℤ pos (p leg.option)) +ℤ over_legs p legs

-- what a bundle pays at a state; it may be below 0
abbrev pub bundle_payoff : List BundleLeg → List ℕ → ℤ
bundle_payoff bundle z = over_legs (λ v. payoff v z) bundle

-- ---- equality, as a test
-- whether two options are the same
abbrev pub is_same_option : List ℤ → List ℤ → Bool
is_same_option [] [] = true
is_same_option [] (b ∷ v) = false
is_same_option (a ∷ u) [] = false
is_same_option (a ∷ u) (b ∷ v) = int_eq a b && is_same_option u v

-- whether two bundles have the same legs
abbrev pub is_same_bundle : List BundleLeg → List BundleLeg → Bool
is_same_bundle [] [] = true
is_same_bundle [] (leg ∷ legs) = false
is_same_bundle (leg ∷ legs) [] = false
is_same_bundle (a ∷ legs) (b ∷ others) =
    int_eq a.count b.count && is_same_option a.option b.option && is_same_bundle legs others
