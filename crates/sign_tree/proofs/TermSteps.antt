-- The legs with their signs and multipliers, one after another.
use Rattle.std.proofs.Common.{◌≡◌, ℕ, ◌+◌, ◌<◌, ◌≤◌, List, [], ◌∷◌, length, get_or, map, drop, ℤ, pos, refl}
use Rattle.arithmetic.proofs.Lists.{drop_map_end}
use Rattle.clearing_model.specs.Written.{PlacedMultiplier}
use Rattle.sign_tree.specs.Read.{sign_of}
use Rattle.sign_tree.specs.Walk.{FractionLeg, first_at, left_after, signed_legs}
use Rattle.sign_tree.proofs.LegLists.{signs_drop}

-- the first leg has the sign at j
pub signed_first : (place : ℕ) (legs : List FractionLeg) (ss : List ℤ) (ms : List PlacedMultiplier) (j : ℕ) (leg : FractionLeg) (rest : List FractionLeg) (s : ℤ)
    → legs ≡ leg ∷ rest → j < length ss → s ≡ get_or ss j (pos 0)
    → signed_legs place legs (drop j (map sign_of ss)) ms
    ≡ record { leg = leg; sign = sign_of s; by = first_at place ms } ∷ signed_legs (place + 1) rest (drop (j + 1) (map sign_of ss)) (left_after place ms)
signed_first place legs ss ms j leg rest s is lt sign = rw (is, signs_drop ss j s lt sign) refl

pub signed_end : (place : ℕ) (legs : List FractionLeg) (ss : List ℤ) (ms : List PlacedMultiplier) (j : ℕ) → length ss ≤ j → signed_legs place legs (drop j (map sign_of ss)) ms ≡ []
signed_end place legs ss ms j le = rw (drop_map_end sign_of ss j le) (unsigned legs)
  where
    unsigned : (legs : List FractionLeg) → signed_legs place legs [] ms ≡ []
    unsigned [] = refl
    unsigned (leg ∷ legs) = refl
