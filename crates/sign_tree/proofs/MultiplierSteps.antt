-- The multipliers of a leaf, one after another.
use Rattle.std.proofs.Common.{◌≡◌, ℕ, ◌+◌, ◌<◌, ◌≤◌, Bool, true, false, List, ◌∷◌, length, get_or, map, drop, arith, Result, Ok, Err, refl}
use Rattle.std.specs.Prelude.{nat_lt}
use Rattle.std.specs.List.{list_all}
use Rattle.std.proofs.lemmas.Bool.Decides.{nat_tests}
use Rattle.arithmetic.proofs.Lists.{drop_map}
use Rattle.exact_num.specs.declared.misfit.Wide.{Wide}
use Rattle.exact_num.specs.Steps.{all_of}
use Rattle.clearing_model.specs.Written.{PlacedMultiplier}
use Rattle.sign_tree.specs.declared.trees.Multiplier.{Multiplier}
use Rattle.sign_tree.specs.Read.{placed_of}
use Rattle.sign_tree.specs.Walk.{places_rise}

-- m stands at j
pub record IsNext (ms : List Multiplier) (j : ℕ) (m : Multiplier) : Type 0 where
  pub within : j < length ms
  pub is : m ≡ get_or ms j m

there : (ms : List Multiplier) (j : ℕ) (m : Multiplier) → IsNext ms j m → drop j (map placed_of ms) ≡ placed_of m ∷ drop (j + 1) (map placed_of ms)
there ms j m at = drop_map placed_of ms j m at.within at.is

-- ---- places that rise
pub rise_ends : (ms : List Multiplier) (j last : ℕ) (m : Multiplier) → IsNext ms j m → m.place ≤ last → places_rise last (drop j (map placed_of ms)) ≡ false
rise_ends ms j last m at le =
    let test : nat_lt last m.place ≡ false = grind (arith, nat_tests) in
    rw (there ms j m at, test) refl

pub rise_on : (ms : List Multiplier) (j last : ℕ) (m : Multiplier) → IsNext ms j m → last < m.place → places_rise last (drop j (map placed_of ms)) ≡ places_rise m.place (drop (j + 1) (map placed_of ms))
rise_on ms j last m at lt =
    let test : nat_lt last m.place ≡ true = grind (arith, nat_tests) in
    rw (there ms j m at, test) refl

-- ---- a test of each
pub all_ends : (test : PlacedMultiplier → Bool) (ms : List Multiplier) (j : ℕ) (m : Multiplier) → IsNext ms j m → test (placed_of m) ≡ false → list_all test (drop j (map placed_of ms)) ≡ false
all_ends test ms j m at fails = rw (there ms j m at, fails) refl

pub all_on : (test : PlacedMultiplier → Bool) (ms : List Multiplier) (j : ℕ) (m : Multiplier) → IsNext ms j m → test (placed_of m) ≡ true → list_all test (drop j (map placed_of ms)) ≡ list_all test (drop (j + 1) (map placed_of ms))
all_on test ms j m at holds = rw (there ms j m at, holds) refl

-- and one whose steps may not fit
pub steps_end : (test : PlacedMultiplier → Result Bool Wide) (ms : List Multiplier) (j : ℕ) (m : Multiplier) → IsNext ms j m → test (placed_of m) ≡ Ok false → all_of test (drop j (map placed_of ms)) ≡ Ok false
steps_end test ms j m at fails = rw (there ms j m at, fails) refl

pub steps_stop : (test : PlacedMultiplier → Result Bool Wide) (ms : List Multiplier) (j : ℕ) (m : Multiplier) (w : Wide) → IsNext ms j m → test (placed_of m) ≡ Err w → all_of test (drop j (map placed_of ms)) ≡ Err w
steps_stop test ms j m w at err = rw (there ms j m at, err) refl

pub steps_on : (test : PlacedMultiplier → Result Bool Wide) (ms : List Multiplier) (j : ℕ) (m : Multiplier) → IsNext ms j m → test (placed_of m) ≡ Ok true → all_of test (drop j (map placed_of ms)) ≡ all_of test (drop (j + 1) (map placed_of ms))
steps_on test ms j m at holds = rw (there ms j m at, holds) refl
