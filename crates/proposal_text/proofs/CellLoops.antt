-- What is read of a cover by cells, an item at a time.
use Rattle.std.proofs.Common.{◌≡◌, ℕ, ◌+◌, List, [], ◌++◌, drop, Bool, true, false, Option, option_map}
use Rattle.cell_cover.specs.declared.cover.Multiplier.{Multiplier}
use Rattle.serde_json.specs.Data.{Items}
use Rattle.serde_json.specs.View.{items_view}
use Rattle.serde_json.specs.declared.value.Value.{Value}
use Rattle.proposal_text.specs.CellReading.{are_in_turn, classes_from, multipliers_from, multipliers_of}

-- ---- classes and multipliers in turn

module _ (vs : List Value) (i : ℕ) (next : Bool) where
  abbrev pub TurnsFrom : Type 0
  TurnsFrom = are_in_turn true (items_view vs) ≡ are_in_turn next (items_view (drop i vs))

-- ---- classes

module _ (vs : List Value) where
  abbrev pub RisesFrom : ℕ → ℕ → List ℕ → Type 0
  RisesFrom i last xs = classes_from 0 (items_view vs) ≡ option_map (λ ys. xs ++ ys) (classes_from last (items_view (drop i vs)))

-- ---- multipliers

-- what is left, where a class waits for its multiplier and where none does
abbrev pub left_from : Bool → ℕ → Items → Option (List Multiplier)
left_from true class ds = multipliers_of class ds
left_from false class ds = multipliers_from class ds

module _ (vs : List Value) where
  abbrev pub TakesFrom : ℕ → Bool → ℕ → List Multiplier → Type 0
  TakesFrom i is_open class ms = multipliers_from 0 (items_view vs) ≡ option_map (λ ys. ms ++ ys) (left_from is_open class (items_view (drop i vs)))
