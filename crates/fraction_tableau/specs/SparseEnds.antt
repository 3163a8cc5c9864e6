-- Where the parts of a list end, which lie one behind another.
use Rattle.std.specs.Prelude.{◌≡◌, ℕ, ◌<◌, ◌≤◌, List, ◌∷◌, length, slice_index_or}

-- part i goes from the end before it, or `start`, up to its own; the last ends at `last`
abbrev pub AreEnds : ℕ → List ℕ → ℕ → Type 0
AreEnds start ends last =
    ((i : ℕ) → i < length ends → slice_index_or (start ∷ ends) i 0 ≤ slice_index_or ends i 0)
    × (slice_index_or (start ∷ ends) (length ends) 0 ≡ last)
