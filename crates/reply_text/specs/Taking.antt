-- What is taken out of the value of a line.
use Rattle.std.specs.Prelude.{ℕ, List, [], ◌∷◌, ◌&&◌, nat_le, Option, Some, None, option_map, option_and_then, if◌then◌else◌}
use Rattle.serde_json.specs.Data.{Data, Items, no_items, item}
use Rattle.serde_json.specs.Find.{get, as_number, as_u64, as_array}

-- the number, where it is from low to high
abbrev pub from_to : ℕ → ℕ → ℕ → Option ℕ
from_to low high n = if nat_le low n && nat_le n high then Some n else None

abbrev pub natural_at : ℕ → ℕ → List ℕ → Data → Option ℕ
natural_at low high key d = option_and_then (from_to low high) (option_and_then as_u64 (option_and_then as_number (get key d)))

-- what is taken from each item
abbrev pub items_map : {A : Type 0} → (Data → Option A) → Items → Option (List A)
items_map take_out no_items = Some []
items_map take_out (item d ds) = option_and_then (λ x. option_map (λ xs. x ∷ xs) (items_map take_out ds)) (take_out d)

abbrev pub items_at : List ℕ → Data → Option Items
items_at key d = option_and_then as_array (get key d)

-- what is taken from each item of the list at a key
abbrev pub list_at : {A : Type 0} → List ℕ → (Data → Option A) → Data → Option (List A)
list_at key take_out d = option_and_then (items_map take_out) (items_at key d)

abbrev pub take_at : {A : Type 0} → List ℕ → (Data → Option A) → Data → Option A
take_at key take_out d = option_and_then take_out (get key d)
