-- Looking into the value of a line.
use Rattle.std.specs.Prelude.{◌≡◌, ℕ, List, [], Bool, true, false, ◌&&◌, ◌==◌, nat_le, option_map, option_and_then, unwrap_or, is_some}
use Rattle.std.specs.Str.{bytes_eq}
use Rattle.serde_json.specs.Data.{Data, Items, no_items, item}
use Rattle.serde_json.specs.Events.{items_len, members_len}
use Rattle.serde_json.specs.View.{view}
use Rattle.serde_json.specs.declared.value.Value.{Value}
use denote.Ref.{Bor}
use Rattle.serde_json.specs.Find.{get, as_number, as_u64, as_integer, as_str, as_array, as_object}

-- what a test of values answers is what the one of this definition does
abbrev pub Decides : (Bor Value → Bool → Type 0) → (Data → Bool) → Type 0
Decides answers test = (value : Bor Value) (answer : Bool) → answers value answer → answer ≡ test (view value.now)

-- an object with this many members
abbrev pub has_members : ℕ → Data → Bool
has_members n d = unwrap_or (option_map (λ ms. members_len ms == n) (as_object d)) false

-- the key is there, and its value passes a test
abbrev pub has_at : List ℕ → (Data → Bool) → Data → Bool
has_at key passes d = unwrap_or (option_map passes (get key d)) false

-- a whole number of 64 bits
abbrev pub is_whole : Data → Bool
is_whole d = is_some (option_and_then as_integer (as_number d))

abbrev pub is_text : Data → Bool
is_text d = is_some (as_str d)

abbrev pub is_word : List ℕ → Data → Bool
is_word word d = unwrap_or (option_map (bytes_eq word) (as_str d)) false

-- the text at a key, empty where there is none
abbrev pub word_at : List ℕ → Data → List ℕ
word_at key d = unwrap_or (option_and_then as_str (get key d)) []

-- the natural number at a key, 0 where there is none
abbrev pub number_at : List ℕ → Data → ℕ
number_at key d = unwrap_or (option_and_then as_u64 (option_and_then as_number (get key d))) 0

abbrev pub items_all : (Data → Bool) → Items → Bool
items_all passes no_items = true
items_all passes (item d ds) = passes d && items_all passes ds

-- a list whose items pass a test
abbrev pub is_list : (Data → Bool) → Data → Bool
is_list passes d = unwrap_or (option_map (items_all passes) (as_array d)) false

abbrev pub length_between : ℕ → ℕ → Data → Bool
length_between low high d = unwrap_or (option_map (λ ds. nat_le low (items_len ds) && nat_le (items_len ds) high) (as_array d)) false

-- with from low to high items
abbrev pub is_list_of : ℕ → ℕ → (Data → Bool) → Data → Bool
is_list_of low high passes d = is_list passes d && length_between low high d
