-- The shapes of lines that tell quotes, prices and margins, and whether their texts are numbers or
-- words.
use Rattle.std.specs.Prelude.{List, ℕ, Bool, ◌&&◌, ◌||◌, codes, if◌then◌else◌}
use Rattle.std.specs.Str.{bytes_eq}
use Rattle.serde_json.specs.Data.{Data}
use Rattle.reply_print.specs.ClearedShape.{is_state}
use Rattle.reply_print.specs.Look.{has_members, has_at, is_whole, is_text, is_word, is_list, word_at}
use Rattle.reply_print.specs.NumberTexts.{is_whole_number, is_fraction}

-- ---- shapes

-- two prices of a market, among so many members
abbrev pub prices_shape : ℕ → Data → Bool
prices_shape members d =
    has_members members d
    && (has_at (codes "ask") is_text d && (has_at (codes "bid") is_text d && (has_at (codes "line") is_whole d && has_at (codes "market") is_whole d)))

abbrev pub priced_shape : Data → Bool
priced_shape d = prices_shape 6 d && has_at (codes "quantity") is_whole d

-- a margin that is told by its word alone
abbrev pub is_bare : List ℕ → Bool
is_bare word = bytes_eq word (codes "wide") || bytes_eq word (codes "budget")

-- else with a state
abbrev pub has_its_state : List ℕ → Data → Bool
has_its_state word d = if is_bare word then has_members 5 d else has_members 6 d && has_at (codes "at") is_state d

abbrev pub margin_shape : Data → Bool
margin_shape d =
    has_at (codes "margin") is_text d
    && (has_its_state (word_at (codes "margin") d) d
    && (has_at (codes "account") is_whole d && (has_at (codes "line") is_whole d && has_at (codes "market") is_whole d)))

-- ---- numbers or words

abbrev pub is_price : Data → Bool
is_price d = is_word (codes "never") d || (is_word (codes "unmarked") d || is_whole_number d)

abbrev pub prices_numbers : Data → Bool
prices_numbers d = has_at (codes "ask") is_price d && has_at (codes "bid") is_price d

abbrev pub is_margin : Data → Bool
is_margin d = is_word (codes "unbounded") d || (is_word (codes "wide") d || (is_word (codes "budget") d || is_fraction d))

-- the entries of the state, where there is one
abbrev pub margin_numbers : Data → Bool
margin_numbers d =
    has_at (codes "margin") is_margin d && (is_bare (word_at (codes "margin") d) || has_at (codes "at") (is_list is_whole_number) d)
