-- The shape of a line: exactly the keys of one reply, with kinds as said, and its words.
use Rattle.std.specs.Prelude.{ℕ, List, Bool, true, false, ◌&&◌, nat_le, codes, if◌then◌else◌}
use Rattle.std.specs.Str.{bytes_eq}
use Rattle.serde_json.specs.Data.{Data}
use Rattle.reply_print.specs.ClearedShape.{cleared_shape}
use Rattle.reply_print.specs.Look.{has_members, has_at, is_whole, is_text, is_word, is_list, number_at}
use Rattle.limits.specs.declared.TheConstants.{MAX_REFUSAL}
use Rattle.reply_print.specs.Words.{is_range_refusal, reason_word}

abbrev pub opened_shape : Data → Bool
opened_shape d = has_members 3 d && (has_at (codes "account") is_whole d && has_at (codes "line") is_whole d)

-- deposited and withdrawn
abbrev pub moved_shape : Data → Bool
moved_shape d = has_members 4 d && (has_at (codes "account") is_whole d && (has_at (codes "balance") is_text d && has_at (codes "line") is_whole d))

abbrev pub listed_shape : Data → Bool
listed_shape d = has_members 4 d && (has_at (codes "line") is_whole d && (has_at (codes "market") is_whole d && has_at (codes "underlyings") is_whole d))

-- placed and cancelled
abbrev pub ordered_shape : Data → Bool
ordered_shape d = has_members 3 d && (has_at (codes "line") is_whole d && has_at (codes "order") is_whole d)

abbrev pub paid_shape : Data → Bool
paid_shape d =
    has_members 4 d
    && (has_at (codes "account") is_whole d && (has_at (codes "amount") is_text d && (has_at (codes "batch") is_whole d && has_at (codes "order") is_whole d)))

abbrev pub settled_shape : Data → Bool
settled_shape d =
    has_members 5 d
    && (has_at (codes "lapsed") is_whole d
    && (has_at (codes "line") is_whole d && (has_at (codes "market") is_whole d && has_at (codes "payouts") (is_list paid_shape) d)))

abbrev pub balance_shape : Data → Bool
balance_shape d =
    has_members 5 d
    && (has_at (codes "account") is_whole d
    && (has_at (codes "balance") is_text d && (has_at (codes "line") is_whole d && has_at (codes "reserved") is_text d)))

-- the field stands with the refusal Range alone
abbrev pub has_its_field : Bool → Data → Bool
has_its_field true d = has_members 5 d && has_at (codes "field") is_whole d
has_its_field false d = has_members 4 d

-- with this reason, which is that of the number
abbrev pub refused_as : Bool → ℕ → List ℕ → Data → Bool
refused_as is_range number reason d =
    has_its_field is_range d && (has_at (codes "line") is_whole d && (nat_le 1 number && (nat_le number MAX_REFUSAL && has_at (codes "reason") (is_word reason) d)))

abbrev pub refused_by : ℕ → Data → Bool
refused_by number d = refused_as (is_range_refusal number) number (reason_word number) d

abbrev pub refused_shape : Data → Bool
refused_shape d = refused_by (number_at (codes "number") d) d

-- by the word of the reply
abbrev pub shape_by : List ℕ → Data → Bool
shape_by word d =
    if bytes_eq word (codes "opened") then opened_shape d
    else if bytes_eq word (codes "deposited") then moved_shape d
    else if bytes_eq word (codes "withdrawn") then moved_shape d
    else if bytes_eq word (codes "listed") then listed_shape d
    else if bytes_eq word (codes "placed") then ordered_shape d
    else if bytes_eq word (codes "cancelled") then ordered_shape d
    else if bytes_eq word (codes "cleared") then cleared_shape d
    else if bytes_eq word (codes "settled") then settled_shape d
    else if bytes_eq word (codes "balance") then balance_shape d
    else if bytes_eq word (codes "refused") then refused_shape d
    else false
