-- Whether the texts of a line that should be numbers are of their grammar. The line has the shape
-- of a reply.
use Rattle.std.specs.Prelude.{ℕ, List, Bool, true, false, ◌&&◌, ◌||◌, codes, option_map, unwrap_or, if◌then◌else◌}
use Rattle.std.specs.Str.{bytes_eq}
use Rattle.serde_json.specs.Data.{Data}
use Rattle.serde_json.specs.Find.{as_str}
use Rattle.reply_print.specs.Look.{has_at, is_list, is_word, word_at}
use Rattle.reply_print.specs.NumberValues.{is_whole_text, is_fraction_text}

abbrev pub is_whole_number : Data → Bool
is_whole_number d = unwrap_or (option_map is_whole_text (as_str d)) false

abbrev pub is_fraction : Data → Bool
is_fraction d = unwrap_or (option_map is_fraction_text (as_str d)) false

abbrev pub paid_numbers : Data → Bool
paid_numbers d = has_at (codes "amount") is_whole_number d

abbrev pub point_numbers : Data → Bool
point_numbers d = has_at (codes "state") (is_list is_whole_number) d && has_at (codes "weight") is_fraction d

abbrev pub multiplier_numbers : Data → Bool
multiplier_numbers d = has_at (codes "by") is_fraction d

abbrev pub node_numbers : Data → Bool
node_numbers d = has_at (codes "leaf") (is_list multiplier_numbers) d || has_at (codes "split") (λ place. true) d

abbrev pub cover_numbers : Data → Bool
cover_numbers d = is_word (codes "line") d || is_list node_numbers d

abbrev pub certificate_numbers : Data → Bool
certificate_numbers d = has_at (codes "cover") cover_numbers d && has_at (codes "measure") (is_list point_numbers) d

abbrev pub wide_numbers : Data → Bool
wide_numbers d = has_at (codes "left") is_fraction d && has_at (codes "right") is_fraction d

abbrev pub mark_numbers : List ℕ → Data → Bool
mark_numbers word d =
    if bytes_eq word (codes "optimal") then has_at (codes "certificate") certificate_numbers d
    else if bytes_eq word (codes "wide") then has_at (codes "wide") wide_numbers d
    else true

abbrev pub cleared_numbers : Data → Bool
cleared_numbers d =
    mark_numbers (word_at (codes "mark") d) d
    && (has_at (codes "fills") (is_list is_fraction) d && (has_at (codes "liability") is_fraction d && has_at (codes "surplus") is_fraction d))

-- by the word of the reply
abbrev pub numbers_by : List ℕ → Data → Bool
numbers_by word d =
    if bytes_eq word (codes "deposited") then has_at (codes "balance") is_whole_number d
    else if bytes_eq word (codes "withdrawn") then has_at (codes "balance") is_whole_number d
    else if bytes_eq word (codes "cleared") then cleared_numbers d
    else if bytes_eq word (codes "settled") then has_at (codes "payouts") (is_list paid_numbers) d
    else if bytes_eq word (codes "balance") then has_at (codes "balance") is_whole_number d && has_at (codes "reserved") is_whole_number d
    else true
