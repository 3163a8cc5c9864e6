-- What an account needs as it is told, and as it is taken out of a line.
use Rattle.std.specs.Prelude.{ℕ, ◌<◌, ◌^◌, ⊤, unsigned_abs, List, Bool, ◌||◌, Option, Some, option_map, option_and_then, codes, decimal, if◌then◌else◌}
use Rattle.std.specs.Str.{bytes_eq}
use Rattle.frac.specs.Range.{limit}
use Rattle.serde_json.specs.Data.{Data}
use Rattle.reply_print.specs.Look.{is_word, word_at}
use Rattle.reply_print.specs.NumberTexts.{is_whole_number}
use Rattle.reply_text.specs.BatchValues.{whole_from}
use Rattle.reply_text.specs.ReplyValues.{not_below}
use Rattle.reply_text.specs.Taking.{take_at}
use Rattle.proposal_text.specs.declared.needs.Need.{Need}
use Rattle.proposal_text.specs.declared.needs.Need.TheVariants as need

-- the amount, or a word
abbrev pub need_text : Need → List ℕ
need_text (need.Amount amount) = decimal amount
need_text need.Positions = codes "positions"
need_text need.Unbounded = codes "unbounded"
need_text need.Wide = codes "wide"
need_text need.Budget = codes "budget"
need_text need.Sum = codes "sum"

-- at most 2^127 - 1
abbrev pub IsNeedWithin : Need → Type 0
IsNeedWithin (need.Amount amount) = amount < 2 ^ 127
IsNeedWithin need.Positions = ⊤
IsNeedWithin need.Unbounded = ⊤
IsNeedWithin need.Wide = ⊤
IsNeedWithin need.Budget = ⊤
IsNeedWithin need.Sum = ⊤

abbrev pub is_need : Data → Bool
is_need d =
    is_word (codes "positions") d
    || (is_word (codes "unbounded") d || (is_word (codes "wide") d || (is_word (codes "budget") d || (is_word (codes "sum") d || is_whole_number d))))

-- the size of the whole number at a key, where it is not below 0 and at most a bound
abbrev pub size_at : ℕ → List ℕ → Data → Option ℕ
size_at bound key d = option_map unsigned_abs (take_at key (λ e. option_and_then not_below (whole_from bound e)) d)

abbrev pub need_by : List ℕ → Data → Option Need
need_by word d =
    if bytes_eq word (codes "positions") then Some need.Positions
    else if bytes_eq word (codes "unbounded") then Some need.Unbounded
    else if bytes_eq word (codes "wide") then Some need.Wide
    else if bytes_eq word (codes "budget") then Some need.Budget
    else if bytes_eq word (codes "sum") then Some need.Sum
    else option_map need.Amount (size_at limit (codes "need") d)

-- the need of a line
abbrev pub need_at : Data → Option Need
need_at d = need_by (word_at (codes "need") d) d
