-- The shapes of the replies about proposals, and whether their texts are numbers.
use Rattle.std.specs.Prelude.{ℕ, List, Bool, true, false, ◌&&◌, ◌||◌, ◌==◌, is_some, codes, if◌then◌else◌}
use Rattle.std.specs.Str.{bytes_eq}
use Rattle.serde_json.specs.Data.{Data}
use Rattle.serde_json.specs.Find.{as_bool}
use Rattle.reply_print.specs.ClearedShape.{are_legs, is_side, order_shape}
use Rattle.reply_print.specs.Look.{has_members, has_at, is_whole, is_text, is_word, is_list, number_at}
use Rattle.reply_print.specs.NumberTexts.{is_fraction, is_whole_number}
use Rattle.proposal_text.specs.AskedShapes.{margin_numbers, margin_shape, priced_shape, prices_numbers, prices_shape}
use Rattle.proposal_text.specs.Needs.{is_need}
use Rattle.proposal_text.specs.Submissions.{proposal_shape, proposal_numbers}

-- ---- shapes

abbrev pub are_orders : Data → Bool
are_orders d = has_at (codes "orders") (is_list (order_shape false)) d

abbrev pub book_shape : Data → Bool
book_shape d = has_members 5 d && (has_at (codes "line") is_whole d && (has_at (codes "market") is_whole d && (are_orders d && has_at (codes "underlyings") is_whole d)))

abbrev pub position_shape : Data → Bool
position_shape d =
    has_members 5 d
    && (has_at (codes "batch") is_whole d
    && (has_at (codes "fill") is_text d && (has_at (codes "legs") are_legs d && (has_at (codes "order") is_whole d && has_at (codes "side") is_side d))))

abbrev pub positions_shape : Data → Bool
positions_shape d =
    has_members 5 d
    && (has_at (codes "account") is_whole d
    && (has_at (codes "line") is_whole d && (has_at (codes "market") is_whole d && has_at (codes "positions") (is_list position_shape) d)))

abbrev pub proposed_shape : Data → Bool
proposed_shape d =
    has_members 7 d
    && (has_at (codes "best_surplus") is_text d
    && (has_at (codes "bound") is_text d
    && (has_at (codes "least_bound") is_text d
    && (has_at (codes "line") is_whole d && (has_at (codes "market") is_whole d && has_at (codes "surplus") is_text d)))))

abbrev pub is_stop : Data → Bool
is_stop d = is_word (codes "wide") d || is_word (codes "budget") d

-- the numbers of a cleared line
abbrev pub counts_shape : Data → Bool
counts_shape d =
    has_at (codes "batch") is_whole d
    && (has_at (codes "line") is_whole d
    && (has_at (codes "market") is_whole d && (has_at (codes "underlyings") is_whole d && has_at (codes "units") is_whole d)))

-- a cleared line of version 3
abbrev pub bounded_shape : Data → Bool
bounded_shape d =
    number_at (codes "version") d == 3
    && (has_members 15 d
    && (proposal_shape d
    && (has_at (codes "bound") is_text d
    && (has_at (codes "mark") (is_word (codes "bounded")) d && (has_at (codes "run") is_stop d && (are_orders d && counts_shape d))))))

abbrev pub is_failed : Data → Bool
is_failed d =
    is_word (codes "BatchShape") d
    || (is_word (codes "Fill") d || (is_word (codes "Cover") d || (is_word (codes "Measure") d || is_word (codes "Wide") d)))

abbrev pub closed_shape : Data → Bool
closed_shape d = has_members 4 d && (has_at (codes "line") is_whole d && (has_at (codes "market") is_whole d && has_at (codes "orders") is_whole d))

abbrev pub reopened_shape : Data → Bool
reopened_shape d = has_members 3 d && (has_at (codes "line") is_whole d && has_at (codes "market") is_whole d)

-- a refusal of which nothing more is told
abbrev pub plain_refused_shape : List ℕ → Data → Bool
plain_refused_shape reason d = has_members 4 d && (has_at (codes "line") is_whole d && has_at (codes "reason") (is_word reason) d)

abbrev pub unproved_shape : Data → Bool
unproved_shape d =
    has_members 5 d
    && (has_at (codes "failed") is_failed d && (has_at (codes "line") is_whole d && has_at (codes "reason") (is_word (codes "Unproved")) d))

abbrev pub secured_shape : Data → Bool
secured_shape d = has_members 4 d && (has_at (codes "account") is_whole d && (has_at (codes "line") is_whole d && has_at (codes "need") is_text d))

abbrev pub is_truth : Data → Bool
is_truth d = is_some (as_bool d)

abbrev pub needs_shape : Data → Bool
needs_shape d =
    has_members 6 d
    && (has_at (codes "account") is_whole d
    && (has_at (codes "balance") is_text d
    && (has_at (codes "line") is_whole d && (has_at (codes "need") is_text d && has_at (codes "secured") is_truth d))))

-- a refusal for want of what an account needs
abbrev pub uncovered_shape : Data → Bool
uncovered_shape d =
    has_members 5 d
    && (has_at (codes "line") is_whole d && (has_at (codes "need") is_text d && has_at (codes "reason") (is_word (codes "Margin")) d))

abbrev pub is_tried_mark : Data → Bool
is_tried_mark d = is_word (codes "optimal") d || is_stop d

abbrev pub tried_shape : Data → Bool
tried_shape d =
    has_members 6 d
    && (has_at (codes "fill") is_text d
    && (has_at (codes "line") is_whole d
    && (has_at (codes "mark") is_tried_mark d && (has_at (codes "market") is_whole d && has_at (codes "surplus") is_text d))))

-- a refusal to whoever sent the line, by its number
abbrev pub barred_shape : ℕ → Data → Bool
barred_shape number d =
    if number == 25 then plain_refused_shape (codes "NotAllowed") d
    else if number == 26 then plain_refused_shape (codes "NotAsked") d
    else number == 27 && plain_refused_shape (codes "Quota") d

-- by the number of the refusal
abbrev pub refused_shape : ℕ → Data → Bool
refused_shape number d =
    if number == 14 then uncovered_shape d
    else if number == 20 then plain_refused_shape (codes "Stale") d
    else if number == 21 then unproved_shape d
    else if number == 23 then plain_refused_shape (codes "Closed") d
    else if number == 24 then plain_refused_shape (codes "Open") d
    else barred_shape number d

-- by the word of the reply
abbrev pub shape_by : List ℕ → Data → Bool
shape_by word d =
    if bytes_eq word (codes "book") then book_shape d
    else if bytes_eq word (codes "positions") then positions_shape d
    else if bytes_eq word (codes "proposed") then proposed_shape d
    else if bytes_eq word (codes "cleared") then bounded_shape d
    else if bytes_eq word (codes "closed") then closed_shape d
    else if bytes_eq word (codes "reopened") then reopened_shape d
    else if bytes_eq word (codes "secured") then secured_shape d
    else if bytes_eq word (codes "need") then needs_shape d
    else if bytes_eq word (codes "quoted") then prices_shape 5 d
    else if bytes_eq word (codes "priced") then priced_shape d
    else if bytes_eq word (codes "margin") then margin_shape d
    else if bytes_eq word (codes "tried") then tried_shape d
    else bytes_eq word (codes "refused") && refused_shape (number_at (codes "number") d) d

-- ---- texts of numbers

abbrev pub position_numbers : Data → Bool
position_numbers d = has_at (codes "fill") is_fraction d

abbrev pub proposed_numbers : Data → Bool
proposed_numbers d =
    has_at (codes "best_surplus") is_fraction d
    && (has_at (codes "bound") is_fraction d && (has_at (codes "least_bound") is_fraction d && has_at (codes "surplus") is_fraction d))

abbrev pub needs_numbers : Data → Bool
needs_numbers d = has_at (codes "balance") is_whole_number d && has_at (codes "need") is_need d

abbrev pub tried_numbers : Data → Bool
tried_numbers d = has_at (codes "fill") is_fraction d && has_at (codes "surplus") is_fraction d

-- by the number of the refusal
abbrev pub refused_numbers : ℕ → Data → Bool
refused_numbers number d = if number == 14 then has_at (codes "need") is_need d else true

abbrev pub numbers_by : List ℕ → Data → Bool
numbers_by word d =
    if bytes_eq word (codes "positions") then has_at (codes "positions") (is_list position_numbers) d
    else if bytes_eq word (codes "proposed") then proposed_numbers d
    else if bytes_eq word (codes "cleared") then has_at (codes "bound") is_fraction d && proposal_numbers d
    else if bytes_eq word (codes "secured") then has_at (codes "need") is_whole_number d
    else if bytes_eq word (codes "need") then needs_numbers d
    else if bytes_eq word (codes "quoted") then prices_numbers d
    else if bytes_eq word (codes "priced") then prices_numbers d
    else if bytes_eq word (codes "margin") then margin_numbers d
    else if bytes_eq word (codes "tried") then tried_numbers d
    else if bytes_eq word (codes "refused") then refused_numbers (number_at (codes "number") d) d
    else true
