-- The shape of a cleared line.
use Rattle.std.specs.Prelude.{ℕ, ◌+◌, List, Bool, true, false, ◌&&◌, ◌||◌, ◌==◌, codes, if◌then◌else◌}
use Rattle.std.specs.Str.{bytes_eq}
use Rattle.serde_json.specs.Data.{Data}
use Rattle.form.specs.declared.limits.TheConstants.{MAX_LEGS, MAX_UNDERLYINGS}
use Rattle.reply_print.specs.Look.{has_members, has_at, is_whole, is_text, is_word, is_list, is_list_of, word_at, number_at}

-- the most entries of an option or a state
abbrev pub max_entries : ℕ
max_entries = MAX_UNDERLYINGS + 1

abbrev pub is_form : Data → Bool
is_form d = is_list_of 2 max_entries is_whole d

abbrev pub leg_shape : Data → Bool
leg_shape d = has_members 2 d && (has_at (codes "count") is_whole d && has_at (codes "form") is_form d)

abbrev pub are_legs : Data → Bool
are_legs d = is_list_of 1 MAX_LEGS leg_shape d

-- a form in version 1, legs in version 2
abbrev pub bundle_shape : Bool → Data → Bool
bundle_shape true d = has_at (codes "form") is_form d
bundle_shape false d = has_at (codes "legs") are_legs d

abbrev pub is_side : Data → Bool
is_side d = is_word (codes "buy") d || is_word (codes "sell") d

abbrev pub order_shape : Bool → Data → Bool
order_shape single d =
    has_members 6 d
    && (has_at (codes "account") is_whole d
    && (bundle_shape single d
    && (has_at (codes "order") is_whole d
    && (has_at (codes "price") is_whole d && (has_at (codes "quantity") is_whole d && has_at (codes "side") is_side d)))))

abbrev pub is_state : Data → Bool
is_state d = is_list_of 2 max_entries is_text d

abbrev pub point_shape : Data → Bool
point_shape d = has_members 2 d && (has_at (codes "state") is_state d && has_at (codes "weight") is_text d)

abbrev pub multiplier_shape : Data → Bool
multiplier_shape d = has_members 2 d && (has_at (codes "at") is_whole d && has_at (codes "by") is_text d)

abbrev pub node_shape : Data → Bool
node_shape d = has_members 1 d && (has_at (codes "split") is_whole d || has_at (codes "leaf") (is_list multiplier_shape) d)

abbrev pub cover_shape : Data → Bool
cover_shape d = is_word (codes "line") d || is_list node_shape d

abbrev pub certificate_shape : Data → Bool
certificate_shape d = has_members 2 d && (has_at (codes "cover") cover_shape d && has_at (codes "measure") (is_list point_shape) d)

abbrev pub is_operator : Data → Bool
is_operator d = is_word (codes "add") d || (is_word (codes "mul") d || (is_word (codes "div") d || is_word (codes "whole") d))

abbrev pub wide_shape : Data → Bool
wide_shape d = has_members 3 d && (has_at (codes "left") is_text d && (has_at (codes "operator") is_operator d && has_at (codes "right") is_text d))

-- the certificate with the mark optimal alone, and the step with the mark wide alone
abbrev pub mark_shape : List ℕ → Data → Bool
mark_shape word d =
    if bytes_eq word (codes "optimal") then has_members 13 d && has_at (codes "certificate") certificate_shape d
    else if bytes_eq word (codes "wide") then has_members 13 d && has_at (codes "wide") wide_shape d
    else bytes_eq word (codes "budget") && has_members 12 d

abbrev pub is_version : ℕ → Bool
is_version version = version == 1 || version == 2

-- the orders, by the version
abbrev pub orders_shape : ℕ → Data → Bool
orders_shape version d = is_version version && has_at (codes "orders") (is_list (order_shape (version == 1))) d

abbrev pub cleared_shape : Data → Bool
cleared_shape d =
    mark_shape (word_at (codes "mark") d) d
    && (has_at (codes "batch") is_whole d
    && (has_at (codes "fills") (is_list is_text) d
    && (has_at (codes "liability") is_text d
    && (has_at (codes "line") is_whole d
    && (has_at (codes "market") is_whole d
    && (orders_shape (number_at (codes "version") d) d
    && (has_at (codes "surplus") is_text d && (has_at (codes "underlyings") is_whole d && has_at (codes "units") is_whole d))))))))
