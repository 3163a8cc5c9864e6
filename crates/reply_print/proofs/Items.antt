-- Tests of each item of a list of values.
use Rattle.std.proofs.Common.{◌≡◌, ℕ, suc, ◌<◌, ◌≤◌, nat_le, length, List, [], ◌∷◌, Bool, false, ◌&&◌, Some, option_map, unwrap_or, refl, sym, ap, ◌∙◌}
use Rattle.std.specs.List.{list_all}
use Rattle.serde_json.specs.Data.{Data}
use Rattle.serde_json.specs.Events.{items_len}
use Rattle.std.proofs.lemmas.Bool.{le-leb, lt-leb}
use Rattle.serde_json.specs.Find.{as_array}
use Rattle.serde_json.specs.View.{view, items_view}
use Rattle.serde_json.specs.declared.value.Value.{Value}
use Rattle.reply_print.specs.Look.{items_all, is_list, length_between}

items_all-view : (passes : Data → Bool) (vs : List Value) → items_all passes (items_view vs) ≡ list_all (λ v. passes (view v)) vs
items_all-view passes [] = refl
items_all-view passes (v ∷ vs) = ap (λ b. passes (view v) && b) (items_all-view passes vs)

-- the test of a list is that of its items
pub is_list-items : (passes : Data → Bool) (d : Data) (vs : List Value) → Some (items_view vs) ≡ as_array d → list_all (λ v. passes (view v)) vs ≡ is_list passes d
is_list-items passes d vs e = sym (items_all-view passes vs) ∙ ap (λ o. unwrap_or (option_map (items_all passes) o) false) e

items_len-view : (vs : List Value) → items_len (items_view vs) ≡ length vs
items_len-view [] = refl
items_len-view (v ∷ vs) = ap suc (items_len-view vs)

-- the count of a list is that of its items
pub length_between-items : (low high : ℕ) (d : Data) (vs : List Value) → Some (items_view vs) ≡ as_array d → (nat_le low (length vs) && nat_le (length vs) high) ≡ length_between low high d
length_between-items low high d vs e =
    ap (λ n. nat_le low n && nat_le n high) (sym (items_len-view vs)) ∙ ap (λ o. unwrap_or (option_map (λ ds. nat_le low (items_len ds) && nat_le (items_len ds) high) o) false) e

pub too_short : (low high : ℕ) (d : Data) (vs : List Value) → Some (items_view vs) ≡ as_array d → length vs < low → length_between low high d ≡ false
too_short low high d vs e lt = sym (length_between-items low high d vs e) ∙ rw (lt-leb low (length vs) lt) refl

pub long_enough : (low high : ℕ) (d : Data) (vs : List Value) → Some (items_view vs) ≡ as_array d → low ≤ length vs → nat_le (length vs) high ≡ length_between low high d
long_enough low high d vs e le = sym (rw (le-leb low (length vs) le) refl) ∙ length_between-items low high d vs e
