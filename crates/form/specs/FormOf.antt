-- The form of an option, for definitions that make orders.
use Rattle.std.specs.Prelude.{◌++◌, ◌&&◌, min, max, nat_le, List, length, take, replicate, Option, Some, None, ℤ, pos, if◌then◌else◌}
use Rattle.form.specs.declared.forms.Form.{Form}
use Rattle.form.specs.Padded.{padded_range, padded_length, padded_zeros}

-- the form whose option is v, where v has 2 to 9 entries; one entry for each place, and 0 past the
-- end
unfoldable pub form_of : List ℤ → Form
form_of v = record {
  count = max 2 (min 9 (length v));
  entries = take 9 (v ++ replicate 9 (pos 0));
  count_in_range = padded_range v;
  nine_entries = padded_length v;
  zero_past_count = padded_zeros v;
}

-- the form whose option is v, where v has 2 to 9 entries
abbrev pub form_from : List ℤ → Option Form
form_from v = if nat_le 2 (length v) && nat_le (length v) 9 then Some (form_of v) else None
