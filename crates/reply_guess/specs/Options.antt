-- The options that a market may list.
use Rattle.std.specs.Prelude.{ℤ, unsigned_abs, List, Bool, not, ◌&&◌, ◌==◌, nat_le}
use Rattle.std.specs.List.{list_all}
use Rattle.form.specs.declared.limits.TheConstants.{MAX_WEIGHT, MAX_STRIKE}
use Rattle.form.specs.Vector.{strike_entry, weights_of}

abbrev pub is_zero : ℤ → Bool
is_zero z = unsigned_abs z == 0

-- whether a call or a put within the limits has this option, and some weight is not 0
abbrev pub has_limits : List ℤ → Bool
has_limits v =
    nat_le (unsigned_abs (strike_entry v)) MAX_STRIKE && (list_all (λ w. nat_le (unsigned_abs w) MAX_WEIGHT) (weights_of v) && not (list_all is_zero (weights_of v)))
