-- Which texts are natural numbers, and what their values are.
use Rattle.std.specs.Prelude.{ℕ, ◌+◌, ◌-◌, ◌*◌, List, [], ◌∷◌, Bool, true, false, not, ◌&&◌, ◌||◌, ◌==◌, fold}
use Rattle.std.specs.Char.{is_ascii_digit}
use Rattle.std.specs.List.{list_all}

abbrev pub is_empty : List ℕ → Bool
is_empty [] = true
is_empty (b ∷ bs) = false

-- digits, the first of which is 0 only where it is alone
abbrev pub is_natural : List ℕ → Bool
is_natural [] = false
is_natural (d ∷ ds) = list_all is_ascii_digit (d ∷ ds) && (not (d == 48) || is_empty ds)

abbrev pub natural_value : List ℕ → ℕ
natural_value text = fold (λ n d. 10 * n + (d - 48)) 0 text
