-- Which texts are numbers, and what their values are: whole texts and fraction texts, of any size.
use Rattle.std.specs.Prelude.{ℕ, ◌-◌, ◌^◌, ℤ, pos, neg_ℤ, unsigned_abs, List, [], ◌∷◌, Bool, true, false, not, ◌&&◌, ◌||◌, ◌==◌, nat_le, nat_lt, Option, Some, None, if◌then◌else◌}
use Rattle.std.specs.Str.{bytes_eq}
use Rattle.arithmetic.specs.Gcd.{gcd}
use Rattle.exact_num.specs.Fraction.{Fraction, over}
use Rattle.frac.specs.Range.{limit}
use Rattle.form.specs.Naturals.{is_natural, natural_value}

-- a natural number, or `-` before one that is not 0
abbrev pub is_whole_text : List ℕ → Bool
is_whole_text [] = false
is_whole_text (c ∷ cs) = if c == 45 then is_natural cs && nat_lt 0 (natural_value cs) else is_natural (c ∷ cs)

abbrev pub signed_value : Bool → ℕ → ℤ
signed_value true size = neg_ℤ (pos size)
signed_value false size = pos size

abbrev pub whole_value : List ℕ → ℤ
whole_value [] = pos 0
whole_value (c ∷ cs) = if c == 45 then signed_value true (natural_value cs) else signed_value false (natural_value (c ∷ cs))

-- the largest size that the code reads
abbrev pub largest_size : ℕ
largest_size = 2 ^ 128 - 1

-- what stands before the first `/`
abbrev pub before_slash : List ℕ → List ℕ
before_slash [] = []
before_slash (b ∷ bs) = if b == 47 then [] else b ∷ before_slash bs

-- what stands behind it
abbrev pub behind_slash : List ℕ → Option (List ℕ)
behind_slash [] = None
behind_slash (b ∷ bs) = if b == 47 then Some bs else behind_slash bs

-- the fraction of a text, from the texts of its parts
abbrev pub fraction_from : List ℕ → Option (List ℕ) → Fraction
fraction_from above None = over (whole_value above) 1
fraction_from above (Some below) = over (whole_value above) (natural_value below)

abbrev pub fraction_value : List ℕ → Fraction
fraction_value text = fraction_from (before_slash text) (behind_slash text)

-- each part is at most 2^127 - 1 in size
abbrev pub are_parts_small : Fraction → Bool
are_parts_small x = nat_le (unsigned_abs x.numerator) limit && nat_le x.denominator limit

-- small sizes have no common divisor above 1
abbrev pub lowest_if_small : ℕ → ℕ → Bool
lowest_if_small above below = not (nat_le above limit && nat_le below limit) || gcd above below == 1

abbrev pub is_lowest_if_small : Fraction → Bool
is_lowest_if_small x = lowest_if_small (unsigned_abs x.numerator) x.denominator

-- the parts of a fraction text by the grammar
abbrev pub has_fraction_parts : List ℕ → Option (List ℕ) → Bool
has_fraction_parts above None = is_whole_text above
has_fraction_parts above (Some below) = is_whole_text above && (not (bytes_eq above (48 ∷ [])) && (is_natural below && nat_le 2 (natural_value below)))

abbrev pub is_fraction_text : List ℕ → Bool
is_fraction_text text = has_fraction_parts (before_slash text) (behind_slash text) && is_lowest_if_small (fraction_value text)
