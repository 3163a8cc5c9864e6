-- Number texts from a number on that is not below 0.
use Rattle.std.proofs.Common.{◌≡◌, ℕ, pos, neg_ℤ, ◌+◌, ◌-◌, ◌*◌, ◌≤◌, List, [], ◌∷◌, Bool, true, false, not, ◌&&◌, ◌==◌, nat_le, nat_abs, fold, Option, Some, None, if◌then◌else◌, refl, arith, inl, inr, ◌||◌}
use Rattle.std.specs.Prelude.{int_le}
use Rattle.std.proofs.lemmas.Bool.{and_parts, cases_Bool}
use Rattle.std.proofs.lemmas.Int.{ints}
use Rattle.std.proofs.lemmas.Bool.Decides.{nat_tests}
use Rattle.std.specs.Char.{is_ascii_digit}
use Rattle.std.specs.List.{list_all}
use Rattle.command_text.specs.declared.numbers.NumberRead.{NumberRead}
use Rattle.command_text.specs.declared.numbers.NumberRead.TheVariants.{NotNumber, Outside, Value}
use Rattle.command_text.specs.Numbers.{placed_in, number_in}
use Rattle.form.specs.Naturals.{is_empty, is_natural, natural_value}
use Rattle.program_words.specs.Requests.{natural_in}

-- what is read, as a number that is not below 0
abbrev pub natural_of : NumberRead → Option ℕ
natural_of (Value v) = Some (nat_abs v)
natural_of NotNumber = None
natural_of Outside = None

-- a number that digits say only grows
grows : (ds : List ℕ) (n : ℕ) → n ≤ fold (λ n d. 10 * n + (d - 48)) n ds
grows [] n = omega arith
grows (d ∷ ds) n = let more = grows ds (10 * n + (d - 48)) in omega arith

first_digit : (d : ℕ) → not (d == 48) ≡ true → is_ascii_digit d ≡ true → 49 ≤ d
first_digit d e digit = grind (arith, nat_tests)

-- digits behind a minus say a number above 0
above_zero : (d : ℕ) (ds : List ℕ) → (not (d == 48) && is_natural (d ∷ ds)) ≡ true → 1 ≤ natural_value (d ∷ ds)
above_zero d ds e =
    let h = and_parts (not (d == 48)) (is_natural (d ∷ ds)) e in
    let k = and_parts (list_all is_ascii_digit (d ∷ ds)) (not (d == 48) || is_empty ds) h.1 in
    let j = and_parts (is_ascii_digit d) (list_all is_ascii_digit ds) k.0 in
    let first = first_digit d h.0 j.0 in
    let rest = grows ds (0 + (d - 48)) in
    omega arith

under : (low n : ℕ) → 1 ≤ n → int_le (pos low) (neg_ℤ (pos n)) ≡ false
under low n some = grind (arith, ints)

negative : (low high n : ℕ) (b : Bool) → (b ≡ true → 1 ≤ n) → natural_of (if b then placed_in (pos low) (pos high) (neg_ℤ (pos n)) else NotNumber) ≡ None
negative low high n true some = rw (under low n (some refl)) refl
negative low high n false some = refl

minus : (low high : ℕ) (cs : List ℕ) → natural_of (number_in (pos low) (pos high) (45 ∷ cs)) ≡ None
minus low high [] = refl
minus low high (d ∷ ds) = negative low high (natural_value (d ∷ ds)) (not (d == 48) && is_natural (d ∷ ds)) (above_zero d ds)

tested : (a b c : Bool) (v : ℕ) → natural_of (if a then (if b && c then Value (pos v) else Outside) else NotNumber) ≡ (if a && (b && c) then Some v else None)
tested true true true v = refl
tested true true false v = refl
tested true false c v = refl
tested false b c v = refl

-- a number field from a number on that is not below 0 says what a number text says
pub reads_natural : (low high : ℕ) (text : List ℕ) → natural_of (number_in (pos low) (pos high) text) ≡ natural_in low high text
reads_natural low high [] = refl
reads_natural low high (c ∷ cs) = elim (cases_Bool (c == 45)) [
  | inl minus_first ↦ let is : c ≡ 45 = grind (arith, nat_tests) in rw is (minus low high cs)
  | inr digit_first ↦ rw digit_first (tested (is_natural (c ∷ cs)) (nat_le low (natural_value (c ∷ cs))) (nat_le (natural_value (c ∷ cs)) high) (natural_value (c ∷ cs)))
]
