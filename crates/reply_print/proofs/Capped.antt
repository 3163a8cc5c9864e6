-- Sizes that are cut at 2^128 - 1 have the same test of lowest terms.
use Rattle.std.proofs.Common.{◌≡◌, ℕ, ◌<◌, ◌≤◌, min, true, nat_le, refl, sym, ap₂, ◌∙◌, arith, inl, inr}
use Rattle.std.proofs.lemmas.Bool.{cases_lt, lt-leb}
use Rattle.std.proofs.Math.Bool.{and-false}
use Rattle.frac.specs.Range.{limit}
use Rattle.reply_print.specs.NumberValues.{lowest_if_small, largest_size}

large_left : (a b : ℕ) → limit < a → lowest_if_small a b ≡ true
large_left a b h = rw (lt-leb a limit h) refl

large_right : (a b : ℕ) → limit < b → lowest_if_small a b ≡ true
large_right a b h = rw (lt-leb b limit h, and-false (nat_le a limit)) refl

kept : (a b : ℕ) → a ≤ limit → b ≤ limit → lowest_if_small (min a largest_size) (min b largest_size) ≡ lowest_if_small a b
kept a b small little =
    let a_is : min a largest_size ≡ a = omega arith in
    let b_is : min b largest_size ≡ b = omega arith in
    ap₂ lowest_if_small a_is b_is

pub capped : (a b : ℕ) → lowest_if_small (min a largest_size) (min b largest_size) ≡ lowest_if_small a b
capped a b = elim (cases_lt limit a) [
  | inl big ↦ large_left (min a largest_size) (min b largest_size) (omega arith) ∙ sym (large_left a b big)
  | inr small ↦ elim (cases_lt limit b) [
    | inl big ↦ large_right (min a largest_size) (min b largest_size) (omega arith) ∙ sym (large_right a b big)
    | inr little ↦ kept a b small little
  ]
]

pub capped_one : (a : ℕ) → lowest_if_small (min a largest_size) 1 ≡ lowest_if_small a 1
capped_one a = capped a 1
