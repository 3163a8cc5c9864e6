-- Texts of numbers are plain.
use Rattle.std.proofs.Common.{◌≡◌, ℕ, zero, suc, ◌+◌, ◌/◌, ◌%◌, ◌^◌, ◌<◌, ℤ, pos, negsuc, List, [], ◌∷◌, ◌++◌, Bool, true, false, cond, ◌==◌, refl, ◌∙◌, arith}
use Rattle.std.proofs.lemmas.Bool.{and_from}
use Rattle.std.proofs.lemmas.Bool.Decides.{nat_tests}
use Rattle.std.proofs.lemmas.Fmt.{decimal_by_steps_wide}
use Rattle.std.proofs.lemmas.List.Folds.{list_all-append}
use Rattle.std.specs.Fmt.{decimal, signed_decimal, digits, digits_onto, digit_glyph}
use Rattle.std.specs.List.{list_all}
use Rattle.exact_num.specs.Fraction.{Fraction}
use Rattle.reply_print.specs.Numbers.{fraction_text}
use Rattle.reply_print.specs.Written.{is_plain, is_plain_byte}

glyph_plain : (k : ℕ) → k < 10 → is_plain_byte (digit_glyph false k) ≡ true
glyph_plain k small = grind (arith, nat_tests)

glyph_in_front : (n : ℕ) (acc : List ℕ) → is_plain acc ≡ true → is_plain (digit_glyph false (n % 10) ∷ acc) ≡ true
glyph_in_front n acc h = and_from (is_plain_byte (digit_glyph false (n % 10))) (is_plain acc) (glyph_plain (n % 10) (omega arith)) h

pub either_plain : (b : Bool) (x y : List ℕ) → is_plain x ≡ true → is_plain y ≡ true → is_plain (cond b x y) ≡ true
either_plain true x y h k = h
either_plain false x y h k = k

pub all_of : (p : ℕ → Bool) → ((k : ℕ) → k < 10 → p (48 + k) ≡ true) → (n : ℕ) → n < 10 ^ 64 → list_all p (decimal n) ≡ true
all_of p digit n small = decimal_by_steps_wide (λ _ ds. list_all p ds ≡ true)
    (λ k lt. and_from (p (48 + k)) true (digit k lt) refl)
    (λ k ds le is. list_all-append p ds ((48 + k % 10) ∷ []) ∙ and_from (list_all p ds) _ is (and_from (p (48 + k % 10)) true (digit (k % 10) (omega arith)) refl))
    n small

digits_plain : (k n : ℕ) (acc : List ℕ) → is_plain acc ≡ true → is_plain (digits_onto k 10 false n acc) ≡ true
digits_plain zero n acc h = h
digits_plain (suc k) n acc h = either_plain (n / 10 == 0) _ _ (glyph_in_front n acc h) (digits_plain k (n / 10) (digit_glyph false (n % 10) ∷ acc) (glyph_in_front n acc h))

pub plain-decimal : (n : ℕ) → is_plain (decimal n) ≡ true
unfolding digits
plain-decimal n = digits_plain 64 n [] refl

pub plain-signed_decimal : (z : ℤ) → is_plain (signed_decimal z) ≡ true
plain-signed_decimal (pos n) = plain-decimal n
plain-signed_decimal (negsuc n) = plain-decimal (suc n)

over_line : (above below : List ℕ) → is_plain above ≡ true → is_plain below ≡ true → is_plain (above ++ 47 ∷ below) ≡ true
over_line above below h k = list_all-append is_plain_byte above (47 ∷ below) ∙ and_from (is_plain above) _ h k

pub plain-fraction_text : (x : Fraction) → is_plain (fraction_text x) ≡ true
plain-fraction_text x =
    either_plain (x.denominator == 1) _ _ (plain-signed_decimal x.numerator) (over_line (signed_decimal x.numerator) (decimal x.denominator) (plain-signed_decimal x.numerator) (plain-decimal x.denominator))
