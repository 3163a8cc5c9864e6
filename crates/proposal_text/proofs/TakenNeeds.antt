-- What an account needs is taken out of its line again; texts of numbers are no words.
use Rattle.std.proofs.Common.{◌≡◌, ℕ, suc, ◌+◌, ◌≤◌, ◌<◌, ◌^◌, ℤ, pos, negsuc, unsigned_abs, List, [], ◌∷◌, Bool, true, false, ◌||◌, nat_le, nat_eq, Option, Some, option_map, option_and_then, codes, decimal, if◌then◌else◌, refl, ap, ◌∙◌, arith}
use Rattle.std.specs.List.{list_all}
use Rattle.std.specs.Fmt.{signed_decimal}
use Rattle.std.specs.Str.{bytes_eq}
use Rattle.std.proofs.lemmas.Bool.{and_parts, le-leb}
use Rattle.std.proofs.lemmas.Bool.Decides.{nat_tests}
use Rattle.std.proofs.lemmas.Int.{ints}
use Rattle.frac.specs.Range.{limit}
use Rattle.serde_json.specs.Data.{string}
use Rattle.reply_print.specs.BatchPieces.{whole_words}
use Rattle.reply_print.specs.Look.{is_word}
use Rattle.reply_print.specs.NumberTexts.{is_whole_number}
use Rattle.reply_print.specs.PieceData.{piece_data}
use Rattle.reply_print.specs.Within.{IsSmall}
use Rattle.reply_print.proofs.Digits.{all_of}
use Rattle.reply_text.specs.BatchValues.{whole_from}
use Rattle.reply_text.specs.ReplyValues.{not_below}
use Rattle.reply_text.proofs.Taken.{whole_number, whole_taken}
use Rattle.reply_text.proofs.TakenReplies.{int_le-from}
use Rattle.proposal_text.specs.declared.needs.Need.{Need}
use Rattle.proposal_text.specs.declared.needs.Need.TheVariants as need
use Rattle.proposal_text.specs.Needs.{IsNeedWithin, is_need, need_text}

-- ---- texts of numbers are no words

abbrev is_low : ℕ → Bool
is_low b = nat_le b 57

abbrev pub are_low : List ℕ → Bool
are_low s = list_all is_low s

pub low-decimal : (n : ℕ) → n < 10 ^ 64 → are_low (decimal n) ≡ true
low-decimal n small = all_of is_low (λ k lt. le-leb (48 + k) 57 (omega arith)) n small

pub low-signed : (z : ℤ) → IsSmall z → are_low (signed_decimal z) ≡ true
low-signed (pos n) h = low-decimal n (omega arith)
low-signed (negsuc n) h = low-decimal (suc n) (omega arith)

no_byte : (c b : ℕ) → is_low c ≡ true → 58 ≤ b → nat_eq c b ≡ false
no_byte c b low high = grind (arith, nat_tests)

-- a word begins with a letter
pub no_word : (s : List ℕ) (b : ℕ) (bs : List ℕ) → 58 ≤ b → are_low s ≡ true → bytes_eq s (b ∷ bs) ≡ false
no_word [] b bs high low = refl
no_word (c ∷ s) b bs high low = rw (no_byte c b (and_parts (is_low c) (are_low s) low).0 high) refl

-- ---- tests, one of which holds

pub third : (a b c : Bool) → c ≡ true → (a || (b || c)) ≡ true
third true b c h = refl
third false true c h = refl
third false false c h = h

pub fourth : (a b c d : Bool) → d ≡ true → (a || (b || (c || d))) ≡ true
fourth true b c d h = refl
fourth false b c d h = third b c d h

sixth : (a b c d e f : Bool) → f ≡ true → (a || (b || (c || (d || (e || f))))) ≡ true
sixth true b c d e f h = refl
sixth false true c d e f h = refl
sixth false false c d e f h = fourth c d e f h

-- the size of a number that is written is taken out
pub held_taken : (bound n : ℕ) → n ≤ bound → n < 2 ^ 127 → option_map unsigned_abs (option_and_then not_below (whole_from bound (piece_data (whole_words (pos n))))) ≡ Some n
held_taken bound n h small =
    let kept : option_and_then not_below (Some (pos n)) ≡ Some (pos n) = rw (int_le-from (pos n) (omega (arith, ints))) refl in
    ap (λ o. option_map unsigned_abs (option_and_then not_below o)) (whole_taken bound (pos n) (omega arith) h) ∙ ap (option_map unsigned_abs) kept

pub is_number : (n : ℕ) → n < 2 ^ 127 → is_whole_number (string (decimal n)) ≡ true
is_number n small = whole_number (pos n) (omega arith)

-- ---- needs

pub need_is : (n : Need) → IsNeedWithin n → is_need (string (need_text n)) ≡ true
need_is (need.Amount amount) h =
    let is = λ (word : List ℕ). is_word word (string (decimal amount)) in
    sixth (is (codes "positions")) (is (codes "unbounded")) (is (codes "wide")) (is (codes "budget")) (is (codes "sum")) _ (is_number amount h)
need_is need.Positions h = refl
need_is need.Unbounded h = refl
need_is need.Wide h = refl
need_is need.Budget h = refl
need_is need.Sum h = refl

-- from its text
abbrev need_of : List ℕ → Option Need
need_of text =
    if bytes_eq text (codes "positions") then Some need.Positions
    else if bytes_eq text (codes "unbounded") then Some need.Unbounded
    else if bytes_eq text (codes "wide") then Some need.Wide
    else if bytes_eq text (codes "budget") then Some need.Budget
    else if bytes_eq text (codes "sum") then Some need.Sum
    else option_map need.Amount (option_map unsigned_abs (option_and_then not_below (whole_from limit (string text))))

pub need_taken : (n : Need) → IsNeedWithin n → need_of (need_text n) ≡ Some n
need_taken (need.Amount amount) h =
    let low = low-decimal amount (omega (arith, h)) in
    let no = λ (b : ℕ) (bs : List ℕ) (high : 58 ≤ b). no_word (decimal amount) b bs high low in
    rw (no 112 _ (omega arith), no 117 _ (omega arith), no 119 _ (omega arith), no 98 _ (omega arith), no 115 _ (omega arith))
    (ap (option_map need.Amount) (held_taken limit amount (omega (arith, h)) h))
need_taken need.Positions h = refl
need_taken need.Unbounded h = refl
need_taken need.Wide h = refl
need_taken need.Budget h = refl
need_taken need.Sum h = refl
