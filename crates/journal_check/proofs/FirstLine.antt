-- The first line of a journal.
use Rattle.std.proofs.Common.{◌≡◌, ℕ, ◌+◌, ◌<◌, ◌≤◌, List, [], ◌∷◌, ◌++◌, ◌==◌, Bool, true, false, length, take, drop, get_or, All, Some, None, refl, sym, ap, ◌∙◌, arith, get_or-take, length-take-le}
use Rattle.std.proofs.lemmas.List.{take-append-drop, drop_more, get_or_default}
use Rattle.std.proofs.lemmas.List.Splits.{slice_split_at, slice_split_none, length-slice_split}
use Rattle.std.proofs.lemmas.Bool.Decides.{nat_tests}
use Rattle.std.specs.List.{slice_split}
use Rattle.memchr.specs.Find.{IsFirstByte, is_byte, Nowhere, Passes}
use Rattle.journal_check.specs.JournalLines.{lines_of, without_last_empty}

is_false : (b : Bool) → ¬ (b ≡ true) → b ≡ false
is_false true f = absurd (f refl)
is_false false f = refl

no_feed : (bytes : List ℕ) (i d : ℕ) → i < length bytes → ¬ (Passes (is_byte 10) bytes i) → (get_or bytes i d == 10) ≡ false
no_feed bytes i d lt f = is_false (get_or bytes i d == 10) (λ e. f (ap (λ b. b == 10) (get_or_default bytes i 0 d lt) ∙ e))

-- no byte of the front is a line feed
lacks : (bytes : List ℕ) (k : ℕ) → k ≤ length bytes → Nowhere (Passes (is_byte 10) bytes) 0 k → All (λ b. (b == 10) ≡ false) (take k bytes)
lacks bytes k low none i d lt =
    let within : i < k = omega (arith, lt, length-take-le k bytes low) in
    ap (λ b. b == 10) (get_or-take k bytes i d within) ∙ no_feed bytes i d (omega arith) (none i (omega arith) within)

pub more : (line : List ℕ) (parts : List (List ℕ)) → 0 < length parts → without_last_empty (line ∷ parts) ≡ line ∷ without_last_empty parts
more line [] lt = absurd (omega arith)
more line (part ∷ parts) lt = refl

pub line_before : (bytes : List ℕ) (k : ℕ) → IsFirstByte (is_byte 10) bytes (Some k) → lines_of bytes ≡ take k bytes ∷ lines_of (drop (k + 1) bytes)
line_before bytes k first =
    let p = λ (b : ℕ). b == 10 in
    let rest = drop (k + 1) bytes in
    let parts : bytes ≡ take k bytes ++ get_or bytes k 0 ∷ rest = sym (take-append-drop k bytes) ∙ ap (λ zs. take k bytes ++ zs) (drop_more bytes k 0 first.0.high) in
    ap without_last_empty (ap (slice_split p) parts ∙ slice_split_at p (take k bytes) (get_or bytes k 0) rest (lacks bytes k (omega (arith, first.0.high)) first.0.before) first.1)
    ∙ more (take k bytes) (slice_split p rest) (omega (arith, length-slice_split p rest))

whole : (bytes : List ℕ) → 0 < length bytes → without_last_empty (bytes ∷ []) ≡ bytes ∷ []
whole [] lt = absurd (omega arith)
whole (b ∷ bytes) lt = grind (arith, nat_tests)

pub one_line : (bytes : List ℕ) → 0 < length bytes → IsFirstByte (is_byte 10) bytes None → lines_of bytes ≡ bytes ∷ lines_of []
one_line bytes lt none = ap without_last_empty (slice_split_none (λ b. b == 10) bytes (λ i d low. no_feed bytes i d low (none i (omega arith) low))) ∙ whole bytes lt
