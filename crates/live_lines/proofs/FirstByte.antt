-- The bytes before the first one that is searched for.
use Rattle.std.proofs.Common.{◌≡◌, ◌≤◌, ◌<◌, ℕ, List, false, ◌==◌, length, take, get_or, All, None, ap, ◌∙◌, arith, get_or-take, length-take-le}
use Rattle.std.proofs.lemmas.Bool.{false_from_ne_true}
use Rattle.std.proofs.lemmas.List.{get_or_default}
use Rattle.memchr.specs.Find.{IsFirstByte, is_byte, Nowhere, Passes}

abbrev pub IsOther : ℕ → ℕ → Type 0
IsOther byte b = (b == byte) ≡ false

module _ (byte : ℕ) (bytes : List ℕ) where
  other_at : (i d : ℕ) → i < length bytes → ¬ (Passes (is_byte byte) bytes i) → IsOther byte (get_or bytes i d)
  other_at i d lt f = false_from_ne_true (get_or bytes i d == byte) (λ e. f (ap (λ b. b == byte) (get_or_default bytes i 0 d lt) ∙ e))

  pub others_before : (k : ℕ) → k ≤ length bytes → Nowhere (Passes (is_byte byte) bytes) 0 k → All (IsOther byte) (take k bytes)
  others_before k low none i d lt =
      let within : i < k = omega (arith, lt, length-take-le k bytes low) in
      ap (λ b. b == byte) (get_or-take k bytes i d within) ∙ other_at i d (omega arith) (none i (omega arith) within)

  pub no_byte : IsFirstByte (is_byte byte) bytes None → All (IsOther byte) bytes
  no_byte none i d low = other_at i d low (none i (omega arith) low)
