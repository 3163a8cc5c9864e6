-- What is written and read back: plain texts, whole numbers of 64 bits, keys that rise, few levels.
use Rattle.std.specs.Prelude.{◌≡◌, ℕ, zero, suc, ◌^◌, ℤ, pos, negsuc, List, [], ◌∷◌, ◌++◌, Bool, true, false, not, ◌&&◌, ◌==◌, nat_lt, nat_le, ⊤}
use Rattle.std.specs.List.{list_all}
use Rattle.std.specs.Ordering.{nat_cmp, match_ordering}
use Rattle.std.specs.Cmp.Lexicographic.{slice_cmp}
use Rattle.reply_print.specs.Piece.{Piece, whole, words, truth, list, object, Pieces, no_pieces, piece, Fields, no_fields, field}

-- a byte of ASCII that stands for itself in a text
abbrev pub is_plain_byte : ℕ → Bool
is_plain_byte b = nat_le 32 b && (nat_lt b 127 && (not (b == 34) && not (b == 92)))

abbrev pub is_plain : List ℕ → Bool
is_plain text = list_all is_plain_byte text

abbrev pub is_short : ℤ → Bool
is_short (pos n) = nat_lt n (2 ^ 63)
is_short (negsuc n) = nat_lt (suc n) (2 ^ 63)

-- the key comes after another in the order of bytes
abbrev pub is_after : List ℕ → List ℕ → Bool
is_after key other = match_ordering (slice_cmp nat_cmp key other) false false true

-- each key comes after those before it
abbrev pub are_rising : List (List ℕ) → Fields → Bool
are_rising seen no_fields = true
are_rising seen (field key p fs) = list_all (is_after key) seen && are_rising (seen ++ key ∷ []) fs

-- within this many levels
abbrev mutual
  pub IsWritten : ℕ → Piece → Type 0
  IsWritten n (whole z) = is_short z ≡ true
  IsWritten n (words s) = is_plain s ≡ true
  IsWritten n (truth b) = ⊤
  IsWritten zero (list ps) = ⊥
  IsWritten (suc n) (list ps) = AreWritten n ps
  IsWritten zero (object fs) = ⊥
  IsWritten (suc n) (object fs) = (are_rising [] fs ≡ true) × HasWritten n fs

  pub AreWritten : ℕ → Pieces → Type 0
  AreWritten n no_pieces = ⊤
  AreWritten n (piece p ps) = IsWritten n p × AreWritten n ps

  pub HasWritten : ℕ → Fields → Type 0
  HasWritten n no_fields = ⊤
  HasWritten n (field key p fs) = (is_plain key ≡ true) × IsWritten n p × HasWritten n fs
