-- The bytes of a piece's text are printed ones of ASCII: no line feed is among them.
use Rattle.std.proofs.Common.{◌≡◌, ℕ, zero, suc, List, [], ◌∷◌, ◌++◌, Bool, true, false, ◌&&◌, ◌==◌, nat_lt, nat_le, refl, ◌∙◌, arith}
use Rattle.std.proofs.lemmas.Bool.{and_parts, and_from}
use Rattle.std.proofs.lemmas.Bool.Decides.{nat_tests}
use Rattle.std.proofs.lemmas.Str.{is_utf8-from_IsUtf8}
use Rattle.std.specs.Str.{is_utf8}
use Rattle.std.specs.List.{All, list_all}
use Rattle.std.proofs.lemmas.List.Folds.{list_all-append}
use Rattle.reply_print.specs.declared.replies.Reply.{Reply}
use Rattle.reply_print.specs.ReplyPieces.{reply_piece, reply_line}
use Rattle.reply_print.specs.Within.{IsWithin}
use Rattle.reply_print.proofs.WrittenReplies.{written}
use Rattle.json.proofs.Printed.Utf8.{are_ascii, IsUtf8-are_ascii}
use Rattle.reply_print.specs.Piece.{Piece, whole, words, truth, list, object, Pieces, no_pieces, piece, Fields, no_fields, field, piece_text, pieces_text, fields_text, comma_after}
use Rattle.reply_print.specs.Written.{is_plain, is_plain_byte, IsWritten, AreWritten, HasWritten}
use Rattle.std.specs.Fmt.{signed_decimal}
use Rattle.reply_print.proofs.Digits.{plain-signed_decimal}

abbrev is_printed : ℕ → Bool
is_printed b = nat_le 32 b && nat_lt b 127

abbrev pub are_printed : List ℕ → Bool
are_printed s = list_all is_printed s

printed-append : (s t : List ℕ) → are_printed s ≡ true → are_printed t ≡ true → are_printed (s ++ t) ≡ true
printed-append s t h k = list_all-append is_printed s t ∙ and_from (are_printed s) (are_printed t) h k

printed_byte : (b : ℕ) → is_plain_byte b ≡ true → is_printed b ≡ true
printed_byte b h = grind (arith, nat_tests)

printed-plain : (s : List ℕ) → is_plain s ≡ true → are_printed s ≡ true
printed-plain [] h = refl
printed-plain (b ∷ s) h =
    let parts = and_parts (is_plain_byte b) (is_plain s) h in
    and_from (is_printed b) _ (printed_byte b parts.0) (printed-plain s parts.1)

printed_comma : (later : Bool) (t : List ℕ) → are_printed t ≡ true → are_printed (comma_after later ++ t) ≡ true
printed_comma true t h = h
printed_comma false t h = h

mutual
  printed-piece : (n : ℕ) (p : Piece) → IsWritten n p → are_printed (piece_text p) ≡ true
  printed-piece n (whole z) h = printed-plain (signed_decimal z) (plain-signed_decimal z)
  printed-piece n (words s) h = printed-append s (34 ∷ []) (printed-plain s h) refl
  printed-piece n (truth true) h = refl
  printed-piece n (truth false) h = refl
  printed-piece zero (list ps) h = absurd h
  printed-piece (suc n) (list ps) h = printed-pieces n false ps h
  printed-piece zero (object fs) h = absurd h
  printed-piece (suc n) (object fs) h = printed-fields n false fs h.1

  printed-pieces : (n : ℕ) (later : Bool) (ps : Pieces) → AreWritten n ps → are_printed (pieces_text later ps) ≡ true
  printed-pieces n later no_pieces h = refl
  printed-pieces n later (piece p ps) h = printed_comma later _ (printed-append (piece_text p) _ (printed-piece n p h.0) (printed-pieces n true ps h.1))

  printed-fields : (n : ℕ) (later : Bool) (fs : Fields) → HasWritten n fs → are_printed (fields_text later fs) ≡ true
  printed-fields n later no_fields h = refl
  printed-fields n later (field key p fs) h =
      printed_comma later _
      (printed-append (34 ∷ (key ++ 34 ∷ [])) _ (printed-append key (34 ∷ []) (printed-plain key h.0) refl)
      (printed-append (piece_text p) _ (printed-piece n p h.1) (printed-fields n true fs h.2)))

ascii_byte : (b : ℕ) → is_printed b ≡ true → nat_lt b 128 ≡ true
ascii_byte b h = grind (arith, nat_tests)

ascii : (s : List ℕ) → are_printed s ≡ true → are_ascii s ≡ true
ascii [] h = refl
ascii (b ∷ s) h =
    let parts = and_parts (is_printed b) (are_printed s) h in
    and_from (nat_lt b 128) _ (ascii_byte b parts.0) (ascii s parts.1)

pub utf8-piece : (n : ℕ) (p : Piece) → IsWritten n p → is_utf8 (piece_text p) ≡ true
utf8-piece n p h = is_utf8-from_IsUtf8 (piece_text p) (IsUtf8-are_ascii (piece_text p) (ascii (piece_text p) (printed-piece n p h)))

no_feed_byte : (b : ℕ) → is_printed b ≡ true → (b == 10) ≡ false
no_feed_byte b h = grind (arith, nat_tests)

no_feed : (s : List ℕ) → are_printed s ≡ true → All (λ b. (b == 10) ≡ false) s
no_feed [] h k d lt = absurd (omega arith)
no_feed (b ∷ s) h zero d lt = no_feed_byte b (and_parts (is_printed b) (are_printed s) h).0
no_feed (b ∷ s) h (suc k) d lt = no_feed s (and_parts (is_printed b) (are_printed s) h).1 k d (omega arith)

-- no text of a piece has a line feed, and so no line
pub piece_has_no_feed : (n : ℕ) (p : Piece) → IsWritten n p → All (λ b. (b == 10) ≡ false) (piece_text p)
piece_has_no_feed n p h = no_feed (piece_text p) (printed-piece n p h)

pub line_has_no_feed : (line : ℕ) (reply : Reply) → IsWithin line reply → All (λ b. (b == 10) ≡ false) (reply_line line reply)
line_has_no_feed line reply h = piece_has_no_feed 6 (reply_piece line reply) (written line reply h)
