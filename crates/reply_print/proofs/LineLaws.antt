-- The two laws on which the lines rest.
use Rattle.std.proofs.Common.{◌≡◌, ℕ, pos, negsuc, false, Some, refl, sym, arith}
use Rattle.serde_json.specs.Read.{read}
use Rattle.serde_json.specs.Written.{compact_text, has_float, items_have_float, members_have_float}
use Rattle.reply_print.specs.declared.replies.Reply.{Reply}
use Rattle.reply_print.specs.Piece.{Piece, whole, words, truth, list, object, Pieces, no_pieces, piece, Fields, no_fields, field}
use Rattle.reply_print.specs.PieceData.{piece_data, pieces_data, fields_data}
use Rattle.reply_print.specs.ReplyPieces.{reply_piece, reply_line}
use Rattle.reply_print.specs.Within.{IsWithin}
use Rattle.reply_print.proofs.Compact.{compact-piece}
use Rattle.reply_print.proofs.PlainPieces.{reply_plain}
use Rattle.reply_print.proofs.ReadBack.{read-piece}
use Rattle.reply_print.proofs.WrittenReplies.{written}

-- the line of a reply is the compact text of its value
pub line_is_compact : (line : ℕ) (reply : Reply) → reply_line line reply ≡ compact_text (piece_data (reply_piece line reply))
line_is_compact line reply = sym (compact-piece (reply_piece line reply) (reply_plain line reply))

-- and reads as its value
pub line_reads : (line : ℕ) (reply : Reply) → IsWithin line reply → read (reply_line line reply) ≡ Some (piece_data (reply_piece line reply))
line_reads line reply h = read-piece 6 (reply_piece line reply) (reply_plain line reply) (written line reply h) (omega arith)

-- no value of a line has a float
mutual
  no_float : (p : Piece) → has_float (piece_data p) ≡ false
  no_float (whole (pos n)) = refl
  no_float (whole (negsuc n)) = refl
  no_float (words s) = refl
  no_float (truth b) = refl
  no_float (list ps) = no_floats ps
  no_float (object fs) = no_member_float fs

  no_floats : (ps : Pieces) → items_have_float (pieces_data ps) ≡ false
  no_floats no_pieces = refl
  no_floats (piece p ps) = rw (no_float p) (no_floats ps)

  no_member_float : (fs : Fields) → members_have_float (fields_data fs) ≡ false
  no_member_float no_fields = refl
  no_member_float (field k p fs) = rw (no_float p) (no_member_float fs)
