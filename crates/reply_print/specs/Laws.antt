-- What holds of the lines of all replies.
use Rattle.std.specs.Prelude.{◌≡◌, ℕ, Some}
use Rattle.serde_json.specs.Read.{read}
use Rattle.serde_json.specs.Written.{compact_text}
use Rattle.reply_print.specs.declared.replies.Reply.{Reply}
use Rattle.reply_print.specs.PieceData.{piece_data}
use Rattle.reply_print.specs.ReplyPieces.{reply_piece, reply_line}
use Rattle.reply_print.specs.Within.{IsWithin}

-- a line is the compact text of its value
abbrev pub LinesAreCompact : Type 0
LinesAreCompact = (line : ℕ) (reply : Reply) → reply_line line reply ≡ compact_text (piece_data (reply_piece line reply))

-- and reads as that value, where both are within their ranges
abbrev pub LinesAreRead : Type 0
LinesAreRead = (line : ℕ) (reply : Reply) → IsWithin line reply → read (reply_line line reply) ≡ Some (piece_data (reply_piece line reply))
