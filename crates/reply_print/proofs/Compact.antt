-- The compact text of the value of a piece is its text.
use Rattle.std.proofs.Common.{◌≡◌, ℕ, pos, negsuc, List, [], ◌∷◌, ◌++◌, Bool, true, false, refl, ap}
use Rattle.serde_json.specs.Written.{compact_text, items_text, members_text}
use Rattle.reply_print.specs.Piece.{Piece, whole, words, truth, list, object, Pieces, no_pieces, piece, Fields, no_fields, field, comma_after, piece_text, pieces_text, fields_text}
use Rattle.reply_print.specs.PieceData.{piece_data, pieces_data, fields_data}
use Rattle.reply_print.proofs.Plain.{escape-plain}
use Rattle.reply_print.proofs.PlainPieces.{HasPlainTexts, HavePlainTexts, HasPlainFields}

mutual
  pub compact-piece : (p : Piece) → HasPlainTexts p → compact_text (piece_data p) ≡ piece_text p
  compact-piece (whole (pos z)) h = refl
  compact-piece (whole (negsuc z)) h = refl
  compact-piece (words s) h = ap (λ (l : List ℕ). 34 ∷ (l ++ 34 ∷ [])) (escape-plain s h)
  compact-piece (truth true) h = refl
  compact-piece (truth false) h = refl
  compact-piece (list ps) h = ap (λ (l : List ℕ). 91 ∷ l) (compact-pieces false ps h)
  compact-piece (object fs) h = ap (λ (l : List ℕ). 123 ∷ l) (compact-fields false fs h)

  compact-pieces : (later : Bool) (ps : Pieces) → HavePlainTexts ps → items_text later (pieces_data ps) ≡ pieces_text later ps
  compact-pieces later no_pieces h = refl
  compact-pieces later (piece p ps) h = λ i. comma_after later ++ (compact-piece p h.0 i ++ compact-pieces true ps h.1 i)

  compact-fields : (later : Bool) (fs : Fields) → HasPlainFields fs → members_text later (fields_data fs) ≡ fields_text later fs
  compact-fields later no_fields h = refl
  compact-fields later (field key p fs) h =
      λ i. comma_after later ++ ((34 ∷ (escape-plain key h.0 i ++ 34 ∷ [])) ++ 58 ∷ (compact-piece p h.1 i ++ compact-fields true fs h.2 i))
