-- The JSON value of what a line is made of.
use Rattle.serde_json.specs.Data.{Data, boolean, number, string, array, object, Items, no_items, item, Members, no_members, member}
use Rattle.serde_json.specs.Find.{of_integer}
use Rattle.reply_print.specs.Piece as piece
use Rattle.reply_print.specs.Piece.{Piece, Pieces, Fields}

abbrev mutual
  pub piece_data : Piece → Data
  piece_data (piece.whole z) = number (of_integer z)
  piece_data (piece.words s) = string s
  piece_data (piece.truth b) = boolean b
  piece_data (piece.list ps) = array (pieces_data ps)
  piece_data (piece.object fs) = object (fields_data fs)

  pub pieces_data : Pieces → Items
  pieces_data piece.no_pieces = no_items
  pieces_data (piece.piece p ps) = item (piece_data p) (pieces_data ps)

  pub fields_data : Fields → Members
  fields_data piece.no_fields = no_members
  fields_data (piece.field key p fs) = member key (piece_data p) (fields_data fs)
