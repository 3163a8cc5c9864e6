-- A list of values that grows with the items that it stands for.
use Rattle.std.proofs.Common.{◌≡◌, ◌+◌, List, [], ◌∷◌, ◌++◌, refl, sym, ap, ap₂, ◌∙◌}
use Rattle.serde_json.specs.Data.{Data, Items, no_items, item}
use Rattle.serde_json.specs.View.{view, items_view}
use Rattle.serde_json.specs.declared.value.Value.{Value}
use Rattle.reply_print.specs.BatchPieces.{pieces_of}
use Rattle.reply_print.specs.Piece.{Piece}
use Rattle.reply_print.specs.PieceData.{piece_data, pieces_data}

-- the values stand for these items
abbrev pub StandFor : {A : Type 0} → (A → Piece) → List A → List Value → Type 0
StandFor f xs vs = items_view vs ≡ pieces_data (pieces_of f xs)

abbrev snoc : Items → Data → Items
snoc no_items d = item d no_items
snoc (item e es) d = item e (snoc es d)

snoc_items : (vs : List Value) (v : Value) → items_view (vs ++ v ∷ []) ≡ snoc (items_view vs) (view v)
snoc_items [] v = refl
snoc_items (w ∷ vs) v = ap (item (view w)) (snoc_items vs v)

snoc_pieces : {A : Type 0} (f : A → Piece) (xs : List A) (x : A) → pieces_data (pieces_of f (xs ++ x ∷ [])) ≡ snoc (pieces_data (pieces_of f xs)) (piece_data (f x))
snoc_pieces f [] x = refl
snoc_pieces f (y ∷ xs) x = ap (item (piece_data (f y))) (snoc_pieces f xs x)

one_more : {A : Type 0} (f : A → Piece) (xs : List A) (vs : List Value) (x : A) (v : Value) → StandFor f xs vs → view v ≡ piece_data (f x) → StandFor f (xs ++ x ∷ []) (vs ++ v ∷ [])
one_more f xs vs x v h e = snoc_items vs v ∙ ap₂ snoc h e ∙ sym (snoc_pieces f xs x)
