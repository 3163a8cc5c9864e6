-- The lists of a cover by cells, of which the items go behind one another.
use Rattle.std.proofs.Common.{◌≡◌, ℕ, ◌+◌, ◌<◌, ◌≤◌, List, [], ◌∷◌, ◌++◌, length, drop, get_or, Bool, false, true, codes, sym, ◌∙◌, arith}
use Rattle.std.proofs.lemmas.List.{at_drop_more, at_drop_all}
use Rattle.cell_cover.specs.declared.cover.Multiplier.{Multiplier}
use Rattle.reply_print.specs.BatchPieces.{natural, fraction, each, pieces_of}
use Rattle.reply_print.specs.Piece.{Piece, Pieces, piece, Fields, field, piece_text, pieces_text, fields_text}
use Rattle.reply_print.proofs.Behind.{all_items}
use Rattle.proposal_text.specs.CoverPieces.{flat_pieces, full_field, is_some_class, multipliers_piece}

-- the pieces of these multipliers
abbrev pub flat_of : List Multiplier → Pieces
flat_of ms = pieces_of (λ p. p) (flat_pieces ms)

-- the next multiplier, of which those before stand
pub next_multiplier : (ms : List Multiplier) (i : ℕ) (d : Multiplier) (line next total : List ℕ) (later : Bool) → i < length ms → line ++ pieces_text later (flat_of (drop i ms)) ≡ total
    → ((ps : Pieces) → next ++ pieces_text true ps ≡ line ++ pieces_text later (piece (natural (get_or ms i d).class) (piece (fraction (get_or ms i d).by) ps)))
    → next ++ pieces_text true (flat_of (drop (i + 1) ms)) ≡ total
next_multiplier ms i d line next total later lt h e =
    e (flat_of (drop (i + 1) ms)) ∙ sym (at_drop_more (λ ys. line ++ pieces_text later (flat_of ys)) ms i d lt) ∙ h

-- and then the other bracket
pub all_multipliers : (ms : List Multiplier) (i : ℕ) (old start mid new : List ℕ) (later : Bool) → length ms ≤ i → start ≡ old ++ 91 ∷ []
    → mid ++ pieces_text later (flat_of (drop i ms)) ≡ start ++ pieces_text false (flat_of ms) → new ≡ mid ++ 93 ∷ [] → new ≡ old ++ piece_text (multipliers_piece ms)
all_multipliers ms i old start mid new later all s m n =
    let k = length (flat_pieces ms) in
    let last = at_drop_all (λ (ps : List Piece). mid ++ pieces_text later (pieces_of (λ p. p) ps)) (flat_pieces ms) k (omega arith) in
    all_items (λ p. p) (flat_pieces ms) k old start mid new later (omega arith) s
    (last ∙ sym (at_drop_all (λ ys. mid ++ pieces_text later (flat_of ys)) ms i all) ∙ m) n

-- the classes with their whole kink, where there are some and where there are none
pub full_added : (full old new : List ℕ) → is_some_class full ≡ true
    → ((fs : Fields) → new ++ fields_text true fs ≡ old ++ fields_text false (field (codes "full") (each natural full) fs))
    → (fs : Fields) → new ++ fields_text (is_some_class full) fs ≡ old ++ fields_text false (full_field full fs)
full_added [] old new some e fs = absurd (cc)
full_added (k ∷ ks) old new some e fs = e fs
