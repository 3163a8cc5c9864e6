-- Pieces that go behind one another are the text of the whole.
use Rattle.std.proofs.Common.{◌≡◌, ℕ, ◌+◌, ◌<◌, ◌≤◌, List, [], ◌∷◌, ◌++◌, length, take, drop, get_or, Bool, true, false, sym, ap, ◌∙◌, append_assoc}
use Rattle.std.proofs.lemmas.List.{at_drop_more, at_drop_all}
use Rattle.sign_tree.specs.declared.trees.Node.{Node}
use Rattle.sign_tree.specs.declared.trees.Multiplier.{Multiplier}
use Rattle.reply_print.specs.BatchPieces.{pieces_of}
use Rattle.reply_print.specs.OutcomePieces.{count_of, node_piece, node_pieces}
use Rattle.reply_print.specs.Piece.{Piece, whole, words, truth, list, object, Pieces, no_pieces, piece, Fields, no_fields, field, comma_after, piece_text, pieces_text, fields_text}

-- what stands ahead of a key
opened : (old key : List ℕ) (later : Bool) (rest : List ℕ)
    → (((old ++ (comma_after later ++ 34 ∷ [])) ++ key) ++ 34 ∷ 58 ∷ []) ++ rest ≡ old ++ (comma_after later ++ ((34 ∷ (key ++ 34 ∷ [])) ++ 58 ∷ rest))
opened old key later rest = simp append_assoc

-- a key behind its comma
pub key_added : (old a b c key opening : List ℕ) (later : Bool) → opening ≡ comma_after later ++ 34 ∷ [] → a ≡ old ++ opening → b ≡ a ++ key → c ≡ b ++ 34 ∷ 58 ∷ []
    → (p : Piece) (fs : Fields) → c ++ (piece_text p ++ fields_text true fs) ≡ old ++ fields_text later (field key p fs)
key_added old a b c key opening later o h k e p fs =
    let is : c ≡ ((old ++ (comma_after later ++ 34 ∷ [])) ++ key) ++ 34 ∷ 58 ∷ [] =
    e ∙ ap (λ (l : List ℕ). l ++ 34 ∷ 58 ∷ []) (k ∙ ap (λ (l : List ℕ). l ++ key) (h ∙ ap (λ (l : List ℕ). old ++ l) o)) in
    ap (λ (l : List ℕ). l ++ (piece_text p ++ fields_text true fs)) is ∙ opened old key later (piece_text p ++ fields_text true fs)

-- a text between quotation marks
pub quoted : (old a b c text : List ℕ) → a ≡ old ++ 34 ∷ [] → b ≡ a ++ text → c ≡ b ++ 34 ∷ [] → c ≡ old ++ 34 ∷ (text ++ 34 ∷ [])
quoted old a b c text h k e =
    e ∙ ap (λ (l : List ℕ). l ++ 34 ∷ []) (k ∙ ap (λ (l : List ℕ). l ++ text) h) ∙ append_assoc (old ++ 34 ∷ []) text (34 ∷ []) ∙ append_assoc old (34 ∷ []) (text ++ 34 ∷ [])

-- a piece behind its key
pub field_added : (old mid new : List ℕ) (later : Bool) (key : List ℕ) (p : Piece)
    → ((q : Piece) (fs : Fields) → mid ++ (piece_text q ++ fields_text true fs) ≡ old ++ fields_text later (field key q fs)) → new ≡ mid ++ piece_text p
    → (fs : Fields) → new ++ fields_text true fs ≡ old ++ fields_text later (field key p fs)
field_added old mid new later key p opens e fs = ap (λ (l : List ℕ). l ++ fields_text true fs) e ∙ append_assoc mid (piece_text p) (fields_text true fs) ∙ opens p fs

-- what stands behind what stands there
pub behind : (old mid new x y : List ℕ) → mid ≡ old ++ x → new ≡ mid ++ y → new ≡ old ++ (x ++ y)
behind old mid new x y h k = k ∙ ap (λ (l : List ℕ). l ++ y) h ∙ append_assoc old x y

-- a text, ahead of which all up to its quotation mark stands, and behind which the other mark and the rest
pub marked_behind : (old mid new ahead text rest : List ℕ) → mid ≡ old ++ (ahead ++ text) → new ≡ mid ++ 34 ∷ rest → new ≡ old ++ (ahead ++ ((text ++ 34 ∷ []) ++ rest))
marked_behind old mid new ahead text rest h e =
    behind old mid new (ahead ++ text) (34 ∷ rest) h e ∙ ap (λ (l : List ℕ). old ++ l) (append_assoc ahead text (34 ∷ rest) ∙ ap (λ (l : List ℕ). ahead ++ l) (sym (append_assoc text (34 ∷ []) rest)))

-- and so where the text goes behind its mark alone
pub quoted_behind : (old a b new ahead text rest : List ℕ) → a ≡ old ++ ahead → b ≡ a ++ text → new ≡ b ++ 34 ∷ rest → new ≡ old ++ (ahead ++ ((text ++ 34 ∷ []) ++ rest))
quoted_behind old a b new ahead text rest h k e = marked_behind old b new ahead text rest (behind old a b ahead text h k) e

-- an item behind its comma
pub item_added : (old mid new comma : List ℕ) (later : Bool) (p : Piece) → comma ≡ comma_after later → mid ≡ old ++ comma → new ≡ mid ++ piece_text p
    → (ps : Pieces) → new ++ pieces_text true ps ≡ old ++ pieces_text later (piece p ps)
item_added old mid new comma later p o m e ps =
    ap (λ (l : List ℕ). l ++ pieces_text true ps) e ∙ append_assoc mid (piece_text p) (pieces_text true ps)
    ∙ ap (λ (l : List ℕ). l ++ (piece_text p ++ pieces_text true ps)) (m ∙ ap (λ (l : List ℕ). old ++ l) o) ∙ append_assoc old (comma_after later) (piece_text p ++ pieces_text true ps)

-- the next item of a list, of which those before stand
pub next_item : {A : Type 0} (f : A → Piece) (xs : List A) (i : ℕ) (d : A) (line next total : List ℕ) (later : Bool) → i < length xs
    → line ++ pieces_text later (pieces_of f (drop i xs)) ≡ total → ((ps : Pieces) → next ++ pieces_text true ps ≡ line ++ pieces_text later (piece (f (get_or xs i d)) ps))
    → next ++ pieces_text true (pieces_of f (drop (i + 1) xs)) ≡ total
next_item f xs i d line next total later lt h e =
    e (pieces_of f (drop (i + 1) xs)) ∙ sym (at_drop_more (λ ys. line ++ pieces_text later (pieces_of f ys)) xs i d lt) ∙ h

-- a list, of which the bracket and the items stand, and then the other bracket
pub ended : (old start mid new : List ℕ) (later : Bool) (ps : Pieces) → start ≡ old ++ 91 ∷ [] → mid ++ pieces_text later no_pieces ≡ start ++ pieces_text false ps → new ≡ mid ++ 93 ∷ []
    → new ≡ old ++ piece_text (list ps)
ended old start mid new later ps s m n = n ∙ m ∙ ap (λ (l : List ℕ). l ++ pieces_text false ps) s ∙ append_assoc old (91 ∷ []) (pieces_text false ps)

pub all_items : {A : Type 0} (f : A → Piece) (xs : List A) (i : ℕ) (old start mid new : List ℕ) (later : Bool) → length xs ≤ i → start ≡ old ++ 91 ∷ []
    → mid ++ pieces_text later (pieces_of f (drop i xs)) ≡ start ++ pieces_text false (pieces_of f xs) → new ≡ mid ++ 93 ∷ [] → new ≡ old ++ piece_text (list (pieces_of f xs))
all_items f xs i old start mid new later all s m n =
    ended old start mid new later (pieces_of f xs) s (sym (at_drop_all (λ ys. mid ++ pieces_text later (pieces_of f ys)) xs i all) ∙ m) n

abbrev pub fields_of : Piece → Fields
fields_of (whole z) = no_fields
fields_of (words s) = no_fields
fields_of (truth b) = no_fields
fields_of (list ps) = no_fields
fields_of (object fs) = fs

-- an object, of which the brace and the fields stand, and then the other brace
pub closed : (old start mid new : List ℕ) (fs : Fields) → start ≡ old ++ 123 ∷ [] → mid ++ fields_text true no_fields ≡ start ++ fields_text false fs → new ≡ mid ++ 125 ∷ []
    → new ≡ old ++ piece_text (object fs)
closed old start mid new fs s m n = n ∙ m ∙ ap (λ (l : List ℕ). l ++ fields_text false fs) s ∙ append_assoc old (123 ∷ []) (fields_text false fs)

-- the next node, of which those before stand, with its multipliers
pub next_node : (nodes : List Node) (i : ℕ) (d : Node) (count : ℕ) (own rest ms : List Multiplier) (line mid next comma total : List ℕ) (later : Bool) → i < length nodes
    → count ≡ count_of (get_or nodes i d) → own ≡ take count ms → rest ≡ drop count ms → line ++ pieces_text later (node_pieces (drop i nodes) ms) ≡ total
    → comma ≡ comma_after later → mid ≡ line ++ comma → next ≡ mid ++ piece_text (node_piece (get_or nodes i d) own)
    → next ++ pieces_text true (node_pieces (drop (i + 1) nodes) rest) ≡ total
next_node nodes i d count own rest ms line mid next comma total later lt n o r h s m e =
    let node = get_or nodes i d in
    let more = node_pieces (drop (i + 1) nodes) (drop (count_of node) ms) in
    ap (λ (l : List Multiplier). next ++ pieces_text true (node_pieces (drop (i + 1) nodes) l)) (r ∙ ap (λ k. drop k ms) n)
    ∙ item_added line mid next comma later (node_piece node own) s m e more
    ∙ ap (λ (l : List Multiplier). line ++ pieces_text later (piece (node_piece node l) more)) (o ∙ ap (λ k. take k ms) n)
    ∙ sym (at_drop_more (λ ns. line ++ pieces_text later (node_pieces ns ms)) nodes i d lt) ∙ h

pub all_nodes : (nodes : List Node) (i : ℕ) (left ms : List Multiplier) (old start mid new : List ℕ) (later : Bool) → length nodes ≤ i → start ≡ old ++ 91 ∷ []
    → mid ++ pieces_text later (node_pieces (drop i nodes) left) ≡ start ++ pieces_text false (node_pieces nodes ms) → new ≡ mid ++ 93 ∷ []
    → new ≡ old ++ piece_text (list (node_pieces nodes ms))
all_nodes nodes i left ms old start mid new later all s m n =
    ended old start mid new later (node_pieces nodes ms) s (sym (at_drop_all (λ ns. mid ++ pieces_text later (node_pieces ns left)) nodes i all) ∙ m) n
