-- A text that ends with a brace, and begins with no mark, is read as it is written.
use Rattle.std.proofs.Common.{◌≡◌, ℕ, suc, ◌-◌, List, [], ◌∷◌, ◌++◌, Bool, true, false, ◌==◌, ◌&&◌, length, take, drop, get_or, codes, if◌then◌else◌, refl, sym, ap, ◌∙◌, subst, arith, append_assoc, length-append}
use Rattle.std.specs.Fmt.{decimal}
use Rattle.command_text.specs.Lines.{mark_size, without_return}
use Rattle.live_lines.specs.Open.{unmarked}
use Rattle.form.specs.declared.orders.Batch.{Batch}
use Rattle.reply_print.specs.Piece.{Fields, Piece, comma_after, field, fields_text, no_fields, object, piece_text}
use Rattle.proposal_text.specs.Pieces.{proposal_line, proposal_piece, submission_piece, submission_text}
use Rattle.proposal_text.specs.declared.replies.ProposalReply.TheVariants.{Book}
use Rattle.proposal_text.specs.declared.submissions.Submission.{Submission}
use Rattle.book_proposals.specs.Answers.{proposing_text}
use Rattle.reply_ranges.specs.Books.{IsWholeText}

-- ---- the mark at the start
mark_is : (b : ℕ) (rest : List ℕ) → (b == 0xEF) ≡ false → mark_size (b ∷ rest) ≡ 0
mark_is b [] other = refl
mark_is b (c ∷ []) other = refl
mark_is b (c ∷ d ∷ rest) other = rw other refl

unmarked_is : (skips : Bool) (number b : ℕ) (rest : List ℕ) → (b == 0xEF) ≡ false → unmarked skips number (b ∷ rest) ≡ b ∷ rest
unmarked_is skips number b rest other = by (skips && (number == 1))
  where
    by : (c : Bool) → (if c then drop (mark_size (b ∷ rest)) (b ∷ rest) else b ∷ rest) ≡ b ∷ rest
    by true = ap (λ n. drop n (b ∷ rest)) (mark_is b rest other)
    by false = refl

-- ---- the brace at the end
abbrev EndsClosed : List ℕ → Type 0
EndsClosed text = (front : List ℕ) × (text ≡ front ++ 125 ∷ [])

closed_behind : (front text : List ℕ) → EndsClosed text → EndsClosed (front ++ text)
closed_behind front text h = (front ++ h.0, ap (λ l. front ++ l) h.1 ∙ sym (append_assoc front h.0 (125 ∷ [])))

fields_close : (later : Bool) (fs : Fields) → EndsClosed (fields_text later fs)
fields_close later no_fields = ([], refl)
fields_close later (field key p fs) =
    let value = 58 ∷ (piece_text p ++ fields_text true fs) in
    closed_behind (comma_after later) _ (closed_behind (34 ∷ (key ++ 34 ∷ [])) value
    (closed_behind (58 ∷ []) _ (closed_behind (piece_text p) _ (fields_close true fs))))

last_byte : (front : List ℕ) → get_or (front ++ 125 ∷ []) (length (front ++ 125 ∷ []) - 1) 0 ≡ 125
last_byte [] = refl
last_byte (b ∷ front) =
    let rest = front ++ 125 ∷ [] in
    let moved : length (b ∷ rest) - 1 ≡ suc (length rest - 1) = omega (arith, length-append front (125 ∷ [])) in
    ap (λ n. get_or (b ∷ rest) n 0) moved ∙ last_byte front

no_return : (text : List ℕ) → EndsClosed text → without_return text ≡ text
no_return text h =
    let line = h.0 ++ 125 ∷ [] in
    subst (λ l. without_return l ≡ l) (sym h.1)
    (ap (λ b. if b == 13 then take (length line - 1) line else line) (last_byte h.0))

whole : (b : ℕ) (rest : List ℕ) → (b == 0xEF) ≡ false → EndsClosed rest → IsWholeText (b ∷ rest)
whole b rest other h skips number = ap without_return (unmarked_is skips number b rest other) ∙ no_return (b ∷ rest) (closed_behind (b ∷ []) rest h)

-- ---- the texts of objects
abbrev fields_of : Piece → Fields
fields_of (object fs) = fs
fields_of other = no_fields

pub book_is_whole : (number market : ℕ) (batch : Batch) → IsWholeText (proposal_line number (Book market batch))
book_is_whole number market batch =
    let fs = fields_of (proposal_piece number (Book market batch)) in
    whole 123 (fields_text false fs) refl (fields_close false fs)

pub proposing_is_whole : (market : ℕ) (s : Submission) → IsWholeText (proposing_text market s)
proposing_is_whole market s =
    let fs = fields_of (submission_piece s) in
    let rest = codes "," ++ submission_text s in
    whole 112 (codes "ropose," ++ (decimal market ++ rest)) refl
    (closed_behind (codes "ropose,") (decimal market ++ rest) (closed_behind (decimal market) rest
    (closed_behind (codes ",{") (fields_text false fs) (fields_close false fs))))
