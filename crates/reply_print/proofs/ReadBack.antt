-- The text of a piece reads as its value.
use Rattle.std.proofs.Common.{◌≡◌, ℕ, zero, suc, ◌^◌, ◌≤◌, pos, negsuc, List, [], ◌∷◌, ◌++◌, true, false, Some, option_map, option_and_then, Ordering, Less, Equal, Greater, refl, sym, ap, ap₂, ◌∙◌, arith, append-nil}
use Rattle.std.specs.List.{list_all}
use Rattle.std.specs.Ordering.{nat_cmp, match_ordering}
use Rattle.std.specs.Cmp.Lexicographic.{slice_cmp}
use Rattle.std.proofs.lemmas.Bool.{and_parts, ltb-true}
use Rattle.json.specs.Json as json
use Rattle.json.specs.Lex.{tokens}
use Rattle.json.specs.Print.{print}
use Rattle.json.specs.Tree as tree
use Rattle.json.specs.Tree.{json_tokens, HasNumbers, ItemsHaveNumbers, MembersHaveNumbers}
use Rattle.json.proofs.Printed.Decimals.{IsNumber-decimal, IsNumber-signed_decimal}
use Rattle.json.proofs.Printed.Trees.{value-json_tokens, ArePrintable-json_tokens}
use Rattle.json.proofs.Printed.Tokens.{tokens-print}
use Rattle.serde_json.specs.Data.{Data, number, array, item, Members, no_members, member, put}
use Rattle.serde_json.specs.Data as data_words
use Rattle.serde_json.specs.Read.{read, max_depth, of_json, of_items, of_members}
use Rattle.serde_json.specs.Written.{outline, items_outline, members_outline}
use Rattle.serde_json.proofs.Numbers.{number_of-decimal, number_of-negative}
use Rattle.serde_json.proofs.Texts.{print-outline}
use Rattle.reply_print.specs.Piece.{Piece, whole, words, truth, list, object, Pieces, no_pieces, piece, Fields, no_fields, field, piece_text}
use Rattle.reply_print.specs.PieceData.{piece_data, pieces_data, fields_data}
use Rattle.reply_print.specs.Written.{is_after, are_rising, IsWritten, AreWritten, HasWritten}
use Rattle.reply_print.proofs.Compact.{compact-piece}
use Rattle.reply_print.proofs.PlainPieces.{HasPlainTexts}

-- ---- members in order go in one after another

abbrev joined : Members → Members → Members
joined no_members more = more
joined (member k d ms) more = member k d (joined ms more)

abbrev keys_in : Members → List (List ℕ)
keys_in no_members = []
keys_in (member k d ms) = k ∷ keys_in ms

joined-nothing : (ms : Members) → joined ms no_members ≡ ms
joined-nothing no_members = refl
joined-nothing (member k d ms) = ap (member k d) (joined-nothing ms)

joined-joined : (ms more last : Members) → joined (joined ms more) last ≡ joined ms (joined more last)
joined-joined no_members more last = refl
joined-joined (member k d ms) more last = ap (member k d) (joined-joined ms more last)

keys_in-joined : (ms : Members) (k : List ℕ) (d : Data) → keys_in (joined ms (member k d no_members)) ≡ keys_in ms ++ k ∷ []
keys_in-joined no_members k d = refl
keys_in-joined (member l e ms) k d = ap (λ (ls : List (List ℕ)). l ∷ ls) (keys_in-joined ms k d)

goes_on : (o : Ordering) (a b c : Members) → match_ordering o false false true ≡ true → match_ordering o a b c ≡ c
goes_on Less a b c h = absurd (cc)
goes_on Equal a b c h = absurd (cc)
goes_on Greater a b c h = refl

put-after : (k : List ℕ) (d : Data) (found : Members) → list_all (is_after k) (keys_in found) ≡ true → put k d found ≡ joined found (member k d no_members)
put-after k d no_members h = refl
put-after k d (member l e ms) h =
    let parts = and_parts (is_after k l) (list_all (is_after k) (keys_in ms)) h in
    goes_on (slice_cmp nat_cmp k l) _ _ _ parts.0 ∙ ap (member l e) (put-after k d ms parts.1)

-- ---- the parts of the round trip

mutual
  has_numbers : (n : ℕ) (p : Piece) → IsWritten n p → HasNumbers (outline (piece_data p))
  has_numbers n (whole (pos z)) h = IsNumber-decimal z (omega (arith, ltb-true z (2 ^ 63) h))
  has_numbers n (whole (negsuc z)) h = IsNumber-signed_decimal (negsuc z) (omega (arith, ltb-true (suc z) (2 ^ 63) h))
  has_numbers n (words s) h = tt
  has_numbers n (truth b) h = tt
  has_numbers zero (list ps) h = absurd h
  has_numbers (suc n) (list ps) h = items_have_numbers n ps h
  has_numbers zero (object fs) h = absurd h
  has_numbers (suc n) (object fs) h = members_have_numbers n fs h.1

  items_have_numbers : (n : ℕ) (ps : Pieces) → AreWritten n ps → ItemsHaveNumbers (items_outline (pieces_data ps))
  items_have_numbers n no_pieces h = tt
  items_have_numbers n (piece p ps) h = (has_numbers n p h.0, items_have_numbers n ps h.1)

  members_have_numbers : (n : ℕ) (fs : Fields) → HasWritten n fs → MembersHaveNumbers (members_outline (fields_data fs))
  members_have_numbers n no_fields h = tt
  members_have_numbers n (field k p fs) h = (has_numbers n p h.1, members_have_numbers n fs h.2)

mutual
  levels : (n : ℕ) (p : Piece) → IsWritten n p → tree.depth (outline (piece_data p)) ≤ n
  levels n (whole (pos z)) h = omega arith
  levels n (whole (negsuc z)) h = omega arith
  levels n (words s) h = omega arith
  levels n (truth b) h = omega arith
  levels zero (list ps) h = absurd h
  levels (suc n) (list ps) h = omega (arith, items_levels n ps h)
  levels zero (object fs) h = absurd h
  levels (suc n) (object fs) h = omega (arith, members_levels n fs h.1)

  items_levels : (n : ℕ) (ps : Pieces) → AreWritten n ps → tree.items_depth (items_outline (pieces_data ps)) ≤ n
  items_levels n no_pieces h = omega arith
  items_levels n (piece p ps) h = omega (arith, levels n p h.0, items_levels n ps h.1)

  members_levels : (n : ℕ) (fs : Fields) → HasWritten n fs → tree.members_depth (members_outline (fields_data fs)) ≤ n
  members_levels n no_fields h = omega arith
  members_levels n (field k p fs) h = omega (arith, levels n p h.1, members_levels n fs h.2)

mutual
  of_outline : (n : ℕ) (p : Piece) → IsWritten n p → of_json (outline (piece_data p)) ≡ Some (piece_data p)
  of_outline n (whole (pos z)) h = ap (option_map number) (number_of-decimal z (omega (arith, ltb-true z (2 ^ 63) h)))
  of_outline n (whole (negsuc z)) h = ap (option_map number) (number_of-negative z (omega (arith, ltb-true (suc z) (2 ^ 63) h)))
  of_outline n (words s) h = refl
  of_outline n (truth b) h = refl
  of_outline zero (list ps) h = absurd h
  of_outline (suc n) (list ps) h = ap (option_map array) (of_items_outline n ps h)
  of_outline zero (object fs) h = absurd h
  of_outline (suc n) (object fs) h = ap (option_map data_words.object) (of_members_outline n no_members fs h.0 h.1)

  of_items_outline : (n : ℕ) (ps : Pieces) → AreWritten n ps → of_items (items_outline (pieces_data ps)) ≡ Some (pieces_data ps)
  of_items_outline n no_pieces h = refl
  of_items_outline n (piece p ps) h = ap₂ (λ a b. option_and_then (λ d. option_map (item d) b) a) (of_outline n p h.0) (of_items_outline n ps h.1)

  of_members_outline : (n : ℕ) (found : Members) (fs : Fields) → are_rising (keys_in found) fs ≡ true → HasWritten n fs
      → of_members (members_outline (fields_data fs)) found ≡ Some (joined found (fields_data fs))
  of_members_outline n found no_fields rising h = ap Some (sym (joined-nothing found))
  of_members_outline n found (field k p fs) rising h =
      let parts = and_parts (list_all (is_after k) (keys_in found)) (are_rising (keys_in found ++ k ∷ []) fs) rising in
      let more = member k (piece_data p) no_members in
      let going = ap (λ (seen : List (List ℕ)). are_rising seen fs) (keys_in-joined found k (piece_data p)) ∙ parts.1 in
      ap (λ o. option_and_then (λ d. of_members (members_outline (fields_data fs)) (put k d found)) o) (of_outline n p h.1)
      ∙ ap (of_members (members_outline (fields_data fs))) (put-after k (piece_data p) found parts.0)
      ∙ of_members_outline n (joined found more) fs going h.2
      ∙ ap Some (joined-joined found more (fields_data fs))

-- the text reads as the value
pub read-piece : (n : ℕ) (p : Piece) → HasPlainTexts p → IsWritten n p → n ≤ max_depth → read (piece_text p) ≡ Some (piece_data p)
read-piece n p plain h shallow =
    let j = outline (piece_data p) in
    let text : piece_text p ≡ print (json_tokens j) = sym (compact-piece p plain) ∙ sym (print-outline (piece_data p)) in
    let lexed : tokens (piece_text p) ≡ json_tokens j = ap tokens text ∙ tokens-print (json_tokens j) (ArePrintable-json_tokens j (has_numbers n p h)) in
    let parsed : json.value max_depth (tokens (piece_text p)) ≡ Some (j, []) =
    ap (json.value max_depth) (lexed ∙ sym (append-nil (json_tokens j))) ∙ value-json_tokens j max_depth [] (omega (arith, levels n p h)) in
    ap (λ o. option_and_then of_json (option_and_then (λ q. json.if_last q.0 q.1) o)) parsed ∙ of_outline n p h
