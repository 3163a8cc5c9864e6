-- The fields of a line are what stands between its commas, without the quotation marks around it.
use Rattle.std.proofs.Common.{◌≡◌, ℕ, suc, arith, ◌-◌, List, [], ◌∷◌, length, take, map, Bool, true, false, not, nat_eq, Option, Some, None, is_some, option_map, option_and_then, inl, inr, refl, sym, ap, ◌∙◌, true≢false, ◌||◌, ◌&&◌, ◌==◌, if◌then◌else◌}
use Rattle.std.proofs.lemmas.Bool.{and_parts, cases_Bool, not-true, or_parts}
use Rattle.std.specs.List.{list_all, slice_split}
use Rattle.command_text.specs.Fields.{before_end_quote, field_of, fields_of_line, fields_of_pieces, first_of_many, has_quote, is_bare, is_readable, without_quotes}
use Rattle.command_text.proofs.BareLines.{bare_is_readable, no_quote}

abbrev split : List ℕ → List (List ℕ)
split line = slice_split (λ b. b == 44) line

-- ---- a piece that is a field
front_of : (b c : ℕ) (bs : List ℕ) → take (length (b ∷ c ∷ bs) - 1) (b ∷ c ∷ bs) ≡ b ∷ take (length (c ∷ bs) - 1) (c ∷ bs)
front_of b c bs =
    let rest = length (c ∷ bs) - 1 in
    let one_more : length (b ∷ c ∷ bs) - 1 ≡ suc rest = omega arith in
    ap (λ n. take n (b ∷ c ∷ bs)) one_more

longer : (b : ℕ) (bs text : List ℕ) (rest : Option (List ℕ)) → ((t : List ℕ) → rest ≡ Some t → take (length bs - 1) bs ≡ t) → option_map (λ t. b ∷ t) rest ≡ Some text
    → b ∷ take (length bs - 1) bs ≡ text
longer b bs text None later same = absurd (cc)
longer b bs text (Some t) later same = let one = later t refl in cc

before : (bs text : List ℕ) → before_end_quote bs ≡ Some text → take (length bs - 1) bs ≡ text
before [] text e = absurd (cc)
before (b ∷ []) text e = elim (cases_Bool (nat_eq b 34)) [
  | inl quote ↦ (let at : Some [] ≡ Some text = sym (ap (λ q. if q then Some [] else option_map (λ t. b ∷ t) None) quote) ∙ e in cc)
  | inr other ↦ absurd (let at : None ≡ Some text = sym (ap (λ q. if q then Some [] else option_map (λ t. b ∷ t) None) other) ∙ e in cc)
]
before (b ∷ c ∷ bs) text e =
    let rest = before_end_quote (c ∷ bs) in
    let later = before (c ∷ bs) in
    elim (cases_Bool (nat_eq b 34)) [
      | inl quote ↦ absurd (let at : None ≡ Some text = sym (ap (λ q. if q then None else option_map (λ t. b ∷ t) rest) quote) ∙ e in cc)
      | inr other ↦ front_of b c bs ∙ longer b (c ∷ bs) text rest later (sym (ap (λ q. if q then None else option_map (λ t. b ∷ t) rest) other) ∙ e)
    ]

field_text : (piece field : List ℕ) → field_of piece ≡ Some field → without_quotes piece ≡ field
field_text [] field e = cc
field_text (b ∷ bs) field e = elim (cases_Bool (nat_eq b 34)) [
  | inl quote ↦
      ap (λ q. if q then take (length bs - 1) bs else b ∷ bs) quote
      ∙ before bs field (sym (ap (λ q. if q then before_end_quote bs else (if has_quote bs then None else Some (b ∷ bs))) quote) ∙ e)
  | inr other ↦
      ap (λ q. if q then take (length bs - 1) bs else b ∷ bs) other
      ∙ plain (has_quote bs) (sym (ap (λ q. if q then before_end_quote bs else (if has_quote bs then None else Some (b ∷ bs))) other) ∙ e)
]
  where
    plain : (quoted : Bool) → (if quoted then None else Some (b ∷ bs)) ≡ Some field → b ∷ bs ≡ field
    plain true same = absurd (cc)
    plain false same = cc

more_texts : (piece : List ℕ) (texts : List (List ℕ)) (first : Option (List ℕ)) (rest : Option (List (List ℕ))) (fields : List (List ℕ))
    → ((field : List ℕ) → first ≡ Some field → without_quotes piece ≡ field) → ((more : List (List ℕ)) → rest ≡ Some more → texts ≡ more)
    → option_and_then (λ field. option_map (λ more. field ∷ more) rest) first ≡ Some fields → without_quotes piece ∷ texts ≡ fields
more_texts piece texts None rest fields one later same = absurd (cc)
more_texts piece texts (Some field) None fields one later same = absurd (cc)
more_texts piece texts (Some field) (Some more) fields one later same = let is = one field refl in let are = later more refl in cc

field_texts : (pieces fields : List (List ℕ)) → fields_of_pieces pieces ≡ Some fields → map without_quotes pieces ≡ fields
field_texts [] fields e = cc
field_texts (piece ∷ pieces) fields e =
    more_texts piece (map without_quotes pieces) (field_of piece) (fields_of_pieces pieces) fields (field_text piece) (field_texts pieces) e

-- ---- a line that is a list of fields
by_test : (test : Bool) (fields : Option (List (List ℕ))) (pieces : List (List ℕ)) → ((gs : List (List ℕ)) → fields ≡ Some gs → pieces ≡ gs)
    → is_some (if test then fields else None) ≡ true → Some (first_of_many pieces) ≡ option_map first_of_many (if test then fields else None)
by_test false fields pieces same is = absurd (true≢false (sym is))
by_test true None pieces same is = absurd (true≢false (sym is))
by_test true (Some gs) pieces same is = ap (λ l. Some (first_of_many l)) (same gs refl)

pub texts_are_fields : (line : List ℕ) → is_some (fields_of_line line) ≡ true → Some (first_of_many (map without_quotes (split line))) ≡ option_map first_of_many (fields_of_line line)
texts_are_fields line is = by_test (is_readable line) (fields_of_pieces (split line)) (map without_quotes (split line)) (field_texts (split line)) is

pub no_list : (line : List ℕ) → is_some (fields_of_line line) ≡ false → None ≡ option_map first_of_many (fields_of_line line)
no_list line is = by (fields_of_line line) is
  where
    by : (fields : Option (List (List ℕ))) → is_some fields ≡ false → None ≡ option_map first_of_many fields
    by None e = refl
    by (Some fields) e = absurd (true≢false e)

-- ---- the test of a line
added : (first : Option (List ℕ)) (rest : Option (List (List ℕ))) → is_some (option_and_then (λ field. option_map (λ fields. field ∷ fields) rest) first) ≡ (is_some first && is_some rest)
added None rest = refl
added (Some x) None = refl
added (Some x) (Some xs) = refl

all_fields : (pieces : List (List ℕ)) → is_some (fields_of_pieces pieces) ≡ list_all (λ piece. is_some (field_of piece)) pieces
all_fields [] = refl
all_fields (piece ∷ pieces) = added (field_of piece) (fields_of_pieces pieces) ∙ ap (λ b. is_some (field_of piece) && b) (all_fields pieces)

tested : (test : Bool) (fields : Option (List (List ℕ))) → is_some (if test then fields else None) ≡ (test && is_some fields)
tested true fields = refl
tested false fields = refl

is_tested : (line : List ℕ) → is_some (fields_of_line line) ≡ (is_readable line && list_all (λ piece. is_some (field_of piece)) (split line))
is_tested line = tested (is_readable line) (fields_of_pieces (split line)) ∙ ap (λ b. is_readable line && b) (all_fields (split line))

-- ---- a line without quotation marks
split_comma : (b : ℕ) (bs : List ℕ) → nat_eq b 44 ≡ true → split (b ∷ bs) ≡ [] ∷ split bs
split_comma b bs e = rw e refl

split_other : (b : ℕ) (bs first : List ℕ) (rest : List (List ℕ)) → nat_eq b 44 ≡ false → split bs ≡ first ∷ rest → split (b ∷ bs) ≡ (b ∷ first) ∷ rest
split_other b bs first rest e is = rw (e, is) refl

parts : (bs : List ℕ) → (first : List ℕ) × (rest : List (List ℕ)) × (split bs ≡ first ∷ rest)
parts [] = ([], [], refl)
parts (b ∷ bs) = elim (cases_Bool (nat_eq b 44)) [
  | inl comma ↦ ([], split bs, split_comma b bs comma)
  | inr other ↦ let p = parts bs in (b ∷ p.0, p.1, split_other b bs p.0 p.1 other p.2)
]

abbrev without : List ℕ → Bool
without piece = not (has_quote piece)

no_quotes : (line : List ℕ) → has_quote line ≡ false → list_all without (split line) ≡ true
no_quotes [] none = refl
no_quotes (b ∷ bs) none =
    let each = or_parts (b == 34) (has_quote bs) none in
    elim (cases_Bool (nat_eq b 44)) [
      | inl comma ↦ ap (list_all without) (split_comma b bs comma) ∙ no_quotes bs each.1
      | inr other ↦
          let p = parts bs in
          let rest : list_all without (p.0 ∷ p.1) ≡ true = sym (ap (list_all without) p.2) ∙ no_quotes bs each.1 in
          ap (list_all without) (split_other b bs p.0 p.1 other p.2)
          ∙ ap (λ q. not (q || has_quote p.0) && list_all without p.1) each.0 ∙ rest
    ]

own_field : (piece : List ℕ) → without piece ≡ true → is_some (field_of piece) ≡ true
own_field [] plain = refl
own_field (b ∷ bs) plain =
    let each = or_parts (b == 34) (has_quote bs) (not-true (has_quote (b ∷ bs)) plain) in
    ap (λ q. is_some (if q then before_end_quote bs else (if has_quote bs then None else Some (b ∷ bs)))) each.0
    ∙ ap (λ q. is_some (if q then None else Some (b ∷ bs))) each.1

own_fields : (pieces : List (List ℕ)) → list_all without pieces ≡ true → list_all (λ piece. is_some (field_of piece)) pieces ≡ true
own_fields [] plain = refl
own_fields (piece ∷ pieces) plain =
    let each = and_parts (without piece) (list_all without pieces) plain in
    ap (λ b. b && list_all (λ piece. is_some (field_of piece)) pieces) (own_field piece each.0) ∙ own_fields pieces each.1

bare_is_list : (line : List ℕ) → list_all is_bare line ≡ true → (is_readable line && list_all (λ piece. is_some (field_of piece)) (split line)) ≡ true
bare_is_list line bare =
    ap (λ b. b && list_all (λ piece. is_some (field_of piece)) (split line)) (bare_is_readable line bare) ∙ own_fields (split line) (no_quotes line (no_quote line bare))

-- a line of bare bytes, or any that is to be read and whose pieces are fields, is a list of them
pub bare_list : (line : List ℕ) → list_all is_bare line ≡ true → true ≡ is_some (fields_of_line line)
bare_list line bare = sym (is_tested line ∙ bare_is_list line bare)

pub list_by_test : (line : List ℕ) → is_readable line ≡ true → list_all (λ piece. is_some (field_of piece)) (split line) ≡ is_some (fields_of_line line)
list_by_test line plain = sym (is_tested line ∙ ap (λ b. b && list_all (λ piece. is_some (field_of piece)) (split line)) plain)

pub not_to_read : (line : List ℕ) → is_readable line ≡ false → false ≡ is_some (fields_of_line line)
not_to_read line e = sym (is_tested line ∙ ap (λ b. b && list_all (λ piece. is_some (field_of piece)) (split line)) e)
