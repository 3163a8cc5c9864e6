-- What a line says does not depend on the fields past those that a command can have, but for the
-- first of them.
use Rattle.std.proofs.Common.{◌≡◌, ◌≤◌, ◌<◌, ℕ, ◌+◌, ◌-◌, ◌*◌, ◌/◌, ◌%◌, List, [], ◌∷◌, Bool, true, false, ◌&&◌, ◌==◌, nat_le, length, option_map, Option, Some, None, Result, Err, if◌then◌else◌, unsigned_abs, pos, refl, sym, ap, inl, inr, ◌∙◌, arith}
use Rattle.std.proofs.Math.Nat.{div-add-mod}
use Rattle.std.proofs.lemmas.Nat.{mul-le}
use Rattle.std.proofs.lemmas.Bool.{cases_Bool, cases_lt, and_parts}
use Rattle.std.proofs.lemmas.Bool.Decides.{nat_tests}
use Rattle.std.proofs.lemmas.List.{length-take-le, take_all}
use Rattle.form.specs.declared.orders.Side.{Side}
use Rattle.form.specs.declared.orders.Side.TheVariants.{Buy, Sell}
use Rattle.command_text.specs.declared.asked.Fault.{Fault}
use Rattle.command_text.specs.declared.asked.Fault.TheVariants.{Syntax}
use Rattle.command_text.specs.declared.command.Command.{Command}
use Rattle.command_text.specs.declared.ranges.TheConstants.{BUNDLE_PRICE, BUNDLE_QUANTITY, LEGS, HEAD, PRICED_QUANTITY}
use Rattle.command_text.specs.declared.numbers.NumberRead.{NumberRead}
use Rattle.command_text.specs.declared.numbers.NumberRead.TheVariants.{NotNumber, Outside, Value}
use Rattle.command_text.specs.Asked.{text_of, fault_in, natural_in, value_or_zero}
use Rattle.command_text.specs.Bundles.{side_in, fields_each, fault_or_syntax, bundle_command, sized_command}
use Rattle.command_text.specs.Fields.{first_of_many}
use Rattle.command_text.specs.Numbers.{number_in, IsWithin as IsRead}
use Rattle.command_text.specs.Trades.{balance_command, cancel_command, clear_command, deposit_command, market_command, open_command, settle_command, trade_command, with_some, withdraw_command}
use Rattle.command_text.specs.Requests.{as_price, as_quote, as_try, book_request, close_request, margin_request, need_request, positions_request, price_request, quote_request, reopen_request, secure_request, try_request}
use Rattle.command_text.specs.Said.{as_command, said_by, said_by_fields}
use Rattle.command_text.specs.Words.{word_among}
use Rattle.command_text.specs.declared.requests.QuoteRequest.{QuoteRequest}
use Rattle.command_text.specs.declared.requests.Request.{Request}
use Rattle.command_text.specs.declared.words.LineWord.{LineWord}
use Rattle.command_text.specs.declared.words.LineWord.TheVariants as word
use Rattle.command_text.proofs.Bounds.{natural_between, number_within}
use Rattle.command_text.proofs.LegsWithin.{each_is}

-- what a bundle of more fields than four legs can have says
abbrev long_bundle : List (List ℕ) → Result Command Fault
long_bundle fields = with_some (side_in (text_of fields 4)) (λ side. if natural_in fields LEGS == 0 then fault_or_syntax (fault_in 0 HEAD fields) else Err Syntax)

-- ---- a number of fields that no command has
not_equal : (n few : ℕ) → 51 < n → few ≤ 51 → (n == few) ≡ false
not_equal n few many small = grind (arith, nat_tests)

past : (n low high : ℕ) → 51 < n → high ≤ 51 → (nat_le low n && nat_le n high) ≡ false
past n low high many small = elim (cases_Bool (nat_le low n && nat_le n high)) [
  | inl within ↦ let both = and_parts (nat_le low n) (nat_le n high) within in let under = both.1 in absurd (grind (arith, nat_tests, under))
  | inr without ↦ without
]

chosen : {A : Type 0} (test : Bool) (said : Result A Fault) → test ≡ false → (if test then said else Err Syntax) ≡ Err Syntax
chosen test said not_so = rw not_so refl

small_value : (low high : ℕ) (r : NumberRead) → IsRead (pos low) (pos high) r → unsigned_abs (value_or_zero r) ≤ high
small_value low high NotNumber within = omega arith
small_value low high Outside within = omega arith
small_value low high (Value v) within = (natural_between low high v within).1

few_legs : (fields : List (List ℕ)) → natural_in fields LEGS ≤ 4
few_legs fields = small_value 1 4 (number_in (pos 1) (pos 4) (text_of fields 7)) (number_within (pos 1) (pos 4) (text_of fields 7))

absent : (o : Option ℕ) → ((n : ℕ) → o ≡ Some n → ⊥) → o ≡ None
absent None none = refl
absent (Some n) none = absurd (none n refl)

no_each : (rest legs : ℕ) → 44 < rest → legs ≤ 4 → fields_each rest legs ≡ None
no_each rest legs many few = absent (fields_each rest legs) (λ size is.
    let each = each_is rest legs size is in
    let even = each.0 in
    let none_left : rest % legs ≡ 0 = grind (arith, nat_tests, even) in
    let all : legs * (rest / legs) + rest % legs ≡ rest = div-add-mod rest legs in
    let whole : legs * size ≡ rest = omega (arith, sym (ap (λ q. legs * q) each.1), all, none_left) in
    let most : legs * size ≤ 4 * 11 = mul-le legs size 4 11 few each.3 in
    absurd (omega (arith, whole, most, many)))

-- ---- bundles
is_long_bundle : (fields : List (List ℕ)) → 51 < length fields → bundle_command fields ≡ long_bundle fields
is_long_bundle fields many =
    let n = length fields in
    let legs = natural_in fields LEGS in
    let side = side_in (text_of fields 4) in
    let counted : Option ℕ → Side → Result Command Fault = λ each s. if legs == 0 then fault_or_syntax (fault_in 0 HEAD fields) else with_some each (λ size. sized_command s legs size fields) in
    let seven : nat_le 7 n ≡ true = grind (arith, nat_tests) in
    ap (λ b. if b then with_some side (counted (fields_each (n - 7) legs)) else Err Syntax) seven
    ∙ ap (λ each. with_some side (counted each)) (no_each (n - 7) legs (omega (arith, many)) (few_legs fields))

same_long : (fields : List (List ℕ)) → 51 < length fields → long_bundle (first_of_many fields) ≡ long_bundle fields
same_long [] many = absurd (omega (arith, many))
same_long (a ∷ []) many = absurd (omega (arith, many))
same_long (a ∷ b ∷ []) many = absurd (omega (arith, many))
same_long (a ∷ b ∷ c ∷ []) many = absurd (omega (arith, many))
same_long (a ∷ b ∷ c ∷ d ∷ []) many = absurd (omega (arith, many))
same_long (a ∷ b ∷ c ∷ d ∷ e ∷ []) many = absurd (omega (arith, many))
same_long (a ∷ b ∷ c ∷ d ∷ e ∷ f ∷ []) many = absurd (omega (arith, many))
same_long (a ∷ b ∷ c ∷ d ∷ e ∷ f ∷ g ∷ rest) many = refl

same_bundle : (fields : List (List ℕ)) → bundle_command (first_of_many fields) ≡ bundle_command fields
same_bundle fields = elim (cases_lt 51 (length fields)) [
  | inr few ↦ ap bundle_command (take_all 52 fields (omega (arith, few)))
  | inl many ↦
      let more : 51 < length (first_of_many fields) = omega (arith, length-take-le 52 fields (omega (arith, many))) in
      is_long_bundle (first_of_many fields) more ∙ same_long fields many ∙ sym (is_long_bundle fields many)
]

-- ---- other lines
same_word : (fields : List (List ℕ)) → text_of (first_of_many fields) 1 ≡ text_of fields 1
same_word [] = refl
same_word (word ∷ rest) = refl

-- what is Syntax where there are more fields than a line can have
same_read : {A : Type 0} (read : List (List ℕ) → Result A Fault) → ((fields : List (List ℕ)) → 51 < length fields → read fields ≡ Err Syntax)
    → (fields : List (List ℕ)) → read (first_of_many fields) ≡ read fields
same_read read long fields = elim (cases_lt 51 (length fields)) [
  | inr few ↦ ap read (take_all 52 fields (omega (arith, few)))
  | inl many ↦ long (first_of_many fields) (omega (arith, many, length-take-le 52 fields (omega (arith, many)))) ∙ sym (long fields many)
]

-- of so many fields, or of some numbers of them
exactly : (n few : ℕ) {A : Type 0} (said : Result A Fault) → few ≤ 51 → 51 < n → (if n == few then said else Err Syntax) ≡ Err Syntax
exactly n few said small many = chosen (n == few) said (not_equal n few many small)

from_to : (n low high : ℕ) {A : Type 0} (said : Result A Fault) → high ≤ 51 → 51 < n → (if nat_le low n && nat_le n high then said else Err Syntax) ≡ Err Syntax
from_to n low high said small many = chosen (nat_le low n && nat_le n high) said (past n low high many small)

no_try : (side : Option Side) (price quantity : ℕ) (said : Result QuoteRequest Fault) → said ≡ Err Syntax → with_some side (λ s. as_try s price quantity said) ≡ Err Syntax
no_try None price quantity said is = refl
no_try (Some side) price quantity said is = ap (as_try side price quantity) is

same_by : (w : LineWord) (fields : List (List ℕ)) → said_by w (first_of_many fields) ≡ said_by w fields
same_by word.Open fields = ap as_command (same_read open_command (λ f many. exactly (length f) 2 _ (omega arith) many) fields)
same_by word.Deposit fields = ap as_command (same_read deposit_command (λ f many. exactly (length f) 3 _ (omega arith) many) fields)
same_by word.Withdraw fields = ap as_command (same_read withdraw_command (λ f many. exactly (length f) 3 _ (omega arith) many) fields)
same_by word.Market fields = ap as_command (same_read market_command (λ f many. exactly (length f) 3 _ (omega arith) many) fields)
same_by word.Buy fields = ap as_command (same_read (trade_command Buy) (λ f many. from_to (length f) 8 15 _ (omega arith) many) fields)
same_by word.Sell fields = ap as_command (same_read (trade_command Sell) (λ f many. from_to (length f) 8 15 _ (omega arith) many) fields)
same_by word.Bundle fields = ap as_command (same_bundle fields)
same_by word.Cancel fields = ap as_command (same_read cancel_command (λ f many. exactly (length f) 3 _ (omega arith) many) fields)
same_by word.Clear fields = ap as_command (same_read clear_command (λ f many. exactly (length f) 3 _ (omega arith) many) fields)
same_by word.Settle fields = ap as_command (same_read settle_command (λ f many. from_to (length f) 3 10 _ (omega arith) many) fields)
same_by word.Balance fields = ap as_command (same_read balance_command (λ f many. exactly (length f) 2 _ (omega arith) many) fields)
same_by word.Quote fields = same_read quote_request (λ f many. ap as_quote (from_to (length f) 6 13 _ (omega arith) many)) fields
same_by word.Price fields = same_read price_request (λ f many. ap (as_price (natural_in f PRICED_QUANTITY)) (from_to (length f) 7 14 _ (omega arith) many)) fields
same_by word.Try fields =
    same_read try_request (λ f many. no_try (side_in (text_of f 4)) (natural_in f BUNDLE_PRICE) (natural_in f BUNDLE_QUANTITY) _ (from_to (length f) 9 16 _ (omega arith) many)) fields
same_by word.Margin fields = same_read margin_request (λ f many. exactly (length f) 4 _ (omega arith) many) fields
same_by word.Book fields = same_read book_request (λ f many. exactly (length f) 2 _ (omega arith) many) fields
same_by word.Positions fields = same_read positions_request (λ f many. exactly (length f) 3 _ (omega arith) many) fields
same_by word.Secure fields = same_read secure_request (λ f many. exactly (length f) 2 _ (omega arith) many) fields
same_by word.Need fields = same_read need_request (λ f many. exactly (length f) 2 _ (omega arith) many) fields
same_by word.Close fields = same_read close_request (λ f many. exactly (length f) 2 _ (omega arith) many) fields
same_by word.Reopen fields = same_read reopen_request (λ f many. exactly (length f) 2 _ (omega arith) many) fields
same_by word.Propose fields = refl

same_by_words : (fields : List (List ℕ)) (o : Option LineWord) → with_some o (λ w. said_by w (first_of_many fields)) ≡ with_some o (λ w. said_by w fields)
same_by_words fields None = refl
same_by_words fields (Some w) = same_by w fields

same_said : (words : List LineWord) (fields : List (List ℕ)) → said_by_fields words (first_of_many fields) ≡ said_by_fields words fields
same_said words fields =
    ap (λ text. with_some (word_among words text) (λ w. said_by w (first_of_many fields))) (same_word fields) ∙ same_by_words fields (word_among words (text_of fields 1))

-- ---- what the first fields of a line say is what it says, and what is said of no fields
pub read_by_first : (words : List LineWord) (said : Result Request Fault) (fields : List (List ℕ)) (line : Option (List (List ℕ)))
    → said ≡ said_by_fields words fields → Some fields ≡ option_map first_of_many line → said ≡ with_some line (said_by_fields words)
read_by_first words said fields None is first = absurd (cc)
read_by_first words said fields (Some all) is first =
    let taken : fields ≡ first_of_many all = cc in
    is ∙ ap (said_by_fields words) taken ∙ same_said words all

pub read_by_none : (words : List LineWord) (line : Option (List (List ℕ))) → None ≡ option_map first_of_many line → Err Syntax ≡ with_some line (said_by_fields words)
read_by_none words None is = refl
read_by_none words (Some all) is = absurd (cc)
