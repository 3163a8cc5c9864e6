-- The field that is told where a number is out of its range is one of a line.
use Rattle.std.proofs.Common.{◌≡◌, ℕ, ◌+◌, ◌-◌, ◌*◌, ◌/◌, ◌%◌, ◌≤◌, List, [], ◌∷◌, length, take, Bool, true, false, not, ◌&&◌, ◌||◌, ◌==◌, Option, Some, None, Result, Ok, Err, IfSome, if◌then◌else◌, refl, subst, sym, arith}
use Rattle.std.specs.Prelude.{nat_le, option_map, position}
use Rattle.std.specs.List.{All, AllByRecursion, list_all}
use Rattle.std.specs.Option.{option_map_or}
use Rattle.std.proofs.lemmas.Bool.{and_parts, leb-true}
use Rattle.std.proofs.lemmas.List.Elements.{All-nil, All-cons, All-head, All-tail, All-append, All-from_recursion, All-take}
use Rattle.command_text.specs.declared.asked.Asked.{Asked}
use Rattle.command_text.specs.declared.asked.Fault.{Fault}
use Rattle.command_text.specs.declared.asked.Fault.TheVariants.{Syntax, Range}
use Rattle.command_text.specs.declared.numbers.NumberRead.{NumberRead}
use Rattle.command_text.specs.declared.ranges.TheConstants.{MARKET}
use Rattle.command_text.specs.declared.requests.Request.{Request}
use Rattle.command_text.specs.declared.requests.Request.TheVariants as asks
use Rattle.command_text.specs.declared.words.LineWord.{LineWord}
use Rattle.command_text.specs.declared.words.LineWord.TheVariants as word
use Rattle.command_text.specs.declared.words.TheConstants.{RUN}
use Rattle.command_text.specs.Asked.{text_of, says_in}
use Rattle.command_text.specs.Bundles.{side_in, has_leg, leg_fields, fields_each}
use Rattle.command_text.specs.Commands.{body_of_said}
use Rattle.command_text.specs.Fields.{fields_of_line}
use Rattle.command_text.specs.Numbers.{number_in}
use Rattle.command_text.specs.Refused.{Shape, reads_in, settle_shape, weight_place, trade_shape, option_shape, or_else, leg_reads, leg_weight_place, legs_reads, legs_beyond, head_reads, legs_shape, bundle_shape, shape_by, is_outside, is_unread, first_outside, has_unread, fault_of_shape, fault_of_words, fault_of_proposal, fault_by, fault_of_said, word_read}
use Rattle.command_text.specs.Said.{proposed_in, said_in}
use Rattle.command_text.specs.Trades.{kind_in, is_weighted, weights_in}
use Rattle.command_text.specs.Words.{word_among}
use Rattle.command_text.proofs.RefusedLines.{lines_are_refused}
use Rattle.form.specs.Between.{Between}
use Rattle.reply_ranges.specs.Laws.{HasField, FieldsAreWithin}

abbrev pub IsPlace : ℕ → Type 0
IsPlace place = Between 2 51 place

-- the places of what a line asks for, and the place beyond
abbrev IsRead : ℕ × NumberRead → Type 0
IsRead read = IsPlace read.0

record HasPlaces (shape : Shape) : Type 0 where
  reads : All IsRead shape.reads
  beyond : IfSome shape.beyond IsPlace

-- ---- places by a test
abbrev pub is_between : ℕ → ℕ → Asked → Bool
is_between low high asked = nat_le low asked.place && nat_le asked.place high

pub all_between : (low high : ℕ) (asked : List Asked) → list_all (is_between low high) asked ≡ true → All (λ (a : Asked). Between low high a.place) asked
all_between low high [] h = All-nil (λ (a : Asked). Between low high a.place)
all_between low high (a ∷ asked) h =
    let P : Asked → Type 0 = λ a. Between low high a.place in
    let both = and_parts (is_between low high a) (list_all (is_between low high) asked) h in
    let parts = and_parts (nat_le low a.place) (nat_le a.place high) both.0 in
    All-cons P a asked (leb-true low a.place parts.0, leb-true a.place high parts.1) (all_between low high asked both.1)

reads_are : (shift low high : ℕ) (asked : List Asked) (fields : List (List ℕ)) → 2 ≤ shift + low → shift + high ≤ 51 → All (λ (a : Asked). Between low high a.place) asked → All IsRead (reads_in shift asked fields)
reads_are shift low high [] fields from to all = All-nil IsRead
reads_are shift low high (a ∷ asked) fields from to all =
    let P : Asked → Type 0 = λ a. Between low high a.place in
    let first = All-head P a asked all in
    All-cons IsRead (shift + a.place, says_in fields a) (reads_in shift asked fields) (omega (arith, first.0, from), omega (arith, first.1, to))
    (reads_are shift low high asked fields from to (All-tail P a asked all))

some_reads : (n : ℕ) (asked : List Asked) (fields : List (List ℕ)) → list_all (is_between 2 51) asked ≡ true → All IsRead (reads_in 0 (take n asked) fields)
some_reads n asked fields h = reads_are 0 2 51 (take n asked) fields (omega arith) (omega arith) (All-take (λ (a : Asked). Between 2 51 a.place) n asked (all_between 2 51 asked h))

settle_places : (fields : List (List ℕ)) → HasPlaces (settle_shape fields)
settle_places fields = record { reads = some_reads (length fields - 1) _ fields refl; beyond = tt }

weight_is : (shift first : ℕ) (fields : List (List ℕ)) → IsPlace (shift + first) → IfSome (weight_place shift fields first) IsPlace
weight_is shift first fields is = elim (is_weighted (weights_in fields first)) as (λ b. IfSome (if b then None else Some (shift + first)) IsPlace) [
  | true ↦ tt
  | false ↦ is
]

trade_places : (fields : List (List ℕ)) → HasPlaces (trade_shape fields)
trade_places fields = record {
  reads = All-cons IsRead (4, word_read (kind_in (text_of fields 4))) _ (omega arith, omega arith) (some_reads (length fields - 2) _ fields refl);
  beyond = weight_is 0 8 fields (omega arith, omega arith);
}

-- ---- bundles
or_else_is : (a b : Option ℕ) → IfSome a IsPlace → IfSome b IsPlace → IfSome (or_else a b) IsPlace
or_else_is None b x y = y
or_else_is (Some place) b x y = x

leg_by : (test : Bool) (word : ℕ × NumberRead) (own : List (ℕ × NumberRead)) → IsRead word → All IsRead own → All IsRead (if test then word ∷ own else [])
leg_by true word own first more = All-cons IsRead word own first more
leg_by false word own first more = All-nil IsRead

-- the numbers of a leg behind at most 40 fields
leg_numbers : (shift n : ℕ) (asked : List Asked) (fields : List (List ℕ)) → 1 ≤ shift → shift ≤ 40 → list_all (is_between 1 11) asked ≡ true → All IsRead (reads_in shift (take n asked) fields)
leg_numbers shift n asked fields some few h =
    reads_are shift 1 11 (take n asked) fields (omega (arith, some)) (omega (arith, few)) (All-take (λ (a : Asked). Between 1 11 a.place) n asked (all_between 1 11 asked h))

leg_is : (size shift : ℕ) (fields : List (List ℕ)) → 1 ≤ shift → shift ≤ 40 → All IsRead (leg_reads size shift fields)
leg_is size shift fields some few =
    let leg = leg_fields size shift fields in
    leg_by (has_leg size shift fields) (shift + 2, word_read (kind_in (text_of leg 2))) _ (omega (arith, some), omega (arith, few)) (leg_numbers shift (length leg - 1) _ leg some few refl)

leg_weight_is : (size shift : ℕ) (fields : List (List ℕ)) → shift ≤ 40 → IfSome (leg_weight_place size shift fields) IsPlace
leg_weight_is size shift fields few = elim (has_leg size shift fields) as (λ b. IfSome (if b then weight_place shift (leg_fields size shift fields) 4 else None) IsPlace) [
  | true ↦ weight_is shift 4 (leg_fields size shift fields) (omega arith, omega (arith, few))
  | false ↦ tt
]

legs_are : (size : ℕ) (fields : List (List ℕ)) → size ≤ 11 → All IsRead (legs_reads size fields)
legs_are size fields few =
    All-append IsRead (leg_reads size 7 fields) _ (leg_is size 7 fields (omega arith) (omega arith))
    (All-append IsRead (leg_reads size (7 + size) fields) _ (leg_is size (7 + size) fields (omega arith) (omega (arith, few)))
    (All-append IsRead (leg_reads size (7 + 2 * size) fields) (leg_reads size (7 + 3 * size) fields) (leg_is size (7 + 2 * size) fields (omega arith) (omega (arith, few)))
    (leg_is size (7 + 3 * size) fields (omega arith) (omega (arith, few)))))

quantity_is : (test : Bool) → IfSome (if test then None else Some 6) IsPlace
quantity_is true = tt
quantity_is false = (omega arith, omega arith)

beyond_is : (size : ℕ) (fields : List (List ℕ)) → size ≤ 11 → IfSome (legs_beyond size fields) IsPlace
beyond_is size fields few =
    let at = λ (shift : ℕ). leg_weight_place size shift fields in
    or_else_is (or_else (at 7) (or_else (at (7 + size)) (or_else (at (7 + 2 * size)) (at (7 + 3 * size))))) _
    (or_else_is (at 7) _ (leg_weight_is size 7 fields (omega arith))
    (or_else_is (at (7 + size)) _ (leg_weight_is size (7 + size) fields (omega (arith, few)))
    (or_else_is (at (7 + 2 * size)) (at (7 + 3 * size)) (leg_weight_is size (7 + 2 * size) fields (omega (arith, few))) (leg_weight_is size (7 + 3 * size) fields (omega (arith, few))))))
    (quantity_is _)

head_is : (fields : List (List ℕ)) → All IsRead (head_reads fields)
head_is fields =
    All-from_recursion IsRead (head_reads fields)
    ((omega arith, omega arith), ((omega arith, omega arith), ((omega arith, omega arith), ((omega arith, omega arith), ((omega arith, omega arith), ((omega arith, omega arith), tt))))))

-- each leg has at most 11 fields
size_small : (rest legs size : ℕ) → fields_each rest legs ≡ Some size → size ≤ 11
size_small rest legs size h = by (rest % legs == 0) (nat_le 4 (rest / legs)) (nat_le (rest / legs) 11) refl h
  where
    by : (a b c : Bool) → nat_le (rest / legs) 11 ≡ c → (if a && (b && c) then Some (rest / legs) else None) ≡ Some size → size ≤ 11
    by true true true is e = let same : rest / legs ≡ size = cc in subst (λ n. n ≤ 11) same (leb-true (rest / legs) 11 is)
    by true true false is e = cc
    by true false c is e = cc
    by false b c is e = cc

legs_places : (each : Option ℕ) (fields : List (List ℕ)) → ((size : ℕ) → each ≡ Some size → size ≤ 11) → HasPlaces (legs_shape each fields)
legs_places None fields few = record { reads = head_is fields; beyond = tt }
legs_places (Some size) fields few = record {
  reads = All-append IsRead (head_reads fields) (legs_reads size fields) (head_is fields) (legs_are size fields (few size refl));
  beyond = beyond_is size fields (few size refl);
}

counted_places : (none : Bool) (legs : ℕ) (fields : List (List ℕ))
    → HasPlaces (if none then record { sized = nat_le 7 (length fields); reads = head_reads fields; beyond = None } else legs_shape (fields_each (length fields - 7) legs) fields)
counted_places true legs fields = record { reads = head_is fields; beyond = tt }
counted_places false legs fields = legs_places (fields_each (length fields - 7) legs) fields (size_small (length fields - 7) legs)

bundle_places : (fields : List (List ℕ)) → HasPlaces (bundle_shape fields)
bundle_places fields = counted_places _ _ fields

-- an option
option_places : (words place : ℕ) (asked : List Asked) (fields : List (List ℕ)) → IsPlace place → IsPlace (place + 2) → list_all (is_between 2 51) asked ≡ true → HasPlaces (option_shape words place asked fields)
option_places words place asked fields is first are = record {
  reads = All-cons IsRead (place, word_read (kind_in (text_of fields place))) _ is (some_reads (length fields - words) asked fields are);
  beyond = weight_is 0 (place + 2) fields (omega (arith, first.0), omega (arith, first.1));
}

-- ---- by the word
places_are : (shape : Shape) → AllByRecursion IsRead shape.reads → IfSome shape.beyond IsPlace → HasPlaces shape
places_are shape reads beyond = record { reads = All-from_recursion IsRead shape.reads reads; beyond = beyond }

second : IsPlace 2
second = (omega arith, omega arith)

third : IsPlace 3
third = (omega arith, omega arith)

fourth : IsPlace 4
fourth = (omega arith, omega arith)

-- an option, and the side of an order for it
tried_places : (asked : List Asked) (fields : List (List ℕ)) → list_all (is_between 2 51) asked ≡ true
    → HasPlaces (let option : Shape = option_shape 3 7 asked fields in record option { reads = (4, word_read (side_in (text_of fields 4))) ∷ option.reads })
tried_places asked fields are =
    let option = option_places 3 7 asked fields (omega arith, omega arith) (omega arith, omega arith) are in
    record { reads = All-cons IsRead (4, word_read (side_in (text_of fields 4))) (option_shape 3 7 asked fields).reads fourth option.reads; beyond = option.beyond }

shapes_have : (w : LineWord) (fields : List (List ℕ)) → HasPlaces (shape_by w fields)
shapes_have word.Open fields = places_are (shape_by word.Open fields) (second, tt) tt
shapes_have word.Deposit fields = places_are (shape_by word.Deposit fields) (second, (third, tt)) tt
shapes_have word.Withdraw fields = places_are (shape_by word.Withdraw fields) (second, (third, tt)) tt
shapes_have word.Market fields = places_are (shape_by word.Market fields) (second, (third, tt)) tt
shapes_have word.Buy fields = trade_places fields
shapes_have word.Sell fields = trade_places fields
shapes_have word.Bundle fields = bundle_places fields
shapes_have word.Cancel fields = places_are (shape_by word.Cancel fields) (second, (third, tt)) tt
shapes_have word.Clear fields = places_are (shape_by word.Clear fields) (second, (third, tt)) tt
shapes_have word.Settle fields = settle_places fields
shapes_have word.Balance fields = places_are (shape_by word.Balance fields) (second, tt) tt
shapes_have word.Quote fields = option_places 2 4 _ fields (omega arith, omega arith) (omega arith, omega arith) refl
shapes_have word.Price fields = option_places 2 5 _ fields (omega arith, omega arith) (omega arith, omega arith) refl
shapes_have word.Try fields = tried_places _ fields refl
shapes_have word.Margin fields = places_are (shape_by word.Margin fields) (second, (third, (fourth, tt))) tt
shapes_have word.Book fields = places_are (shape_by word.Book fields) (second, tt) tt
shapes_have word.Positions fields = places_are (shape_by word.Positions fields) (second, (third, tt)) tt
shapes_have word.Secure fields = places_are (shape_by word.Secure fields) (second, tt) tt
shapes_have word.Need fields = places_are (shape_by word.Need fields) (second, tt) tt
shapes_have word.Close fields = places_are (shape_by word.Close fields) (second, tt) tt
shapes_have word.Reopen fields = places_are (shape_by word.Reopen fields) (second, tt) tt
shapes_have word.Propose fields = record { reads = All-nil IsRead; beyond = tt }

-- ---- what is told
first_is : (reads : List (ℕ × NumberRead)) → All IsRead reads → IfSome (first_outside reads) IsPlace
first_is [] all = tt
first_is (read ∷ reads) all = elim (is_outside read.1) as (λ b. IfSome (if b then Some read.0 else first_outside reads) IsPlace) [
  | true ↦ All-head IsRead read reads all
  | false ↦ first_is reads (All-tail IsRead read reads all)
]

abbrev IsFault : Option Fault → Type 0
IsFault None = Unit {0}
IsFault (Some Syntax) = Unit {0}
IsFault (Some (Range field)) = IsPlace field

ranges_are : (place : Option ℕ) → IfSome place IsPlace → IsFault (option_map (λ place. Range place) place)
ranges_are None h = tt
ranges_are (Some place) h = h

shape_faults : (shape : Shape) → HasPlaces shape → IsFault (fault_of_shape shape)
shape_faults shape has =
    let told = or_else (first_outside shape.reads) shape.beyond in
    elim (not shape.sized || has_unread shape.reads) as (λ b. IsFault (if b then Some Syntax else option_map (λ place. Range place) told)) [
      | true ↦ tt
      | false ↦ ranges_are told (or_else_is (first_outside shape.reads) shape.beyond (first_is shape.reads has.reads) has.beyond)
    ]

words_faults : (words : List LineWord) (fields : List (List ℕ)) → IsFault (fault_of_words words fields)
words_faults words fields = elim (word_among words (text_of fields 1)) as (λ o. IsFault (option_map_or (λ w. fault_of_shape (shape_by w fields)) o (Some Syntax))) [
  | None ↦ tt
  | Some w ↦ shape_faults (shape_by w fields) (shapes_have w fields)
]

proposal_faults : (text : List ℕ) → IsFault (fault_of_proposal text)
proposal_faults text =
    elim (position (λ b. b == 44) text) as (λ o.
    IsFault (option_map_or (λ place. if is_unread (number_in MARKET.low MARKET.high (take place text)) then Some Syntax else None) o (Some Syntax))) [
      | None ↦ tt
      | Some place ↦ unread_faults (is_unread (number_in MARKET.low MARKET.high (take place text)))
    ]
  where
    unread_faults : (unread : Bool) → IsFault (if unread then Some Syntax else None)
    unread_faults true = tt
    unread_faults false = tt

line_faults : (words : List LineWord) (line : List ℕ) (proposed : Option (List ℕ)) → IsFault (fault_by words line proposed)
line_faults words line (Some text) = proposal_faults text
line_faults words line None = elim (fields_of_line line) as (λ o. IsFault (option_map_or (fault_of_words words) o (Some Syntax))) [
  | None ↦ tt
  | Some fields ↦ words_faults words fields
]

-- a fault of a field is told with its place
abbrev pub IsPlaced : Fault → Type 0
IsPlaced Syntax = Unit {0}
IsPlaced (Range place) = IsPlace place

abbrev pub IsPlacedIn : {A : Type 0} → Result A Fault → Type 0
IsPlacedIn (Ok a) = Unit {0}
IsPlacedIn (Err fault) = IsPlaced fault

placed_in : (said : Result Request Fault) → IsFault (fault_of_said said) → IsPlacedIn said
placed_in (Ok request) h = tt
placed_in (Err Syntax) h = tt
placed_in (Err (Range field)) h = h

-- whatever words may begin it, a line is refused so
pub said_is_placed : (words : List LineWord) (line : List ℕ) → IsPlacedIn (said_in words line)
said_is_placed words line =
    placed_in (said_in words line) (subst IsFault (sym (lines_are_refused words line)) (line_faults words line (proposed_in words line)))

said_has : (said : Result Request Fault) → IsPlacedIn said → HasField (body_of_said said)
said_has (Ok (asks.Command command)) h = tt
said_has (Ok (asks.Quote request)) h = tt
said_has (Ok (asks.Price request)) h = tt
said_has (Ok (asks.Try request)) h = tt
said_has (Ok (asks.Margin request)) h = tt
said_has (Ok (asks.Book market)) h = tt
said_has (Ok (asks.Positions account market)) h = tt
said_has (Ok (asks.Secure account)) h = tt
said_has (Ok (asks.Need account)) h = tt
said_has (Ok (asks.Close market)) h = tt
said_has (Ok (asks.Reopen market)) h = tt
said_has (Ok (asks.Propose request)) h = tt
said_has (Err Syntax) h = tt
said_has (Err (Range field)) h = h

pub fields_are_within : FieldsAreWithin
fields_are_within line = said_has (said_in RUN line) (said_is_placed RUN line)
