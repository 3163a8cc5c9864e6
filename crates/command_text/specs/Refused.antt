-- When a line is refused as it is read: a sentence on Syntax and one on Range.
use Rattle.std.specs.Prelude.{ℕ, pos, ◌+◌, ◌-◌, ◌*◌, ◌≡◌, List, [], ◌∷◌, ◌++◌, Bool, true, false, not, ◌&&◌, ◌||◌, ◌==◌, nat_le, length, take, option_map, position, Result, Ok, Err, Option, Some, None, if◌then◌else◌}
use Rattle.std.specs.List.{list_any}
use Rattle.std.specs.Option.{option_map_or}
use Rattle.command_text.specs.declared.asked.Asked.{Asked}
use Rattle.command_text.specs.declared.asked.Fault.{Fault}
use Rattle.command_text.specs.declared.asked.Fault.TheVariants.{Syntax, Range}
use Rattle.command_text.specs.declared.requests.Request.{Request}
use Rattle.command_text.specs.declared.words.LineWord.{LineWord}
use Rattle.command_text.specs.declared.words.LineWord.TheVariants as word
use Rattle.command_text.specs.declared.numbers.NumberRead.{NumberRead}
use Rattle.command_text.specs.declared.numbers.NumberRead.TheVariants.{NotNumber, Outside, Value}
use Rattle.command_text.specs.declared.ranges.TheConstants.{ACCOUNT, ANY_ACCOUNT, MARKET, AMOUNT, UNDERLYINGS, ORDER, BUDGET, TRADE, SETTLE, BUNDLE_QUANTITY, LEGS, HEAD, LEG, LISTED, MARGIN_BUDGET, PRICED, QUOTED, TRIED}
use Rattle.form.specs.declared.limits.TheConstants.{MAX_OPTIONS}
use Rattle.command_text.specs.Asked.{text_of, says_in, natural_in}
use Rattle.command_text.specs.Bundles.{side_in, has_leg, leg_fields, legs_size, fields_each}
use Rattle.command_text.specs.Numbers.{number_in}
use Rattle.command_text.specs.Said.{proposed_in, said_in}
use Rattle.command_text.specs.Fields.{fields_of_line}
use Rattle.command_text.specs.Trades.{kind_in, is_weighted, weights_in}
use Rattle.command_text.specs.Words.{word_among}

-- ---- what a word asks of its line
-- a KIND or a SIDE that is neither of its words reads as a number field does that is no number text
abbrev pub word_read : {A : Type 0} → Option A → NumberRead
word_read None = NotNumber
word_read (Some a) = Value (pos 0)

-- what number fields say, each with its place in the line
abbrev pub reads_in : ℕ → List Asked → List (List ℕ) → List (ℕ × NumberRead)
reads_in shift [] fields = []
reads_in shift (asked ∷ more) fields = (shift + asked.place, says_in fields asked) ∷ reads_in shift more fields

pub record Shape : Type 0 where
  -- there are as many fields as the word allows
  pub sized : Bool
  -- what each number field, KIND and SIDE says, with its place
  pub reads : List (ℕ × NumberRead)
  -- the field that is told where each number is in its range, and the line still asks for too
  -- little or too much
  pub beyond : Option ℕ

abbrev pub plain_shape : ℕ → List Asked → List (List ℕ) → Shape
plain_shape count asked fields = record { sized = length fields == count; reads = reads_in 0 asked fields; beyond = None }

abbrev pub settle_shape : List (List ℕ) → Shape
settle_shape fields = record { sized = nat_le 3 (length fields) && nat_le (length fields) 10; reads = reads_in 0 (take (length fields - 1) SETTLE) fields; beyond = None }

-- the first of the weights from a place on, where all of them are 0
abbrev pub weight_place : ℕ → List (List ℕ) → ℕ → Option ℕ
weight_place shift fields first = if is_weighted (weights_in fields first) then None else Some (shift + first)

abbrev pub trade_shape : List (List ℕ) → Shape
trade_shape fields = record {
  sized = nat_le 8 (length fields) && nat_le (length fields) 15;
  reads = (4, word_read (kind_in (text_of fields 4))) ∷ reads_in 0 (take (length fields - 2) TRADE) fields;
  beyond = weight_place 0 fields 8;
}

-- the first of two places
abbrev pub or_else : Option ℕ → Option ℕ → Option ℕ
or_else None next = next
or_else (Some place) next = Some place

-- the leg behind so many fields, if the line has one
abbrev pub leg_reads : ℕ → ℕ → List (List ℕ) → List (ℕ × NumberRead)
leg_reads size shift fields =
    let leg = leg_fields size shift fields in
    if has_leg size shift fields then (shift + 2, word_read (kind_in (text_of leg 2))) ∷ reads_in shift (take (length leg - 1) LEG) leg else []

abbrev pub leg_weight_place : ℕ → ℕ → List (List ℕ) → Option ℕ
leg_weight_place size shift fields = if has_leg size shift fields then weight_place shift (leg_fields size shift fields) 4 else None

abbrev pub legs_reads : ℕ → List (List ℕ) → List (ℕ × NumberRead)
legs_reads size fields = leg_reads size 7 fields ++ (leg_reads size (7 + size) fields ++ (leg_reads size (7 + 2 * size) fields ++ leg_reads size (7 + 3 * size) fields))

-- the first weight of the first leg whose weights are all 0, or else the quantity where it counts
-- too many options
abbrev pub legs_beyond : ℕ → List (List ℕ) → Option ℕ
legs_beyond size fields =
    or_else
    (or_else (leg_weight_place size 7 fields) (or_else (leg_weight_place size (7 + size) fields) (or_else (leg_weight_place size (7 + 2 * size) fields) (leg_weight_place size (7 + 3 * size) fields))))
    (if nat_le (natural_in fields BUNDLE_QUANTITY * legs_size size fields) MAX_OPTIONS then None else Some 6)

-- before its legs a bundle has a side and the numbers of the head
abbrev pub head_reads : List (List ℕ) → List (ℕ × NumberRead)
head_reads fields = (4, word_read (side_in (text_of fields 4))) ∷ reads_in 0 HEAD fields

-- legs of so many fields each; of none where they cannot have equally many
abbrev pub legs_shape : Option ℕ → List (List ℕ) → Shape
legs_shape None fields = record { sized = false; reads = head_reads fields; beyond = None }
legs_shape (Some size) fields = record { sized = nat_le 7 (length fields); reads = head_reads fields ++ legs_reads size fields; beyond = legs_beyond size fields }

-- where the number of legs is not from 1 to 4, nothing behind it is looked at
abbrev pub bundle_shape : List (List ℕ) → Shape
bundle_shape fields =
    if natural_in fields LEGS == 0 then record { sized = nat_le 7 (length fields); reads = head_reads fields; beyond = None }
    else legs_shape (fields_each (length fields - 7) (natural_in fields LEGS)) fields

-- an option whose kind is at a place, behind what else is asked. So many of the fields are no numbers
abbrev pub option_shape : ℕ → ℕ → List Asked → List (List ℕ) → Shape
option_shape words place asked fields = record {
  sized = nat_le (place + 2) (length fields) && nat_le (length fields) (place + 9);
  reads = (place, word_read (kind_in (text_of fields place))) ∷ reads_in 0 (take (length fields - words) asked) fields;
  beyond = weight_place 0 fields (place + 2);
}

-- the same of an order, with its SIDE
abbrev pub try_shape : List (List ℕ) → Shape
try_shape fields = let option : Shape = option_shape 3 7 TRIED fields in record option { reads = (4, word_read (side_in (text_of fields 4))) ∷ option.reads }

-- by the word. That of a proposal allows no number of fields
abbrev pub shape_by : LineWord → List (List ℕ) → Shape
shape_by word.Open fields = plain_shape 2 (ACCOUNT ∷ []) fields
shape_by word.Deposit fields = plain_shape 3 (ACCOUNT ∷ AMOUNT ∷ []) fields
shape_by word.Withdraw fields = plain_shape 3 (ACCOUNT ∷ AMOUNT ∷ []) fields
shape_by word.Market fields = plain_shape 3 (MARKET ∷ UNDERLYINGS ∷ []) fields
shape_by word.Buy fields = trade_shape fields
shape_by word.Sell fields = trade_shape fields
shape_by word.Bundle fields = bundle_shape fields
shape_by word.Cancel fields = plain_shape 3 (ACCOUNT ∷ ORDER ∷ []) fields
shape_by word.Clear fields = plain_shape 3 (MARKET ∷ BUDGET ∷ []) fields
shape_by word.Settle fields = settle_shape fields
shape_by word.Balance fields = plain_shape 2 (ANY_ACCOUNT ∷ []) fields
shape_by word.Quote fields = option_shape 2 4 QUOTED fields
shape_by word.Price fields = option_shape 2 5 PRICED fields
shape_by word.Try fields = try_shape fields
shape_by word.Margin fields = plain_shape 4 (ACCOUNT ∷ LISTED ∷ MARGIN_BUDGET ∷ []) fields
shape_by word.Book fields = plain_shape 2 (MARKET ∷ []) fields
shape_by word.Positions fields = plain_shape 3 (ACCOUNT ∷ LISTED ∷ []) fields
shape_by word.Secure fields = plain_shape 2 (ACCOUNT ∷ []) fields
shape_by word.Need fields = plain_shape 2 (ACCOUNT ∷ []) fields
shape_by word.Close fields = plain_shape 2 (MARKET ∷ []) fields
shape_by word.Reopen fields = plain_shape 2 (MARKET ∷ []) fields
shape_by word.Propose fields = record { sized = false; reads = []; beyond = None }

-- ---- the two sentences
abbrev pub is_unread : NumberRead → Bool
is_unread NotNumber = true
is_unread Outside = false
is_unread (Value v) = false

abbrev pub is_outside : NumberRead → Bool
is_outside NotNumber = false
is_outside Outside = true
is_outside (Value v) = false

-- some number field is no number text, or some KIND or SIDE is neither of its words
abbrev pub has_unread : List (ℕ × NumberRead) → Bool
has_unread reads = list_any (λ (read : ℕ × NumberRead). is_unread read.1) reads

-- the first number field that is outside its range
abbrev pub first_outside : List (ℕ × NumberRead) → Option ℕ
first_outside [] = None
first_outside (read ∷ reads) = if is_outside read.1 then Some read.0 else first_outside reads

-- a line is Syntax exactly where its fields are not as many as its word allows, or a field is
-- unread. A line that is not Syntax is Range exactly where a number is outside its range, at the
-- first such field, or at the place told beyond
abbrev pub fault_of_shape : Shape → Option Fault
fault_of_shape shape =
    if not shape.sized || has_unread shape.reads then Some Syntax else option_map (λ place. Range place) (or_else (first_outside shape.reads) shape.beyond)

-- a line with another word is Syntax
abbrev pub fault_of_words : List LineWord → List (List ℕ) → Option Fault
fault_of_words words fields = option_map_or (λ word. fault_of_shape (shape_by word fields)) (word_among words (text_of fields 1)) (Some Syntax)

-- a line that proposes is Syntax where no number text and a comma stand behind its word
abbrev pub fault_of_proposal : List ℕ → Option Fault
fault_of_proposal text =
    option_map_or (λ place. if is_unread (number_in MARKET.low MARKET.high (take place text)) then Some Syntax else None) (position (λ b. b == 44) text) (Some Syntax)

-- and one that has no list of fields
abbrev pub fault_by : List LineWord → List ℕ → Option (List ℕ) → Option Fault
fault_by words line (Some text) = fault_of_proposal text
fault_by words line None = option_map_or (fault_of_words words) (fields_of_line line) (Some Syntax)

-- why a line asks nothing
abbrev pub fault_of_said : {A : Type 0} → Result A Fault → Option Fault
fault_of_said (Ok said) = None
fault_of_said (Err fault) = Some fault

-- a line is refused exactly by these sentences
abbrev pub IsRefusedBy : List LineWord → List ℕ → Result Request Fault → Type 0
IsRefusedBy words line said = fault_of_said said ≡ fault_by words line (proposed_in words line)

abbrev pub LinesAreRefused : Type 0
LinesAreRefused = (words : List LineWord) (line : List ℕ) → IsRefusedBy words line (said_in words line)
