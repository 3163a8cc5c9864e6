-- A line is no command exactly where its shape says so.
use Rattle.std.proofs.Common.{◌≡◌, ℕ, ◌+◌, ◌-◌, ◌*◌, List, [], ◌∷◌, ◌++◌, Bool, true, false, ◌&&◌, ◌==◌, nat_le, length, take, option_map, Option, Some, None, Result, Ok, Err, zero-add, if◌then◌else◌, refl, sym, ap, ◌∙◌, arith}
use Rattle.std.proofs.lemmas.Bool.Decides.{nat_tests}
use Rattle.std.specs.Option.{option_map_or}
use Rattle.std.specs.Prelude.{position}
use Rattle.form.specs.declared.limits.TheConstants.{MAX_OPTIONS}
use Rattle.form.specs.declared.orders.Side.{Side}
use Rattle.form.specs.declared.orders.Side.TheVariants.{Buy, Sell}
use Rattle.command_text.specs.declared.asked.Asked.{Asked}
use Rattle.command_text.specs.declared.asked.Fault.{Fault}
use Rattle.command_text.specs.declared.asked.Fault.TheVariants.{Syntax, Range}
use Rattle.command_text.specs.declared.command.Command.{Command}
use Rattle.command_text.specs.declared.command.Command.TheVariants.{Trade}
use Rattle.command_text.specs.declared.command.Command.TheVariants as command
use Rattle.command_text.specs.declared.requests.QuoteRequest.{QuoteRequest}
use Rattle.command_text.specs.declared.words.LineWord.{LineWord}
use Rattle.command_text.specs.declared.words.LineWord.TheVariants as word
use Rattle.form.specs.FormOf.{form_of}
use Rattle.command_text.specs.Numbers.{number_in}
use Rattle.command_text.specs.Options.{option_by}
use Rattle.command_text.specs.Requests.{as_price, as_quote, as_try, option_request, propose_request, proposed_for, strike_at, try_request}
use Rattle.command_text.specs.Said.{as_command, proposed_in, said_by, said_by_fields, said_of}
use Rattle.command_text.specs.Words.{word_among}
use Rattle.command_text.specs.declared.command.Kind.{Kind}
use Rattle.command_text.specs.declared.numbers.NumberRead.{NumberRead}
use Rattle.command_text.specs.declared.numbers.NumberRead.TheVariants.{NotNumber, Outside, Value}
use Rattle.command_text.specs.declared.ranges.TheConstants.{ACCOUNT, ANY_ACCOUNT, MARKET, AMOUNT, UNDERLYINGS, ORDER, BUDGET, SETTLE, LISTED, MARGIN_BUDGET, PRICED, PRICED_QUANTITY, QUOTED, TRIED, BUNDLE_PRICE, BUNDLE_QUANTITY, STRIKE, PRICE, QUANTITY, TRADE, LEGS, HEAD, LEG}
use Rattle.command_text.specs.Asked.{text_of, fault_in, fault_of, either_fault, natural_in, value_in, says_in}
use Rattle.command_text.specs.Bundles.{side_in, kind_fault, leg_fault, has_leg, leg_fields, fault_at, weightless_at, legs_fault, legs_weightless, legs_size, too_many, bundle_fault, sized_command, fields_each, fault_or_syntax, bundle_command}
use Rattle.command_text.specs.Fields.{fields_of_line}
use Rattle.command_text.specs.Refused.{word_read, reads_in, Shape, weight_place, option_shape, trade_shape, try_shape, or_else, leg_reads, leg_weight_place, legs_reads, legs_beyond, head_reads, is_unread, legs_shape, bundle_shape, shape_by, has_unread, first_outside, fault_by, fault_of_proposal, fault_of_said, fault_of_shape, fault_of_words, LinesAreRefused}
use Rattle.command_text.specs.Trades.{unless, with_some, kind_in, is_weighted, weightless, weights_in, prices_in, trade_command}
use Rattle.command_text.proofs.Bounds.{natural_between, one_asked}
use Rattle.command_text.proofs.PlainSays.{either_none}

abbrev ranged : Option ℕ → Option Fault
ranged place = option_map (λ p. Range p) place

-- ---- the first of two faults
either_syntax : (a : Option Fault) → either_fault a (Some Syntax) ≡ Some Syntax
either_syntax None = refl
either_syntax (Some Syntax) = refl
either_syntax (Some (Range p)) = refl

either_assoc : (a b c : Option Fault) → either_fault (either_fault a b) c ≡ either_fault a (either_fault b c)
either_assoc None b c = refl
either_assoc (Some Syntax) b c = refl
either_assoc (Some (Range p)) None c = refl
either_assoc (Some (Range p)) (Some Syntax) c = refl
either_assoc (Some (Range p)) (Some (Range q)) None = refl
either_assoc (Some (Range p)) (Some (Range q)) (Some Syntax) = refl
either_assoc (Some (Range p)) (Some (Range q)) (Some (Range r)) = refl

either_ranged : (a b : Option ℕ) → either_fault (ranged a) (ranged b) ≡ ranged (or_else a b)
either_ranged None b = refl
either_ranged (Some p) None = refl
either_ranged (Some p) (Some q) = refl

-- ---- the fault of what is read
abbrev fault_said : List (ℕ × NumberRead) → Option Fault
fault_said [] = None
fault_said (read ∷ reads) = either_fault (fault_of read.0 read.1) (fault_said reads)

said-append : (xs ys : List (ℕ × NumberRead)) → fault_said (xs ++ ys) ≡ either_fault (fault_said xs) (fault_said ys)
said-append [] ys = refl
said-append (x ∷ xs) ys = ap (either_fault (fault_of x.0 x.1)) (said-append xs ys) ∙ sym (either_assoc (fault_of x.0 x.1) (fault_said xs) (fault_said ys))

said_in : (shift : ℕ) (asked : List Asked) (fields : List (List ℕ)) → fault_in shift asked fields ≡ fault_said (reads_in shift asked fields)
said_in shift [] fields = refl
said_in shift (a ∷ asked) fields = ap (either_fault (fault_of (shift + a.place) (says_in fields a))) (said_in shift asked fields)

abbrev told : List (ℕ × NumberRead) → Option ℕ → Option Fault
told reads beyond = if has_unread reads then Some Syntax else ranged (or_else (first_outside reads) beyond)

told_outside : (unread : Bool) (first beyond : Option ℕ) (p : ℕ)
    → either_fault (either_fault (Some (Range p)) (if unread then Some Syntax else ranged (or_else first None))) (ranged beyond) ≡ (if unread then Some Syntax else Some (Range p))
told_outside true first beyond p = refl
told_outside false None None p = refl
told_outside false None (Some q) p = refl
told_outside false (Some r) None p = refl
told_outside false (Some r) (Some q) p = refl

told_is : (reads : List (ℕ × NumberRead)) (beyond : Option ℕ) → either_fault (fault_said reads) (ranged beyond) ≡ told reads beyond
told_is [] beyond = refl
told_is ((p, NotNumber) ∷ reads) beyond = refl
told_is ((p, Outside) ∷ reads) beyond =
    let said : fault_said reads ≡ told reads None = sym (either_none (fault_said reads)) ∙ told_is reads None in
    ap (λ f. either_fault (either_fault (Some (Range p)) f) (ranged beyond)) said ∙ told_outside (has_unread reads) (first_outside reads) beyond p
told_is ((p, Value v) ∷ reads) beyond = told_is reads beyond

-- ---- commands and requests
unless_is : {A : Type 0} (fault : Option Fault) (command : A) → fault_of_said (unless fault command) ≡ fault
unless_is None command = refl
unless_is (Some fault) command = refl

-- a line with so many fields as the word allows
when_sized : {A : Type 0} (sized : Bool) (said : Result A Fault) (reads : List (ℕ × NumberRead)) (beyond : Option ℕ) → fault_of_said said ≡ either_fault (fault_said reads) (ranged beyond)
    → fault_of_said (if sized then said else Err Syntax) ≡ fault_of_shape (record { sized = sized; reads = reads; beyond = beyond })
when_sized true said reads beyond is = is ∙ told_is reads beyond
when_sized false said reads beyond is = refl

plain_is : {A : Type 0} (sized : Bool) (asked : List Asked) (fields : List (List ℕ)) (command : A)
    → fault_of_said (if sized then unless (fault_in 0 asked fields) command else Err Syntax) ≡ fault_of_shape (record { sized = sized; reads = reads_in 0 asked fields; beyond = None })
plain_is sized asked fields command =
    when_sized sized (unless (fault_in 0 asked fields) command) (reads_in 0 asked fields) None
    (unless_is (fault_in 0 asked fields) command ∙ said_in 0 asked fields ∙ sym (either_none (fault_said (reads_in 0 asked fields))))

-- a word that has to be one of two
with_word : {A B : Type 0} (place : ℕ) (word : Option A) (said : A → Result B Fault) (fault : Option Fault) → ((a : A) → fault_of_said (said a) ≡ fault)
    → fault_of_said (with_some word said) ≡ either_fault (fault_of place (word_read word)) fault
with_word place None said fault is = refl
with_word place (Some a) said fault is = is a

weightless_is : (shift : ℕ) (fields : List (List ℕ)) (first : ℕ) → weightless (shift + first) (weights_in fields first) ≡ ranged (weight_place shift fields first)
weightless_is shift fields first =
    elim (is_weighted (weights_in fields first)) as (λ b. (if b then None else Some (Range (shift + first))) ≡ ranged (if b then None else Some (shift + first))) [ true ↦ refl | false ↦ refl ]

trade_is : (side : Side) (fields : List (List ℕ)) → fault_of_said (trade_command side fields) ≡ fault_of_shape (trade_shape fields)
trade_is side fields =
    let n = length fields in
    let asked = take (n - 2) TRADE in
    let kind = kind_in (text_of fields 4) in
    let reads = reads_in 0 asked fields in
    let beyond = weight_place 0 fields 8 in
    let fault = either_fault (fault_in 0 asked fields) (weightless 8 (weights_in fields 8)) in
    let command : Kind → Command = λ kind. Trade side (natural_in fields ACCOUNT) (natural_in fields LISTED) kind (value_in fields STRIKE) (natural_in fields PRICE) (natural_in fields QUANTITY) (n - 7) (weights_in fields 8) in
    let faults : fault ≡ either_fault (fault_said reads) (ranged beyond) = (λ i. either_fault (said_in 0 asked fields i) (weightless_is 0 fields 8 i)) in
    when_sized (nat_le 8 n && nat_le n 15) (with_some kind (λ k. unless fault (command k))) ((4, word_read kind) ∷ reads) beyond
    (with_word 4 kind (λ k. unless fault (command k)) fault (λ k. unless_is fault (command k))
    ∙ ap (either_fault (fault_of 4 (word_read kind))) faults
    ∙ sym (either_assoc (fault_of 4 (word_read kind)) (fault_said reads) (ranged beyond)))

-- an option whose kind is at a place
weightless_from : (place : ℕ) (fields : List (List ℕ)) → weightless place (weights_in fields place) ≡ ranged (weight_place 0 fields place)
weightless_from place fields =
    elim (is_weighted (weights_in fields place)) as (λ b. (if b then None else Some (Range place)) ≡ ranged (if b then None else Some (0 + place))) [ true ↦ refl | false ↦ ap (λ p. Some (Range p)) (sym (zero-add place)) ]

option_is : (words place : ℕ) (asked : List Asked) (fields : List (List ℕ)) → fault_of_said (option_request words place asked fields) ≡ fault_of_shape (option_shape words place asked fields)
option_is words place asked fields =
    let n = length fields in
    let kind = kind_in (text_of fields place) in
    let front = take (n - words) asked in
    let reads = reads_in 0 front fields in
    let beyond = weight_place 0 fields (place + 2) in
    let fault = either_fault (fault_in 0 front fields) (weightless (place + 2) (weights_in fields (place + 2))) in
    let request : Kind → QuoteRequest = λ kind. record {
      market = natural_in fields MARKET;
      budget = natural_in fields BUDGET;
      form = form_of (option_by kind (value_in fields (strike_at (place + 1))) (take (n - (place + 1)) (weights_in fields (place + 2))));
    } in
    let faults : fault ≡ either_fault (fault_said reads) (ranged beyond) = (λ i. either_fault (said_in 0 front fields i) (weightless_from (place + 2) fields i)) in
    when_sized (nat_le (place + 2) n && nat_le n (place + 9)) (with_some kind (λ k. unless fault (request k))) ((place, word_read kind) ∷ reads) beyond
    (with_word place kind (λ k. unless fault (request k)) fault (λ k. unless_is fault (request k))
    ∙ ap (either_fault (fault_of place (word_read kind))) faults
    ∙ sym (either_assoc (fault_of place (word_read kind)) (fault_said reads) (ranged beyond)))

-- ---- bundles
leg_is : (size shift : ℕ) (fields : List (List ℕ)) → fault_at size shift fields ≡ fault_said (leg_reads size shift fields)
leg_is size shift fields =
    let leg = leg_fields size shift fields in
    let asked = take (length leg - 1) LEG in
    let kind = kind_in (text_of leg 2) in
    let reads = (shift + 2, word_read kind) ∷ reads_in shift asked leg in
    elim (has_leg size shift fields) as (λ b. (if b then leg_fault shift leg else None) ≡ fault_said (if b then reads else [])) [
      | true ↦ elim kind as (λ k. either_fault (kind_fault k) (fault_in shift asked leg) ≡ either_fault (fault_of (shift + 2) (word_read k)) (fault_said (reads_in shift asked leg))) [
        | None ↦ refl
        | Some k ↦ said_in shift asked leg
      ]
      | false ↦ refl
    ]

leg_weight_is : (size shift : ℕ) (fields : List (List ℕ)) → weightless_at size shift fields ≡ ranged (leg_weight_place size shift fields)
leg_weight_is size shift fields =
    let leg = leg_fields size shift fields in
    elim (has_leg size shift fields) as (λ b. (if b then weightless (shift + 4) (weights_in leg 4) else None) ≡ ranged (if b then weight_place shift leg 4 else None)) [
      | true ↦ weightless_is shift leg 4
      | false ↦ refl
    ]

legs_are_said : (size : ℕ) (fields : List (List ℕ)) → legs_fault size fields ≡ fault_said (legs_reads size fields)
legs_are_said size fields =
    let a = leg_reads size 7 fields in
    let b = leg_reads size (7 + size) fields in
    let c = leg_reads size (7 + 2 * size) fields in
    let d = leg_reads size (7 + 3 * size) fields in
    (λ i. either_fault (leg_is size 7 fields i) (either_fault (leg_is size (7 + size) fields i) (either_fault (leg_is size (7 + 2 * size) fields i) (leg_is size (7 + 3 * size) fields i))))
    ∙ sym (said-append a (b ++ (c ++ d)) ∙ ap (either_fault (fault_said a)) (said-append b (c ++ d) ∙ ap (either_fault (fault_said b)) (said-append c d)))

too_many_is : (quantity options : ℕ) → too_many quantity options ≡ ranged (if nat_le (quantity * options) MAX_OPTIONS then None else Some 6)
too_many_is quantity options =
    elim (nat_le (quantity * options) MAX_OPTIONS) as (λ b. (if b then None else Some (Range 6)) ≡ ranged (if b then None else Some 6)) [ true ↦ refl | false ↦ refl ]

beyond_is : (size : ℕ) (fields : List (List ℕ)) → either_fault (legs_weightless size fields) (too_many (natural_in fields BUNDLE_QUANTITY) (legs_size size fields)) ≡ ranged (legs_beyond size fields)
beyond_is size fields =
    let a = leg_weight_place size 7 fields in
    let b = leg_weight_place size (7 + size) fields in
    let c = leg_weight_place size (7 + 2 * size) fields in
    let d = leg_weight_place size (7 + 3 * size) fields in
    let over : Option ℕ = if nat_le (natural_in fields BUNDLE_QUANTITY * legs_size size fields) MAX_OPTIONS then None else Some 6 in
    let weights : legs_weightless size fields ≡ ranged (or_else a (or_else b (or_else c d))) =
    (λ i. either_fault (leg_weight_is size 7 fields i) (either_fault (leg_weight_is size (7 + size) fields i) (either_fault (leg_weight_is size (7 + 2 * size) fields i) (leg_weight_is size (7 + 3 * size) fields i))))
    ∙ ap (either_fault (ranged a)) (ap (either_fault (ranged b)) (either_ranged c d) ∙ either_ranged b (or_else c d)) ∙ either_ranged a (or_else b (or_else c d)) in
    (λ i. either_fault (weights i) (too_many_is (natural_in fields BUNDLE_QUANTITY) (legs_size size fields) i)) ∙ either_ranged (or_else a (or_else b (or_else c d))) over

bundle_fault_is : (size : ℕ) (fields : List (List ℕ)) → bundle_fault size fields ≡ either_fault (fault_said (reads_in 0 HEAD fields ++ legs_reads size fields)) (ranged (legs_beyond size fields))
bundle_fault_is size fields =
    (λ i. either_fault (either_fault (said_in 0 HEAD fields i) (legs_are_said size fields i)) (beyond_is size fields i))
    ∙ ap (λ f. either_fault f (ranged (legs_beyond size fields))) (sym (said-append (reads_in 0 HEAD fields) (legs_reads size fields)))

-- a number of legs that is not from 1 to 4 is a fault of its field
some_fault : (fields : List (List ℕ)) → (natural_in fields LEGS == 0) ≡ true → fault_in 0 HEAD fields ≡ None → ⊥
some_fault fields zero none =
    let account = one_asked ACCOUNT fields (LISTED ∷ BUNDLE_PRICE ∷ BUNDLE_QUANTITY ∷ LEGS ∷ []) none in
    let market = one_asked LISTED fields (BUNDLE_PRICE ∷ BUNDLE_QUANTITY ∷ LEGS ∷ []) account.1 in
    let price = one_asked BUNDLE_PRICE fields (BUNDLE_QUANTITY ∷ LEGS ∷ []) market.1 in
    let amount = one_asked BUNDLE_QUANTITY fields (LEGS ∷ []) price.1 in
    let counted = natural_between 1 4 (value_in fields LEGS) (one_asked LEGS fields [] amount.1).0 in
    let none_there : natural_in fields LEGS ≡ 0 = grind (arith, nat_tests, zero) in
    absurd (omega (arith, counted.0, none_there))

refused_is : (fault : Option Fault) → (fault ≡ None → ⊥) → fault_of_said (fault_or_syntax fault) ≡ fault
refused_is None some = absurd (some refl)
refused_is (Some fault) some = refl

legs_shape_is : (fields : List (List ℕ)) (legs : ℕ) (side : Option Side) (each : Option ℕ) → side ≡ side_in (text_of fields 4)
    → fault_of_said (if nat_le 7 (length fields) then with_some side (λ s. with_some each (λ size. sized_command s legs size fields)) else Err Syntax) ≡ fault_of_shape (legs_shape each fields)
legs_shape_is fields legs side None is =
    elim (nat_le 7 (length fields)) as (λ b. fault_of_said {A = Command} (if b then with_some side (λ s. Err Syntax) else Err Syntax) ≡ Some Syntax) [
      | true ↦ with_word {B = Command} 4 side (λ s. Err Syntax) (Some Syntax) (λ s. refl) ∙ either_syntax (fault_of 4 (word_read side))
      | false ↦ refl
    ]
legs_shape_is fields legs side (Some size) is =
    let said : Side → Result Command Fault = λ s. sized_command s legs size fields in
    let fault = bundle_fault size fields in
    let reads = reads_in 0 HEAD fields ++ legs_reads size fields in
    let beyond = legs_beyond size fields in
    when_sized (nat_le 7 (length fields)) (with_some side said) (head_reads fields ++ legs_reads size fields) beyond
    (with_word 4 side said fault (λ s. unless_is fault _)
    ∙ ap (either_fault (fault_of 4 (word_read side))) (bundle_fault_is size fields)
    ∙ sym (either_assoc (fault_of 4 (word_read side)) (fault_said reads) (ranged beyond))
    ∙ ap (λ s. either_fault (either_fault (fault_of 4 (word_read s)) (fault_said reads)) (ranged beyond)) is)

bundle_is : (fields : List (List ℕ)) → fault_of_said (bundle_command fields) ≡ fault_of_shape (bundle_shape fields)
bundle_is fields =
    let n = length fields in
    let legs = natural_in fields LEGS in
    let side = side_in (text_of fields 4) in
    let each = fields_each (n - 7) legs in
    let fault = fault_in 0 HEAD fields in
    let P : Bool → Type 0 = λ b. (legs == 0) ≡ b
    → fault_of_said (if nat_le 7 n then with_some side (λ s. if b then fault_or_syntax fault else with_some each (λ size. sized_command s legs size fields)) else Err Syntax)
    ≡ fault_of_shape (if b then record { sized = nat_le 7 n; reads = head_reads fields; beyond = None } else legs_shape each fields) in
    (elim (legs == 0) as P [
      | true ↦ λ zero.
          when_sized (nat_le 7 n) (with_some side (λ s. fault_or_syntax fault)) (head_reads fields) None
          (with_word 4 side (λ s. fault_or_syntax fault) fault (λ s. refused_is fault (some_fault fields zero))
          ∙ ap (either_fault (fault_of 4 (word_read side))) (said_in 0 HEAD fields)
          ∙ sym (either_none (fault_said (head_reads fields))))
      | false ↦ λ some. legs_shape_is fields legs side each refl
    ]) refl

-- ---- by the word
of_command : (said : Result Command Fault) (shape : Shape) → fault_of_said said ≡ fault_of_shape shape → fault_of_said (as_command said) ≡ fault_of_shape shape
of_command (Ok command) shape is = is
of_command (Err fault) shape is = is

of_quote : (said : Result QuoteRequest Fault) → fault_of_said (as_quote said) ≡ fault_of_said said
of_quote (Ok quote) = refl
of_quote (Err fault) = refl

of_price : (quantity : ℕ) (said : Result QuoteRequest Fault) → fault_of_said (as_price quantity said) ≡ fault_of_said said
of_price quantity (Ok quote) = refl
of_price quantity (Err fault) = refl

of_try : (side : Side) (price quantity : ℕ) (said : Result QuoteRequest Fault) → fault_of_said (as_try side price quantity said) ≡ fault_of_said said
of_try side price quantity (Ok quote) = refl
of_try side price quantity (Err fault) = refl

-- a side that is read beside a shape
with_side : (side : Option Side) (sized : Bool) (reads : List (ℕ × NumberRead)) (beyond : Option ℕ)
    → either_fault (fault_of 4 (word_read side)) (fault_of_shape (record { sized = sized; reads = reads; beyond = beyond }))
    ≡ fault_of_shape (record { sized = sized; reads = (4, word_read side) ∷ reads; beyond = beyond })
with_side None true reads beyond = refl
with_side None false reads beyond = refl
with_side (Some side) sized reads beyond = refl

try_is : (fields : List (List ℕ)) → fault_of_said (try_request fields) ≡ fault_of_shape (try_shape fields)
try_is fields =
    let side = side_in (text_of fields 4) in
    let said = option_request 3 7 TRIED fields in
    let shape = option_shape 3 7 TRIED fields in
    with_word 4 side _ (fault_of_said said) (λ s. of_try s (natural_in fields BUNDLE_PRICE) (natural_in fields BUNDLE_QUANTITY) said)
    ∙ ap (either_fault (fault_of 4 (word_read side))) (option_is 3 7 TRIED fields)
    ∙ with_side side shape.sized shape.reads shape.beyond

word_is_refused : (w : LineWord) (fields : List (List ℕ)) → fault_of_said (said_by w fields) ≡ fault_of_shape (shape_by w fields)
word_is_refused word.Open fields = of_command _ (shape_by word.Open fields) (plain_is (length fields == 2) (ACCOUNT ∷ []) fields (command.Open (natural_in fields ACCOUNT)))
word_is_refused word.Deposit fields = of_command _ (shape_by word.Deposit fields) (plain_is (length fields == 3) (ACCOUNT ∷ AMOUNT ∷ []) fields (command.Deposit (natural_in fields ACCOUNT) (natural_in fields AMOUNT)))
word_is_refused word.Withdraw fields = of_command _ (shape_by word.Withdraw fields) (plain_is (length fields == 3) (ACCOUNT ∷ AMOUNT ∷ []) fields (command.Withdraw (natural_in fields ACCOUNT) (natural_in fields AMOUNT)))
word_is_refused word.Market fields = of_command _ (shape_by word.Market fields) (plain_is (length fields == 3) (MARKET ∷ UNDERLYINGS ∷ []) fields (command.Market (natural_in fields MARKET) (natural_in fields UNDERLYINGS)))
word_is_refused word.Buy fields = of_command _ (shape_by word.Buy fields) (trade_is Buy fields)
word_is_refused word.Sell fields = of_command _ (shape_by word.Sell fields) (trade_is Sell fields)
word_is_refused word.Bundle fields = of_command _ (shape_by word.Bundle fields) (bundle_is fields)
word_is_refused word.Cancel fields = of_command _ (shape_by word.Cancel fields) (plain_is (length fields == 3) (ACCOUNT ∷ ORDER ∷ []) fields (command.Cancel (natural_in fields ACCOUNT) (natural_in fields ORDER)))
word_is_refused word.Clear fields = of_command _ (shape_by word.Clear fields) (plain_is (length fields == 3) (MARKET ∷ BUDGET ∷ []) fields (command.Clear (natural_in fields MARKET) (natural_in fields BUDGET)))
word_is_refused word.Settle fields =
    of_command _ (shape_by word.Settle fields) (plain_is (nat_le 3 (length fields) && nat_le (length fields) 10) (take (length fields - 1) SETTLE) fields (command.Settle (natural_in fields MARKET) (length fields - 2) (prices_in fields)))
word_is_refused word.Balance fields = of_command _ (shape_by word.Balance fields) (plain_is (length fields == 2) (ANY_ACCOUNT ∷ []) fields (command.Balance (natural_in fields ANY_ACCOUNT)))
word_is_refused word.Quote fields = of_quote (option_request 2 4 QUOTED fields) ∙ option_is 2 4 QUOTED fields
word_is_refused word.Price fields = of_price (natural_in fields PRICED_QUANTITY) (option_request 2 5 PRICED fields) ∙ option_is 2 5 PRICED fields
word_is_refused word.Try fields = try_is fields
word_is_refused word.Margin fields = plain_is (length fields == 4) (ACCOUNT ∷ LISTED ∷ MARGIN_BUDGET ∷ []) fields _
word_is_refused word.Book fields = plain_is (length fields == 2) (MARKET ∷ []) fields _
word_is_refused word.Positions fields = plain_is (length fields == 3) (ACCOUNT ∷ LISTED ∷ []) fields _
word_is_refused word.Secure fields = plain_is (length fields == 2) (ACCOUNT ∷ []) fields _
word_is_refused word.Need fields = plain_is (length fields == 2) (ACCOUNT ∷ []) fields _
word_is_refused word.Close fields = plain_is (length fields == 2) (MARKET ∷ []) fields _
word_is_refused word.Reopen fields = plain_is (length fields == 2) (MARKET ∷ []) fields _
word_is_refused word.Propose fields = refl

words_are_refused : (fields : List (List ℕ)) (o : Option LineWord)
    → fault_of_said (with_some o (λ w. said_by w fields)) ≡ option_map_or (λ w. fault_of_shape (shape_by w fields)) o (Some Syntax)
words_are_refused fields None = refl
words_are_refused fields (Some w) = word_is_refused w fields

fields_are_refused : (words : List LineWord) (fields : Option (List (List ℕ)))
    → fault_of_said (with_some fields (said_by_fields words)) ≡ option_map_or (fault_of_words words) fields (Some Syntax)
fields_are_refused words None = refl
fields_are_refused words (Some fields) = words_are_refused fields (word_among words (text_of fields 1))

-- ---- proposals
market_is_refused : (from : ℕ) (read : NumberRead) → fault_of_said (proposed_for from read) ≡ (if is_unread read then Some Syntax else None)
market_is_refused from NotNumber = refl
market_is_refused from Outside = refl
market_is_refused from (Value v) = refl

proposals_are_refused : (text : List ℕ) → fault_of_said (propose_request text) ≡ fault_of_proposal text
proposals_are_refused text = by (position (λ b. b == 44) text)
  where
    by : (o : Option ℕ)
        → fault_of_said (with_some o (λ place. proposed_for (place + 9) (number_in MARKET.low MARKET.high (take place text))))
        ≡ option_map_or (λ place. if is_unread (number_in MARKET.low MARKET.high (take place text)) then Some Syntax else None) o (Some Syntax)
    by None = refl
    by (Some place) = market_is_refused (place + 9) (number_in MARKET.low MARKET.high (take place text))

pub lines_are_refused : LinesAreRefused
lines_are_refused words line = by (proposed_in words line)
  where
    by : (o : Option (List ℕ)) → fault_of_said (said_of words line o) ≡ fault_by words line o
    by None = fields_are_refused words (fields_of_line line)
    by (Some text) = proposals_are_refused text
