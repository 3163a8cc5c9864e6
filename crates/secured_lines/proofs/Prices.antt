-- A settlement that a line says has as many prices as it says.
use Rattle.std.proofs.Common.{◌≡◌, ℕ, ◌+◌, ◌-◌, ◌≤◌, ◌&&◌, List, Option, Some, None, Result, Ok, Err, IfOk, if◌then◌else◌, ◌==◌, true, false, length, take, Bool, pos, arith, subst}
use Rattle.std.specs.Prelude.{nat_le, position}
use Rattle.std.proofs.lemmas.Bool.{and_parts, leb-true}
use Rattle.command_text.specs.declared.asked.Asked.{Asked}
use Rattle.command_text.specs.declared.asked.Fault.{Fault}
use Rattle.command_text.specs.declared.asked.Fault.TheVariants.{Syntax}
use Rattle.command_text.specs.declared.command.Command.{Command}
use Rattle.command_text.specs.declared.command.Command.TheVariants.{Settle}
use Rattle.command_text.specs.declared.numbers.NumberRead.{NumberRead}
use Rattle.command_text.specs.declared.numbers.NumberRead.TheVariants.{NotNumber, Outside, Value}
use Rattle.command_text.specs.declared.ranges.TheConstants.{MARKET}
use Rattle.command_text.specs.declared.requests.QuoteRequest.{QuoteRequest}
use Rattle.command_text.specs.declared.requests.Request.{Request}
use Rattle.command_text.specs.declared.requests.Request.TheVariants as asks
use Rattle.command_text.specs.declared.words.LineWord.{LineWord}
use Rattle.command_text.specs.declared.words.LineWord.TheVariants as word
use Rattle.command_text.specs.Asked.{natural_in, text_of}
use Rattle.command_text.specs.Bundles.{bundle_command, bundle_fault, counted_command, fault_or_syntax, fields_each, legs_command, side_in, sized_command}
use Rattle.command_text.specs.Fields.{fields_of_line}
use Rattle.command_text.specs.Numbers.{number_in}
use Rattle.command_text.specs.Requests.{as_price, as_quote, as_try, propose_request, proposed_for}
use Rattle.command_text.specs.Said.{as_command, proposed_in, said_by, said_by_fields, said_in, said_of}
use Rattle.command_text.specs.Trades.{kind_in, prices_in, settle_command, trade_command, unless}
use Rattle.command_text.specs.Words.{word_among}
use Rattle.command_text.proofs.Bounds.{either, ok_some, ok_unless}
use Rattle.form.specs.declared.orders.Side.{Side}
use Rattle.form.specs.declared.orders.Side.TheVariants.{Buy, Sell}
use Rattle.secured_accounts.specs.Laws.{HasPrices}

abbrev Priced : Request → Type 0
Priced (asks.Command command) = HasPrices command
Priced request = Unit {0}

-- ---- by a list of fields
plain : {A : Type 0} (P : A → Type 0) (test : Bool) (fault : Option Fault) (said : A) → P said → IfOk (if test then unless fault said else Err Syntax) P
plain P test fault said is = either P test (unless fault said) (Err Syntax) (λ t. ok_unless P fault said (λ e. is)) tt

of_command : (said : Result Command Fault) → IfOk said HasPrices → IfOk (as_command said) Priced
of_command (Ok command) is = is
of_command (Err fault) is = tt

of_quote : (said : Result QuoteRequest Fault) → IfOk (as_quote said) Priced
of_quote (Ok quote) = tt
of_quote (Err fault) = tt

of_try : (side : Side) (price quantity : ℕ) (said : Result QuoteRequest Fault) → IfOk (as_try side price quantity said) Priced
of_try side price quantity (Ok quote) = tt
of_try side price quantity (Err fault) = tt

of_price : (quantity : ℕ) (said : Result QuoteRequest Fault) → IfOk (as_price quantity said) Priced
of_price quantity (Ok quote) = tt
of_price quantity (Err fault) = tt

traded : (side : Side) (fields : List (List ℕ)) → IfOk (trade_command side fields) HasPrices
traded side fields =
    either HasPrices (nat_le 8 (length fields) && nat_le (length fields) 15) _ (Err Syntax) (λ t. ok_some HasPrices (kind_in (text_of fields 4)) _ (λ kind. ok_unless HasPrices _ _ (λ e. tt))) tt

faulty : (fault : Option Fault) → IfOk (fault_or_syntax fault) HasPrices
faulty None = tt
faulty (Some fault) = tt

counted : (side : Side) (legs : ℕ) (fields : List (List ℕ)) → IfOk (counted_command side legs fields) HasPrices
counted side legs fields = by _ (legs == 0)
  where
    by : (fault : Option Fault) (none : Bool) → IfOk (if none then fault_or_syntax fault else legs_command side legs fields) HasPrices
    by fault true = faulty fault
    by fault false = ok_some HasPrices (fields_each (length fields - 7) legs) (λ size. sized_command side legs size fields) (λ size. ok_unless HasPrices (bundle_fault size fields) _ (λ e. tt {0}))

-- where a bundle tells how many legs it has
abbrev legs_asked : Asked
legs_asked = record { place = 7; low = pos 1; high = pos 4; zero = true }

bundled : (fields : List (List ℕ)) → IfOk (bundle_command fields) HasPrices
bundled fields =
    either HasPrices (nat_le 7 (length fields)) _ (Err Syntax) (λ t. ok_some HasPrices (side_in (text_of fields 4)) _ (λ side. counted side (natural_in fields legs_asked) fields)) tt

settled : (fields : List (List ℕ)) → IfOk (settle_command fields) HasPrices
settled fields =
    either HasPrices (nat_le 3 (length fields) && nat_le (length fields) 10) _ (Err Syntax) (λ t.
    ok_unless HasPrices _ (Settle (natural_in fields MARKET) (length fields - 2) (prices_in fields)) (λ e.
    let few : length fields ≤ 10 = leb-true (length fields) 10 (and_parts (nat_le 3 (length fields)) (nat_le (length fields) 10) t).1 in omega (arith, few))) tt

by_word : (w : LineWord) (fields : List (List ℕ)) → IfOk (said_by w fields) Priced
by_word word.Open fields = of_command _ (plain HasPrices _ _ _ tt)
by_word word.Deposit fields = of_command _ (plain HasPrices _ _ _ tt)
by_word word.Withdraw fields = of_command _ (plain HasPrices _ _ _ tt)
by_word word.Market fields = of_command _ (plain HasPrices _ _ _ tt)
by_word word.Buy fields = of_command (trade_command Buy fields) (traded Buy fields)
by_word word.Sell fields = of_command (trade_command Sell fields) (traded Sell fields)
by_word word.Bundle fields = of_command (bundle_command fields) (bundled fields)
by_word word.Cancel fields = of_command _ (plain HasPrices _ _ _ tt)
by_word word.Clear fields = of_command _ (plain HasPrices _ _ _ tt)
by_word word.Settle fields = of_command (settle_command fields) (settled fields)
by_word word.Balance fields = of_command _ (plain HasPrices _ _ _ tt)
by_word word.Quote fields = of_quote _
by_word word.Price fields = of_price _ _
by_word word.Try fields = ok_some Priced (side_in (text_of fields 4)) _ (λ side. of_try side _ _ _)
by_word word.Margin fields = plain Priced _ _ _ tt
by_word word.Book fields = plain Priced _ _ _ tt
by_word word.Positions fields = plain Priced _ _ _ tt
by_word word.Secure fields = plain Priced _ _ _ tt
by_word word.Need fields = plain Priced _ _ _ tt
by_word word.Close fields = plain Priced _ _ _ tt
by_word word.Reopen fields = plain Priced _ _ _ tt
by_word word.Propose fields = tt

-- ---- a proposal says no command
proposed : (from : ℕ) (read : NumberRead) → IfOk (proposed_for from read) Priced
proposed from NotNumber = tt
proposed from Outside = tt
proposed from (Value v) = tt

by_text : (text : List ℕ) → IfOk (propose_request text) Priced
by_text text = ok_some Priced (position (λ b. b == 44) text) _ (λ place. proposed (place + 9) (number_in MARKET.low MARKET.high (take place text)))

said_priced : (words : List LineWord) (line : List ℕ) → IfOk (said_in words line) Priced
said_priced words line = by (proposed_in words line)
  where
    by : (o : Option (List ℕ)) → IfOk (said_of words line o) Priced
    by None = ok_some Priced (fields_of_line line) (said_by_fields words) (λ fields. ok_some Priced (word_among words (text_of fields 1)) _ (λ w. by_word w fields))
    by (Some text) = by_text text

pub has_prices : (words : List LineWord) (line : List ℕ) (c : Command) → said_in words line ≡ Ok (asks.Command c) → HasPrices c
has_prices words line c is = subst (λ (said : Result Request Fault). IfOk said Priced) is (said_priced words line)
