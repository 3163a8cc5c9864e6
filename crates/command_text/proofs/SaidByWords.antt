-- What a line asks, it asks by one of the words for it; and a command that it says where other words
-- may begin it too, it says to a run.
use Rattle.std.proofs.Common.{◌≡◌, ◌==◌, ◌+◌, ◌||◌, ℕ, List, [], ◌∷◌, Bool, true, false, Option, Some, None, Result, Ok, Err, if◌then◌else◌, unsigned_abs, take, true≢false, refl, sym, ap, subst, ◌∙◌}
use Rattle.std.specs.List.{list_any}
use Rattle.std.specs.Prelude.{position}
use Rattle.std.specs.Str.{bytes_eq}
use Rattle.std.proofs.lemmas.Slice.Eq.{bytes_eq-Decides}
use Rattle.std.proofs.lemmas.Bool.{or_right}
use Rattle.form.specs.declared.orders.Side.{Side}
use Rattle.form.specs.declared.orders.Side.TheVariants.{Buy, Sell}
use Rattle.command_text.specs.declared.asked.Fault.{Fault}
use Rattle.command_text.specs.declared.asked.Fault.TheVariants.{Syntax}
use Rattle.command_text.specs.declared.command.Command.{Command}
use Rattle.command_text.specs.declared.command.Body.TheVariants as body
use Rattle.command_text.specs.declared.numbers.NumberRead.{NumberRead}
use Rattle.command_text.specs.declared.numbers.NumberRead.TheVariants.{NotNumber, Outside, Value}
use Rattle.command_text.specs.declared.ranges.TheConstants.{BUNDLE_PRICE, BUNDLE_QUANTITY, MARKET, PRICED, PRICED_QUANTITY, QUOTED, TRIED}
use Rattle.command_text.specs.declared.requests.QuoteRequest.{QuoteRequest}
use Rattle.command_text.specs.declared.requests.Request.{Request}
use Rattle.command_text.specs.declared.requests.Request.TheVariants as asks
use Rattle.command_text.specs.declared.words.LineWord.{LineWord}
use Rattle.command_text.specs.declared.words.LineWord.TheVariants as word
use Rattle.command_text.specs.declared.words.TheConstants.{RUN}
use Rattle.command_text.specs.Asked.{natural_in, text_of}
use Rattle.command_text.specs.Bundles.{bundle_command, side_in}
use Rattle.command_text.specs.Commands.{body_of_line, body_of_said}
use Rattle.command_text.specs.Fields.{fields_of_line}
use Rattle.command_text.specs.Numbers.{number_in}
use Rattle.command_text.specs.Requests.{as_price, as_quote, as_try, option_request, propose_request, proposed_for, proposed_text}
use Rattle.command_text.specs.Said.{as_command, proposed_in, said_by, said_by_fields, said_in, said_of}
use Rattle.command_text.specs.Trades.{balance_command, cancel_command, clear_command, deposit_command, market_command, open_command, settle_command, trade_command, unless, with_some, withdraw_command}
use Rattle.command_text.specs.Words.{is_propose, word_among, word_text}

-- the words for a request
abbrev pub is_for : Request → LineWord → Bool
is_for (asks.Command command) word.Open = true
is_for (asks.Command command) word.Deposit = true
is_for (asks.Command command) word.Withdraw = true
is_for (asks.Command command) word.Market = true
is_for (asks.Command command) word.Buy = true
is_for (asks.Command command) word.Sell = true
is_for (asks.Command command) word.Bundle = true
is_for (asks.Command command) word.Cancel = true
is_for (asks.Command command) word.Clear = true
is_for (asks.Command command) word.Settle = true
is_for (asks.Command command) word.Balance = true
is_for (asks.Quote request) word.Quote = true
is_for (asks.Price request) word.Price = true
is_for (asks.Try request) word.Try = true
is_for (asks.Margin request) word.Margin = true
is_for (asks.Book market) word.Book = true
is_for (asks.Positions account market) word.Positions = true
is_for (asks.Secure number) word.Secure = true
is_for (asks.Need number) word.Need = true
is_for (asks.Close number) word.Close = true
is_for (asks.Reopen number) word.Reopen = true
is_for (asks.Propose request) word.Propose = true
is_for request w = false

module _ (request : Request) where
  abbrev Says : Result Request Fault → Type 0
  Says said = said ≡ Ok request

  -- a request by a word, whatever is asked
  by_command : (w : LineWord) → ((c : Command) → is_for (asks.Command c) w ≡ true) → (said : Result Command Fault) → Says (as_command said) → is_for request w ≡ true
  by_command w is (Ok c) e = let same : asks.Command c ≡ request = cc in subst (λ r. is_for r w ≡ true) same (is c)
  by_command w is (Err fault) e = absurd (cc)

  by_quote : (said : Result QuoteRequest Fault) → Says (as_quote said) → is_for request word.Quote ≡ true
  by_quote (Ok quote) e = let same : asks.Quote quote ≡ request = cc in subst (λ r. is_for r word.Quote ≡ true) same refl
  by_quote (Err fault) e = absurd (cc)

  by_price : (quantity : ℕ) (said : Result QuoteRequest Fault) → Says (as_price quantity said) → is_for request word.Price ≡ true
  by_price quantity (Ok quote) e =
      let same : asks.Price (record { quote = quote; quantity = quantity }) ≡ request = cc in subst (λ r. is_for r word.Price ≡ true) same refl
  by_price quantity (Err fault) e = absurd (cc)

  by_try : (side : Option Side) (price quantity : ℕ) (said : Result QuoteRequest Fault) → Says (with_some side (λ s. as_try s price quantity said)) → is_for request word.Try ≡ true
  by_try None price quantity said e = absurd (cc)
  by_try (Some side) price quantity (Ok quote) e =
      let same : asks.Try (record { quote = quote; side = side; price = price; quantity = quantity }) ≡ request = cc in subst (λ r. is_for r word.Try ≡ true) same refl
  by_try (Some side) price quantity (Err fault) e = absurd (cc)

  by_test : (w : LineWord) (test : Bool) (fault : Option Fault) (asked : Request) → is_for asked w ≡ true → Says (if test then unless fault asked else Err Syntax) → is_for request w ≡ true
  by_test w true None asked is e = let same : asked ≡ request = cc in subst (λ r. is_for r w ≡ true) same is
  by_test w true (Some fault) asked is e = absurd (cc)
  by_test w false fault asked is e = absurd (cc)

  by_market : (from : ℕ) (read : NumberRead) → Says (proposed_for from read) → is_for request word.Propose ≡ true
  by_market from NotNumber e = absurd (cc)
  by_market from Outside e = let same : asks.Propose (record { market = None; from = from }) ≡ request = cc in subst (λ r. is_for r word.Propose ≡ true) same refl
  by_market from (Value v) e =
      let same : asks.Propose (record { market = Some (unsigned_abs v); from = from }) ≡ request = cc in subst (λ r. is_for r word.Propose ≡ true) same refl

  by_proposal : (text : List ℕ) → Says (propose_request text) → is_for request word.Propose ≡ true
  by_proposal text = by (position (λ b. b == 44) text)
    where
      by : (o : Option ℕ) → with_some o (λ place. proposed_for (place + 9) (number_in MARKET.low MARKET.high (take place text))) ≡ Ok request → is_for request word.Propose ≡ true
      by None e = absurd (cc)
      by (Some place) e = by_market (place + 9) (number_in MARKET.low MARKET.high (take place text)) e

  by_word : (w : LineWord) (fields : List (List ℕ)) → Says (said_by w fields) → is_for request w ≡ true
  by_word word.Open fields e = by_command word.Open (λ c. refl) (open_command fields) e
  by_word word.Deposit fields e = by_command word.Deposit (λ c. refl) (deposit_command fields) e
  by_word word.Withdraw fields e = by_command word.Withdraw (λ c. refl) (withdraw_command fields) e
  by_word word.Market fields e = by_command word.Market (λ c. refl) (market_command fields) e
  by_word word.Buy fields e = by_command word.Buy (λ c. refl) (trade_command Buy fields) e
  by_word word.Sell fields e = by_command word.Sell (λ c. refl) (trade_command Sell fields) e
  by_word word.Bundle fields e = by_command word.Bundle (λ c. refl) (bundle_command fields) e
  by_word word.Cancel fields e = by_command word.Cancel (λ c. refl) (cancel_command fields) e
  by_word word.Clear fields e = by_command word.Clear (λ c. refl) (clear_command fields) e
  by_word word.Settle fields e = by_command word.Settle (λ c. refl) (settle_command fields) e
  by_word word.Balance fields e = by_command word.Balance (λ c. refl) (balance_command fields) e
  by_word word.Quote fields e = by_quote (option_request 2 4 QUOTED fields) e
  by_word word.Price fields e = by_price (natural_in fields PRICED_QUANTITY) (option_request 2 5 PRICED fields) e
  by_word word.Try fields e = by_try (side_in (text_of fields 4)) (natural_in fields BUNDLE_PRICE) (natural_in fields BUNDLE_QUANTITY) (option_request 3 7 TRIED fields) e
  by_word word.Margin fields e = by_test word.Margin _ _ _ refl e
  by_word word.Book fields e = by_test word.Book _ _ _ refl e
  by_word word.Positions fields e = by_test word.Positions _ _ _ refl e
  by_word word.Secure fields e = by_test word.Secure _ _ _ refl e
  by_word word.Need fields e = by_test word.Need _ _ _ refl e
  by_word word.Close fields e = by_test word.Close _ _ _ refl e
  by_word word.Reopen fields e = by_test word.Reopen _ _ _ refl e
  by_word word.Propose fields e = absurd (cc)

-- ---- among the words
by_first : (first w : LineWord) (text : List ℕ) (rest : Option LineWord) (same : Bool) → bytes_eq text (word_text first) ≡ same → (rest ≡ Some w → text ≡ word_text w)
    → (if same then Some first else rest) ≡ Some w → text ≡ word_text w
by_first first w text rest true is later e =
    let own : first ≡ w = cc in
    (bytes_eq-Decides text (word_text first)).0 is ∙ ap word_text own
by_first first w text rest false is later e = later e

found : (words : List LineWord) (text : List ℕ) (w : LineWord) → word_among words text ≡ Some w → text ≡ word_text w
found [] text w e = absurd (cc)
found (first ∷ words) text w e = by_first first w text (word_among words text) (bytes_eq text (word_text first)) refl (found words text w) e

more_any : (test : LineWord → Bool) (first w : LineWord) (rest : Option LineWord) (words : List LineWord) (same : Bool) → test w ≡ true → (rest ≡ Some w → list_any test words ≡ true)
    → (if same then Some first else rest) ≡ Some w → (test first || list_any test words) ≡ true
more_any test first w rest words true is later e =
    let own : first ≡ w = cc in
    ap (λ b. b || list_any test words) (ap test own ∙ is)
more_any test first w rest words false is later e = or_right (test first) (list_any test words) (later e)

found_any : (test : LineWord → Bool) (words : List LineWord) (text : List ℕ) (w : LineWord) → test w ≡ true → word_among words text ≡ Some w → list_any test words ≡ true
found_any test [] text w is e = absurd (cc)
found_any test (first ∷ words) text w is e = more_any test first w (word_among words text) words (bytes_eq text (word_text first)) is (found_any test words text w is) e

proposes : (w : LineWord) → is_propose w ≡ true → w ≡ word.Propose
proposes word.Open e = absurd (true≢false (sym e))
proposes word.Deposit e = absurd (true≢false (sym e))
proposes word.Withdraw e = absurd (true≢false (sym e))
proposes word.Market e = absurd (true≢false (sym e))
proposes word.Buy e = absurd (true≢false (sym e))
proposes word.Sell e = absurd (true≢false (sym e))
proposes word.Bundle e = absurd (true≢false (sym e))
proposes word.Cancel e = absurd (true≢false (sym e))
proposes word.Clear e = absurd (true≢false (sym e))
proposes word.Settle e = absurd (true≢false (sym e))
proposes word.Balance e = absurd (true≢false (sym e))
proposes word.Quote e = absurd (true≢false (sym e))
proposes word.Price e = absurd (true≢false (sym e))
proposes word.Try e = absurd (true≢false (sym e))
proposes word.Margin e = absurd (true≢false (sym e))
proposes word.Book e = absurd (true≢false (sym e))
proposes word.Positions e = absurd (true≢false (sym e))
proposes word.Secure e = absurd (true≢false (sym e))
proposes word.Need e = absurd (true≢false (sym e))
proposes word.Close e = absurd (true≢false (sym e))
proposes word.Reopen e = absurd (true≢false (sym e))
proposes word.Propose e = refl

first_proposes : (test : LineWord → Bool) (first : LineWord) (words : List LineWord) (b : Bool) → is_propose first ≡ b → test word.Propose ≡ true
    → (list_any is_propose words ≡ true → list_any test words ≡ true) → (b || list_any is_propose words) ≡ true → (test first || list_any test words) ≡ true
first_proposes test first words true own is later any = ap (λ b. b || list_any test words) (ap test (proposes first own) ∙ is)
first_proposes test first words false own is later any = or_right (test first) (list_any test words) (later any)

any_proposes : (test : LineWord → Bool) (words : List LineWord) → test word.Propose ≡ true → list_any is_propose words ≡ true → list_any test words ≡ true
any_proposes test [] is any = absurd (true≢false (sym any))
any_proposes test (first ∷ words) is any = first_proposes test first words (is_propose first) refl is (any_proposes test words is) any

-- what a line asks, it asks by one of the words for it, which is among those that may begin it
pub asked_by_word : (words : List LineWord) (line : List ℕ) (request : Request) → said_in words line ≡ Ok request → list_any (is_for request) words ≡ true
asked_by_word words line request = by (proposed_in words line) refl
  where
    by_words : (fields : List (List ℕ)) (o : Option LineWord) → word_among words (text_of fields 1) ≡ o → with_some o (λ w. said_by w fields) ≡ Ok request → list_any (is_for request) words ≡ true
    by_words fields None is e = absurd (cc)
    by_words fields (Some w) is e = found_any (is_for request) words (text_of fields 1) w (by_word request w fields e) is

    by_fields : (o : Option (List (List ℕ))) → with_some o (said_by_fields words) ≡ Ok request → list_any (is_for request) words ≡ true
    by_fields None e = absurd (cc)
    by_fields (Some fields) e = by_words fields (word_among words (text_of fields 1)) refl e

    taken : (b : Bool) (text : List ℕ) → (if b then proposed_text line else None) ≡ Some text → b ≡ true
    taken true text e = refl
    taken false text e = absurd (cc)

    by : (o : Option (List ℕ)) → proposed_in words line ≡ o → said_of words line o ≡ Ok request → list_any (is_for request) words ≡ true
    by None is e = by_fields (fields_of_line line) e
    by (Some text) is e = any_proposes (is_for request) words (by_proposal request text e) (taken (list_any is_propose words) text is)

-- a command's word is one of a run's
of_run : (c : Command) (w : LineWord) → is_for (asks.Command c) w ≡ true → word_among RUN (word_text w) ≡ Some w
of_run c word.Open is = refl
of_run c word.Deposit is = refl
of_run c word.Withdraw is = refl
of_run c word.Market is = refl
of_run c word.Buy is = refl
of_run c word.Sell is = refl
of_run c word.Bundle is = refl
of_run c word.Cancel is = refl
of_run c word.Clear is = refl
of_run c word.Settle is = refl
of_run c word.Balance is = refl
of_run c word.Quote is = absurd (true≢false (sym is))
of_run c word.Price is = absurd (true≢false (sym is))
of_run c word.Try is = absurd (true≢false (sym is))
of_run c word.Margin is = absurd (true≢false (sym is))
of_run c word.Book is = absurd (true≢false (sym is))
of_run c word.Positions is = absurd (true≢false (sym is))
of_run c word.Secure is = absurd (true≢false (sym is))
of_run c word.Need is = absurd (true≢false (sym is))
of_run c word.Close is = absurd (true≢false (sym is))
of_run c word.Reopen is = absurd (true≢false (sym is))
of_run c word.Propose is = absurd (true≢false (sym is))

-- a line that says a command says it to a run
pub said_to_run : (words : List LineWord) (line : List ℕ) (c : Command) → said_in words line ≡ Ok (asks.Command c) → said_in RUN line ≡ Ok (asks.Command c)
said_to_run words line c = by (proposed_in words line)
  where
    by_words : (fields : List (List ℕ)) (o : Option LineWord) → word_among words (text_of fields 1) ≡ o → with_some o (λ w. said_by w fields) ≡ Ok (asks.Command c)
        → said_by_fields RUN fields ≡ Ok (asks.Command c)
    by_words fields None is e = absurd (cc)
    by_words fields (Some w) is e =
        ap (λ text. with_some (word_among RUN text) (λ w. said_by w fields)) (found words (text_of fields 1) w is)
        ∙ ap (λ o. with_some o (λ w. said_by w fields)) (of_run c w (by_word (asks.Command c) w fields e)) ∙ e

    by_fields : (o : Option (List (List ℕ))) → with_some o (said_by_fields words) ≡ Ok (asks.Command c) → with_some o (said_by_fields RUN) ≡ Ok (asks.Command c)
    by_fields None e = absurd (cc)
    by_fields (Some fields) e = by_words fields (word_among words (text_of fields 1)) refl e

    by : (o : Option (List ℕ)) → said_of words line o ≡ Ok (asks.Command c) → said_in RUN line ≡ Ok (asks.Command c)
    by None e = by_fields (fields_of_line line) e
    by (Some text) e = absurd (true≢false (sym (by_proposal (asks.Command c) text e)))

pub command_to_run : (words : List LineWord) (line : List ℕ) (c : Command) → said_in words line ≡ Ok (asks.Command c) → body_of_line line ≡ body.Command c
command_to_run words line c e = ap body_of_said (said_to_run words line c e)
