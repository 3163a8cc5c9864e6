-- The rule: to whom a line is allowed, by its word and by the account that it names.
use Rattle.std.specs.Prelude.{ℕ, Bool, true, false, ◌&&◌, ◌||◌, nat_le, Option, Some, None}
use Rattle.form.specs.declared.orders.Side.{Side}
use Rattle.form.specs.declared.orders.Side.TheVariants.{Buy, Sell}
use Rattle.command_text.specs.declared.command.Command.{Command}
use Rattle.command_text.specs.declared.command.Command.TheVariants as command
use Rattle.command_text.specs.declared.requests.Request.{Request}
use Rattle.command_text.specs.declared.requests.Request.TheVariants as asks
use Rattle.command_text.specs.declared.words.LineWord.{LineWord}
use Rattle.command_text.specs.declared.words.LineWord.TheVariants as word
use Rattle.members.specs.declared.quota.TheConstants.{LAST_OPERATOR}
use Rattle.members.specs.declared.rule.Whom.{Whom}
use Rattle.members.specs.declared.rule.Whom.TheVariants.{Operator, Owner, OwnerOrOperator, All, Nobody}

-- ---- the table
-- who may send a line with the word as a message
abbrev pub sender_of : LineWord → Whom
sender_of word.Open = All
sender_of word.Deposit = Operator
sender_of word.Withdraw = Owner
sender_of word.Market = Operator
sender_of word.Buy = Owner
sender_of word.Sell = Owner
sender_of word.Bundle = Owner
sender_of word.Cancel = Owner
sender_of word.Clear = Operator
sender_of word.Settle = Operator
sender_of word.Balance = OwnerOrOperator
sender_of word.Quote = Nobody
sender_of word.Price = Nobody
sender_of word.Try = Nobody
sender_of word.Margin = Nobody
sender_of word.Book = All
sender_of word.Positions = OwnerOrOperator
sender_of word.Secure = Owner
sender_of word.Need = Nobody
sender_of word.Close = Operator
sender_of word.Reopen = Operator
sender_of word.Propose = All

-- who may ask it, where it may be asked: as a message may be sent, but for what is no message
abbrev pub asker_of : LineWord → Whom
asker_of word.Quote = All
asker_of word.Price = All
asker_of word.Try = All
asker_of word.Margin = OwnerOrOperator
asker_of word.Need = OwnerOrOperator
asker_of word.Open = sender_of word.Open
asker_of word.Deposit = sender_of word.Deposit
asker_of word.Withdraw = sender_of word.Withdraw
asker_of word.Market = sender_of word.Market
asker_of word.Buy = sender_of word.Buy
asker_of word.Sell = sender_of word.Sell
asker_of word.Bundle = sender_of word.Bundle
asker_of word.Cancel = sender_of word.Cancel
asker_of word.Clear = sender_of word.Clear
asker_of word.Settle = sender_of word.Settle
asker_of word.Balance = sender_of word.Balance
asker_of word.Book = sender_of word.Book
asker_of word.Positions = sender_of word.Positions
asker_of word.Secure = sender_of word.Secure
asker_of word.Close = sender_of word.Close
asker_of word.Reopen = sender_of word.Reopen
asker_of word.Propose = sender_of word.Propose

-- ---- to whom
abbrev pub is_operator : ℕ → Bool
is_operator session = nat_le 1 session && nat_le session LAST_OPERATOR

-- a session is among those; the last says whether it owns the account that the line names
abbrev pub is_among : Whom → ℕ → Bool → Bool
is_among Operator session owns = is_operator session
is_among Owner session owns = owns
is_among OwnerOrOperator session owns = owns || is_operator session
is_among All session owns = true
is_among Nobody session owns = false

-- ---- of a line
-- the word of an order for one option
abbrev pub side_word : Side → LineWord
side_word Buy = word.Buy
side_word Sell = word.Sell

abbrev pub command_word : Command → LineWord
command_word (command.Open account) = word.Open
command_word (command.Deposit account amount) = word.Deposit
command_word (command.Withdraw account amount) = word.Withdraw
command_word (command.Market market underlyings) = word.Market
command_word (command.Trade side account market kind strike price quantity count weights) = side_word side
command_word (command.Bundle side account market price quantity bundle) = word.Bundle
command_word (command.Cancel account order) = word.Cancel
command_word (command.Clear market budget) = word.Clear
command_word (command.Settle market count prices) = word.Settle
command_word (command.Balance account) = word.Balance

abbrev pub word_of : Request → LineWord
word_of (asks.Command said) = command_word said
word_of (asks.Quote request) = word.Quote
word_of (asks.Price request) = word.Price
word_of (asks.Try request) = word.Try
word_of (asks.Margin request) = word.Margin
word_of (asks.Book market) = word.Book
word_of (asks.Positions account market) = word.Positions
word_of (asks.Secure account) = word.Secure
word_of (asks.Need account) = word.Need
word_of (asks.Close market) = word.Close
word_of (asks.Reopen market) = word.Reopen
word_of (asks.Propose request) = word.Propose

-- the account that a line names
abbrev pub command_account : Command → Option ℕ
command_account (command.Open account) = Some account
command_account (command.Deposit account amount) = Some account
command_account (command.Withdraw account amount) = Some account
command_account (command.Market market underlyings) = None
command_account (command.Trade side account market kind strike price quantity count weights) = Some account
command_account (command.Bundle side account market price quantity bundle) = Some account
command_account (command.Cancel account order) = Some account
command_account (command.Clear market budget) = None
command_account (command.Settle market count prices) = None
command_account (command.Balance account) = Some account

abbrev pub account_of : Request → Option ℕ
account_of (asks.Command said) = command_account said
account_of (asks.Quote request) = None
account_of (asks.Price request) = None
account_of (asks.Try request) = None
account_of (asks.Margin request) = Some request.account
account_of (asks.Book market) = None
account_of (asks.Positions account market) = Some account
account_of (asks.Secure account) = Some account
account_of (asks.Need account) = Some account
account_of (asks.Close market) = None
account_of (asks.Reopen market) = None
account_of (asks.Propose request) = None
