-- The words with which lines begin: a row for each.
use Rattle.std.specs.Prelude.{ℕ, List, [], ◌∷◌, codes, Bool, true, false, Option, Some, None, if◌then◌else◌}
use Rattle.std.specs.Str.{bytes_eq}
use Rattle.command_text.specs.declared.words.LineWord.{LineWord}
use Rattle.command_text.specs.declared.words.LineWord.TheVariants.{Open, Deposit, Withdraw, Market, Buy, Sell, Bundle, Cancel, Clear, Settle, Balance, Quote, Price, Try, Margin, Book, Positions, Secure, Need, Close, Reopen, Propose}

abbrev pub word_text : LineWord → List ℕ
word_text Open = codes "open"
word_text Deposit = codes "deposit"
word_text Withdraw = codes "withdraw"
word_text Market = codes "market"
word_text Buy = codes "buy"
word_text Sell = codes "sell"
word_text Bundle = codes "bundle"
word_text Cancel = codes "cancel"
word_text Clear = codes "clear"
word_text Settle = codes "settle"
word_text Balance = codes "balance"
word_text Quote = codes "quote"
word_text Price = codes "price"
word_text Try = codes "try"
word_text Margin = codes "margin"
word_text Book = codes "book"
word_text Positions = codes "positions"
word_text Secure = codes "secure"
word_text Need = codes "need"
word_text Close = codes "close"
word_text Reopen = codes "reopen"
word_text Propose = codes "propose"

-- the word among these that a text is
abbrev pub word_among : List LineWord → List ℕ → Option LineWord
word_among [] text = None
word_among (word ∷ words) text = if bytes_eq text (word_text word) then Some word else word_among words text

abbrev pub is_propose : LineWord → Bool
is_propose Propose = true
is_propose word = false
