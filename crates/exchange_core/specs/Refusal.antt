-- The numbers of the refusals in reply lines, and the field that is told with one of them.
use Rattle.std.specs.Prelude.{ℕ}
use Rattle.exchange_core.specs.declared.refusal.Refusal.{Refusal}
use Rattle.exchange_core.specs.declared.refusal.Refusal.TheVariants.{Syntax, NoAccount, AccountExists, NoMarket, MarketExists, Settled, WeightCount, Range, Funds, BookFull, NoOrder, NotOwner, TooMany}

abbrev pub number_of : Refusal → ℕ
number_of Syntax = 1
number_of NoAccount = 2
number_of AccountExists = 3
number_of NoMarket = 4
number_of MarketExists = 5
number_of Settled = 6
number_of WeightCount = 7
number_of (Range field) = 8
number_of Funds = 9
number_of BookFull = 10
number_of NoOrder = 11
number_of NotOwner = 12
number_of TooMany = 13

-- the field that is out of its range; 0 where the refusal is another
abbrev pub field_of : Refusal → ℕ
field_of Syntax = 0
field_of NoAccount = 0
field_of AccountExists = 0
field_of NoMarket = 0
field_of MarketExists = 0
field_of Settled = 0
field_of WeightCount = 0
field_of (Range field) = field
field_of Funds = 0
field_of BookFull = 0
field_of NoOrder = 0
field_of NotOwner = 0
field_of TooMany = 0
