-- The command text that a seed and a number of orders make.
use Rattle.std.specs.Prelude.{ℕ, zero, suc, ◌+◌, ◌*◌, ◌%◌, List, [], ◌++◌, codes, decimal, ◌==◌, ◌||◌, if◌then◌else◌}
use Rattle.demo_run.specs.Draws.{after, drawn}
use Rattle.demo_run.specs.Orders.{order_from, order_line}

-- the texts of 0 to n - 1, one behind another
abbrev pub each : (ℕ → List ℕ) → ℕ → List ℕ
each text zero = []
each text (suc n) = each text n ++ text n

abbrev pub open_line : ℕ → List ℕ
open_line account = codes "open," ++ (decimal account ++ codes "\n")

abbrev pub deposit_line : ℕ → List ℕ
deposit_line account = codes "deposit," ++ (decimal account ++ codes ",1000000000000000\n")

-- a line of each account, of which there are forty
abbrev pub of_accounts : (ℕ → List ℕ) → List ℕ
of_accounts line = each (λ k. line (k + 1)) 40

abbrev pub market_line : List ℕ
market_line = codes "market,1,2\n"

-- a batch is cleared after every 20th order, and after the last
abbrev pub clear_line : ℕ → ℕ → List ℕ
clear_line count orders = if (orders % 20 == 0) || (orders == count) then codes "clear,1,2000\n" else []

-- each order takes seven draws
abbrev pub order_lines : ℕ → ℕ → ℕ → List ℕ
order_lines seed count k = order_line (order_from (after (7 * k) seed)) ++ clear_line count (k + 1)

abbrev pub settle_line : ℕ → List ℕ
settle_line x = codes "settle,1," ++ (decimal (800 + drawn 1 401 x) ++ (codes "," ++ (decimal (800 + drawn 2 401 x) ++ codes "\n")))

-- accounts with their deposits, and a market on two underlyings
abbrev pub opening_text : List ℕ
opening_text = (of_accounts open_line ++ of_accounts deposit_line) ++ market_line

unfoldable pub made_text : ℕ → ℕ → List ℕ
made_text seed count = (opening_text ++ each (order_lines seed count) count) ++ settle_line (after (7 * count) seed)
