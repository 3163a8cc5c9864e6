-- What a demo writes.
use Rattle.std.specs.Prelude.{ℕ, ℤ, List, ◌++◌, codes, decimal}
use Rattle.std.specs.Fmt.{signed_decimal}
use Rattle.cash_ledger.specs.Entries.{balance_of}
use Rattle.command_text.specs.Lines.{commands_in}
use Rattle.exchange_core.specs.ExchangeState.{empty_exchange}
use Rattle.exchange_core.specs.LineReplies.{replies_from}
use Rattle.demo_run.specs.Text.{made_text}
use Rattle.demo_run.specs.declared.tally.Tally.{Tally}
use Rattle.demo_run.specs.Tally.{tally_of}

-- the batches, those that their work budget stopped, and the house's balance
abbrev pub house_text : Tally → ℤ → List ℕ
house_text tally house =
    codes "{\"batches\":" ++ (decimal tally.batches ++ (codes ",\"budget\":" ++ (decimal tally.budget ++ (codes ",\"house\":\"" ++ (signed_decimal house ++ codes "\"")))))

abbrev pub lines_text : Tally → List ℕ
lines_text tally =
    codes ",\"lines\":" ++ (decimal tally.lines ++ (codes ",\"optimal\":" ++ (decimal tally.optimal ++ (codes ",\"refused\":" ++ (decimal tally.refused ++ (codes ",\"wide\":" ++ (decimal tally.wide ++ codes "}\n")))))))

-- a compact JSON object, keys in byte order, and a line feed
abbrev pub summary_line : Tally → ℤ → List ℕ
summary_line tally house = house_text tally house ++ lines_text tally

-- the summary of the replies to an input, with the house's balance after them
abbrev pub summary_of : List ℕ → List ℕ
summary_of input =
    let run = replies_from empty_exchange (commands_in input) in
    summary_line (tally_of run.0) (balance_of 0 run.1.entries)

-- the summary of the text that a seed and a number of orders make
abbrev pub demo_output : ℕ → ℕ → List ℕ
demo_output seed count = summary_of (made_text seed count)
