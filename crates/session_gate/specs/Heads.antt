-- How the line that tells the reply to an accepted message begins.
use Rattle.std.specs.Prelude.{ℕ, List, ◌++◌, codes, decimal}

-- up to the reply to the message of this number
abbrev pub accepted_head : ℕ → List ℕ
accepted_head number = codes "{\"number\":" ++ (decimal number ++ codes ",\"of\":")
