-- The word of a side.
use Rattle.std.specs.Prelude.{ℕ, List, codes}
use Rattle.form.specs.declared.orders.Side.{Side}
use Rattle.form.specs.declared.orders.Side.TheVariants.{Buy, Sell}

abbrev pub side_word : Side → List ℕ
side_word Buy = codes "buy"
side_word Sell = codes "sell"
