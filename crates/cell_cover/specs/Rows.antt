-- The vectors and signs of the code as those of the walk.
use Rattle.std.specs.Prelude.{ℕ, List, map, take}
use Rattle.exact_num.specs.Fraction.{Fraction}
use Rattle.frac.specs.Value.{fraction_of}
use Rattle.cell_cover.specs.declared.vectors.Row.{Row}
use Rattle.cell_cover.specs.declared.vectors.Sign.{Sign}
use Rattle.cell_cover.specs.declared.vectors.Sign.TheVariants.{Plus as PlusSign, Minus as MinusSign}
use Rattle.cell_cover.specs.declared.vectors.Class.{Class}
use Rattle.cell_cover.specs.declared.vectors.Knowledge.{Knowledge}
use Rattle.cell_cover.specs.declared.vectors.Knowledge.TheVariants.{Signed as SignedKnowledge, Bounded as BoundedKnowledge}
use Rattle.cell_cover.specs.Closed.{Known, Plus, Minus, Bounded}
use Rattle.cell_cover.specs.Walk.{WalkClass}

-- the first `count` entries
abbrev pub row_of : ℕ → Row → List Fraction
row_of count row = map fraction_of (take count row.entries)

abbrev pub sign_as : Sign → Known (List Fraction)
sign_as PlusSign = Plus
sign_as MinusSign = Minus

abbrev pub class_as : ℕ → Class → WalkClass
class_as count class = record { entries = row_of count class.entries; kink = fraction_of class.kink }

abbrev pub known_as : ℕ → Knowledge → Known (List Fraction)
known_as count (SignedKnowledge sign) = sign_as sign
known_as count (BoundedKnowledge row) = Bounded (row_of count row)
