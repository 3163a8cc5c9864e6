-- Numbers of the code are in lowest terms.
use Rattle.std.proofs.Common.{List, [], ◌∷◌, map, All}
use Rattle.std.proofs.lemmas.List.Elements.{All-nil, All-cons}
use Rattle.exact_num.specs.Fraction.{IsLowest}
use Rattle.frac.specs.declared.frac128.Frac128.{Frac128}
use Rattle.frac.specs.Value.{fraction_of}

pub lowest_of : (fs : List Frac128) → All IsLowest (map fraction_of fs)
lowest_of [] = All-nil IsLowest
lowest_of (f ∷ fs) = All-cons IsLowest (fraction_of f) (map fraction_of fs) f.lowest (lowest_of fs)
