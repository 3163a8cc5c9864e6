-- What steps add to a list.
use Rattle.std.specs.Prelude.{◌++◌, List, Result, Ok}
use Rattle.exact_num.specs.declared.misfit.Wide.{Wide as Misfit}
use Rattle.exact_num.specs.Fraction.{Fraction}
use Rattle.exact_num.specs.Fits.{after}

-- the list, and behind it what the steps give
abbrev pub list_then : List Fraction → Result (List Fraction) Misfit → Result (List Fraction) Misfit
list_then old steps = after steps (λ more. Ok (old ++ more))
