-- What a call that writes numbers step by step, in room that it was given, has done.
use Rattle.std.specs.Prelude.{◌≡◌, List, Result}
use Rattle.exact_num.specs.declared.misfit.Wide.{Wide}
use Rattle.exact_num.specs.Fraction.{Fraction}
use Rattle.exact_num.specs.Fits.{meaning}
use Rattle.pricing_oracle.specs.Built.{list_then}

-- the call has made what the steps give, or met their first misfit
abbrev pub HasMade : {A B : Type 0} → (A → B) → Result B Wide → Result A Wide → Type 0
HasMade f steps result = steps ≡ meaning f result

-- the call has added what the steps give to the list
abbrev pub HasFilled : List Fraction → Result (List Fraction) Wide → Result (Unit {0}) Wide → List Fraction → Type 0
HasFilled old steps result new = HasMade (λ (done : Unit {0}). new) (list_then old steps) result
