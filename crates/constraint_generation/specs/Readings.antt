-- What the code reads off an optimum, with its lists apart, as fractions.
use Rattle.std.specs.Prelude.{List, map}
use Rattle.exact_num.specs.Fraction.{Fraction}
use Rattle.cert_check.specs.Points.{point_of}
use Rattle.cert_check.specs.declared.measures.Weighted.{Weighted}
use Rattle.master_program.specs.Reading.{Reading, reading_with}
use Rattle.constraint_generation.specs.declared.reading.Claim.{Claim}

abbrev pub reading_in_lists : {A : Type 0} → (A → Fraction) → List A → List Weighted → Claim A → Reading
reading_in_lists value fills points read =
    reading_with (map value fills) (value read.surplus) (map point_of points) (value read.liability)
