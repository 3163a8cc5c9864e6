-- No surplus that fills cover is above the bound of a measure.
use Rattle.market_laws.proofs.Bounds.{no_cover_is_above}
use Rattle.cert_check.specs.MeasureLaws.{NoCoverIsAboveTheBound}
use Rattle.cert_check.proofs.MeasureSound.{bounds_are_exact}

pub no_cover_is_above_the_bound : NoCoverIsAboveTheBound
no_cover_is_above_the_bound limit n orders points bound low measure h =
    no_cover_is_above n orders points bound measure (bounds_are_exact limit orders points bound low h).0
