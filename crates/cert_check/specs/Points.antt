-- Points of the code as those of the model.
use Rattle.std.specs.Prelude.{ℕ, ◌+◌, ◌≡◌, List, map}
use Rattle.std.specs.List.{All}
use Rattle.frac.specs.Value.{fraction_of}
use Rattle.form.specs.States.{vector_of}
use Rattle.clearing_model.specs.Certificate.{Point}
use Rattle.cert_check.specs.declared.measures.Weighted.{Weighted}
use Rattle.cert_check.specs.declared.measures.Measure.{Measure}
use Rattle.form.specs.declared.bundles.Bundle.{Bundle}
use Rattle.form.specs.Bundles.{IsOnCount}

abbrev pub point_of : Weighted → Point
point_of weighted = (vector_of weighted.state, fraction_of weighted.weight)

abbrev pub points_of : Measure → List Point
points_of measure = map point_of measure.points

-- each state of the measure has as many entries as the options on n underlyings
abbrev pub IsOnStates : ℕ → Measure → Type 0
IsOnStates n measure = All (λ (point : Weighted). point.state.count ≡ n + 1) measure.points

-- the options of a bundle have as many entries as each state
abbrev pub FitsStates : Bundle → List Weighted → Type 0
FitsStates bundle points = All (λ (point : Weighted). IsOnCount point.state.count bundle) points
