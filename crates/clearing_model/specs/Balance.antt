-- Fills that sell of each bundle just what they buy of it.
use Rattle.std.specs.Prelude.{◌≡◌, List, Bool, true, false, ℤ, pos}
use Rattle.std.specs.List.{All}
use Rattle.form.specs.Vector.{is_same_bundle}
use Rattle.form.specs.Payoff.{BundleLeg, bundle_of}
use Rattle.clearing_model.specs.Clearing.{Filled, buys_less_sells}

abbrev pub one_if : Bool → ℤ
one_if true = pos 1
one_if false = pos 0

-- what is bought of the bundle less what is sold of it
abbrev pub balance_of : List BundleLeg → List Filled → ℤ
balance_of bundle fills = buys_less_sells (λ o. one_if (is_same_bundle (bundle_of o) bundle)) fills

-- as much is bought as sold of the bundle of each order
abbrev pub AreBalanced : List Filled → Type 0
AreBalanced fills = All (λ (fill : Filled). balance_of (bundle_of fill.0) fills ≡ pos 0) fills
