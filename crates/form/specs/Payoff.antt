-- Options and bundles of the code.
use Rattle.std.specs.Prelude.{◌≡◌, List}
use Rattle.form.specs.declared.forms.Form.{Form}
use Rattle.form.specs.declared.orders.Order.{Order}
pub use Rattle.form.specs.Vector.{IsState, scale_of, dot, positive_part, payoff, BundleLeg, IsBundle, over_legs, bundle_payoff, one}
pub use Rattle.form.specs.Options.{option_of}
pub use Rattle.form.specs.Bundles.{leg_of, legs_in, bundle_legs, count_sizes, IsOnCount, is_on_count, first_option, BundlesAreLegs}

-- the bundle of an order. The laws hold of any bundles, so that no proof of them opens this
-- definition
unfoldable pub bundle_of : Order → List BundleLeg
bundle_of order = bundle_legs order.bundle

-- equal forms are the same option, and forms of the same option are equal
abbrev pub FormsAreOptions : Type 0
FormsAreOptions = (a b : Form) → option_of a ≡ option_of b → (a.count ≡ b.count) × (a.entries ≡ b.entries)
