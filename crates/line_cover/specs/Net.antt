-- The net payoff of fills at a state step by step, each step with a limit.
use Rattle.std.specs.Prelude.{ℕ, List, pos, Result}
use Rattle.exact_num.specs.declared.misfit.Wide.{Wide}
use Rattle.exact_num.specs.Fraction.{Fraction, whole}
use Rattle.exact_num.specs.Fits.{after}
use Rattle.exact_num.specs.Steps.{fold_steps, less_product}
use Rattle.form.specs.declared.orders.Order.{Order}
use Rattle.form.specs.Payoff.{bundle_of, scale_of}
use Rattle.form.specs.Steps.{add_for_side, bundle_payoff_of}

-- the total and what a fill of the order adds to the net at a state
abbrev pub add_payoff : ℕ → List ℕ → Fraction → Order × Fraction → Result Fraction Wide
add_payoff limit z total fill =
    after (bundle_payoff_of limit (bundle_of fill.0) z) (λ h. add_for_side limit total fill.0.side fill.1 h)

-- the fills one after another
abbrev pub net_of : ℕ → List (Order × Fraction) → List ℕ → Result Fraction Wide
net_of limit fills z = fold_steps (add_payoff limit z) (whole (pos 0)) fills

-- the net less the liability times t
abbrev pub excess : ℕ → List (Order × Fraction) → Fraction → List ℕ → Result Fraction Wide
excess limit fills L z =
    after (net_of limit fills z) (λ net. less_product limit net L (whole (pos (scale_of z))))
